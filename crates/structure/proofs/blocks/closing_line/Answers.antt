-- The line of a block's closing branch or jmp: `closing_line` meets its contract.
-- By how the block ends.
use mathlib.Core.Path.{sym}
use borrow.Author.Tests.{eq-eqb, ne_eqb}
use Rattle.structure.specs.Plan.{closing_lines}
use Rattle.structure.proofs.Storing.{stored_none, room_one}
use borrow.Author.Rules.{rules}
use Rattle.structure.proofs.blocks.closing_line.Goals as goal

pub put_line-requires : goal.put_line-requires
unfolding closing_lines
put_line-requires c =
    let room = simp (sym c.ending_in-ending.ensures, eq-eqb _ _ c.if-ending-eq2.true) at c.requires.1 in
    (search rules, search rules, search rules, room_one room)

pub returns-then-ending-eq2 : goal.returns-then-ending-eq2
unfolding closing_lines
returns-then-ending-eq2 c =
    simp (sym c.ending_in-ending.ensures, eq-eqb _ _ c.if-ending-eq2.true) (rw c.last_in.ensures.0 at c.put_line.ensures)

pub jump_line-requires : goal.jump_line-requires
unfolding closing_lines
jump_line-requires c =
    (search rules, simp (sym c.ending_in-ending.ensures, ne_eqb _ _ c.if-ending-eq2.false, eq-eqb _ _ c.if-ending-eq3.true) at c.requires.1)

pub returns-then-ending-eq3 : goal.returns-then-ending-eq3
unfolding closing_lines
returns-then-ending-eq3 c =
    simp (sym c.ending_in-ending.ensures, ne_eqb _ _ c.if-ending-eq2.false, eq-eqb _ _ c.if-ending-eq3.true) c.jump_line.ensures

pub returns : goal.returns
unfolding closing_lines
returns c = simp (sym c.ending_in-ending.ensures, ne_eqb _ _ c.if-ending-eq2.false, ne_eqb _ _ c.if-ending-eq3.false) (stored_none _ _)
