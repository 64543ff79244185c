-- Whether an instruction of a block before its last turns away: `turns_inside` meets its contract.
-- By whether it has one.
use mathlib.Core.Path.{sym}
use Rattle.checker.specs.Rows.{turns_inside}
use Rattle.checker.proofs.blocks.turns_inside.Goals as goal

pub returns-then-n-eq0 : goal.returns-then-n-eq0
unfolding turns_inside
returns-then-n-eq0 c = simp (sym c.count_in-n.ensures.0, c.if-n-eq0.true)

pub returns : goal.returns
unfolding turns_inside
returns c = simp (c.none_turns.ensures, c.first_in.ensures.0, c.count_in-n.ensures.0)
