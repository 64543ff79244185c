-- The line of a last direct jmp: `jump_line` meets its contract.
-- By whether it goes to the next place, then whether it goes to a block.
use mathlib.Core.Path.{sym}
use Rattle.structure.proofs.Storing.{stored_none}
use Rattle.structure.proofs.blocks.jump_line.Goals as goal

pub returns-then-goes_next : goal.returns-then-goes_next
returns-then-goes_next c = simp (sym c.goes_next.ensures, c.if-goes_next.true) (stored_none _ _)
