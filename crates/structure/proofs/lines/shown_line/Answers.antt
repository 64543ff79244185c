-- The line of an instruction, if it is shown: `shown_line` meets its contract.
-- By whether it is shown.
use mathlib.Core.Path.{sym}
use Rattle.structure.proofs.Storing.{stored_none}
use Rattle.structure.proofs.lines.shown_line.Goals as goal

pub returns : goal.returns
returns c = simp (sym c.is_shown.ensures, c.if-is_shown.false) (stored_none _ _)
