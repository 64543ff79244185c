-- A label, if wanted: `label` meets its contract.
-- By whether it is wanted.
use Rattle.structure.proofs.Storing.{stored_none}
use Rattle.structure.proofs.lines.label.Goals as goal

pub returns : goal.returns
returns c = simp c.if-wanted.false (stored_none _ _)
