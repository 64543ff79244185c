-- `x86::conditions::negate` answers what the definition says of every number.
-- The column of the table, at the number.
use mathlib.Core.Path.{refl}
use Rattle.x86.proofs.Columns.{condition_negated}
use Rattle.x86.proofs.conditions.negate.Goals as goal

pub returns : goal.returns
returns c =
    rw c.column.ensures (condition_negated _ refl _)
