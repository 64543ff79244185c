-- `x86::conditions::relation_after_other` answers what the definition says of every number.
-- The column of the table, at the number.
use mathlib.Core.Path.{refl}
use Rattle.x86.proofs.Columns.{condition_other}
use Rattle.x86.proofs.conditions.relation_after_other.Goals as goal

pub returns : goal.returns
returns c =
    rw c.column.ensures (condition_other _ refl _)
