-- `x86::conditions::relation_after_cmp` answers what the definition says of every number.
-- The column of the table, at the number.
use mathlib.Core.Path.{refl}
use Rattle.x86.proofs.Columns.{condition_cmp}
use Rattle.x86.proofs.conditions.relation_after_cmp.Goals as goal

pub returns : goal.returns
returns c =
    rw c.column.ensures (condition_cmp _ refl _)
