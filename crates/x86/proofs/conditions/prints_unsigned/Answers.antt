-- `x86::conditions::prints_unsigned` answers what the definition says of every number.
-- The column of the table, at the number.
use mathlib.Core.Path.{refl}
use Rattle.x86.proofs.Columns.{condition_unsigned}
use Rattle.x86.proofs.conditions.prints_unsigned.Goals as goal

pub returns : goal.returns
returns c =
    rw c.column.ensures (condition_unsigned _ refl _)
