-- `x86::registers::full_register` answers what the definition says of every number.
-- The column of the table, at the number.
use mathlib.Core.Path.{refl}
use Rattle.x86.proofs.Columns.{register_full}
use Rattle.x86.proofs.registers.full_register.Goals as goal

pub returns : goal.returns
returns c =
    rw c.column.ensures (register_full _ refl _)
