-- `x86::registers::register_size` answers what the definition says of every number.
-- The column of the table, at the number.
use mathlib.Core.Path.{refl}
use Rattle.x86.proofs.Columns.{register_sized}
use Rattle.x86.proofs.registers.register_size.Goals as goal

pub returns : goal.returns
returns c =
    rw c.column.ensures (register_sized _ refl _)
