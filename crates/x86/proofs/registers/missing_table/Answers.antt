-- `x86::registers::missing_table` is the table that the definitions make.
-- One computed test over all of its bytes.
use mathlib.Core.Path.{refl}
use Rattle.x86.specs.Registers.{register_exists}
use Rattle.x86.specs.Table.{missing_table}
use Rattle.x86.proofs.registers.missing_table.Goals as goal

pub returns : goal.returns
unfolding missing_table register_exists
returns c = refl
