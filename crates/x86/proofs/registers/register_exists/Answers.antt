-- `x86::registers::register_exists` says which numbers are registers.
-- The code's tests are those of the definition.
use Rattle.x86.specs.Registers.{register_exists}
use Rattle.x86.proofs.registers.register_exists.Goals as goal

pub returns : goal.returns
unfolding register_exists
returns c = simp c.class_size.ensures
