-- `x86::registers::callee_saved` asks whether the full register is one of those that a callee saves.
-- The tests stand in the definition's order.
use mathlib.Core.Bool.{or_assoc, or-false}
use Rattle.x86.specs.Registers.{callee_saved}
use Rattle.x86.proofs.registers.callee_saved.Goals as goal

pub returns : goal.returns
unfolding callee_saved
returns c = rw (← c.full_register-f.ensures) (simp (or_assoc, or-false))
