-- `slots::word_displacement` meets its contract.
-- The reading of the low 16 bits.
use mathlib.Core.Path.{refl, ap}
use Prim.Native.Nat.{ℕ, ◌%◌}
use native.Mathlib.Omega.{arith}
use mir.Syntax.{w64}
use Rattle.lists.specs.SignedLaws.{signed_back}
use Rattle.record.specs.Body.{memory_address}
use Rattle.operand.proofs.slots.word_displacement.Goals as goal

pub returns : goal.returns
returns c =
    let v = memory_address c.args.body.now in
    let e = c.signed_at.ensures 16 v (omega arith) refl (ap (λ (n : ℕ). n % 65536) c.memory_address.ensures) in
    signed_back w64 16 v (omega arith) (omega arith) _ e
