-- What the registers written become behind a line that is no call and has a register first.
-- By the two tests of the definition.
use mathlib.Core.Path.{◌≡◌}
use mathlib.Core.Bool.{true, ◌&&◌}
use mathlib.Core.List.{List}
use Prim.Native.Nat.{ℕ}
use borrow.Author.Tests.{ne_eqb}
use lib.Dec.{eqb, ltb}
use Rattle.x86.specs.Registers.{full_register}
use Rattle.x86.specs.Conventions.{with_written}
use Rattle.record.specs.Body.{mnemonic_of, operand_count, operand_kind, operand_register}
use Rattle.expressions.specs.Arguments.{written_after}

pub writes : (mask m n k : ℕ) (b : List ℕ) → m ≡ mnemonic_of b → n ≡ operand_count b → k ≡ operand_kind b 0 → (m ≡ 23 → ⊥) → (ltb 0 n && eqb k 0) ≡ true
    → written_after mask b ≡ with_written mask (full_register (operand_register b 0))
unfolding written_after
writes mask m n k b em en ek p q = rw (← em, ne_eqb m 23 p, ← en, ← ek, q)
