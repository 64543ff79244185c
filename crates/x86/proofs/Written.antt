-- A register that is written has its bit in the mask, each other one the bit that it had; registers are counted up to the last written.
-- Bit j of 2 ^ i is one exactly where i is j: a computed test over the sixteen registers.
use mathlib.Core.Path.{◌≡◌, refl, ap, ◌∙◌}
use mathlib.Core.Bool.{Bool, true, false}
use mathlib.Core.List.{List, [], ◌∷◌}
use Prim.Native.Nat.{ℕ, zero, suc, ◌-◌, ◌*◌, ◌/◌, ◌%◌, ◌^◌, ◌≤◌, ◌<◌}
use native.Mathlib.Omega.{arith}
use borrow.Author.Tests.{le-leb, lt-ltb, eq-eqb, ne_eqb}
use lib.Bits.{bit_or, or_shr, or_mod, or_zero_r}
use lib.Dec.{T, eqb, eqb→eq}
use lib.ListN.{length}
use Rattle.lists.specs.Choice.{pick, all_below}
use Rattle.lists.specs.Below.{below_at}
use Rattle.x86.specs.Conventions.{written, any_written, up_to_last, with_written}
use Rattle.x86.specs.Registers.{qword}
use Rattle.x86.specs.Table.{bit}

pub shifted : (i : ℕ) → i < 16 → 1 * 2 ^ i % 65536 ≡ 2 ^ i
shifted i h = eqb→eq _ _ (below_at (λ k. eqb (1 * 2 ^ k % 65536) (2 ^ k)) 16 tt i h)

one_bit : ℕ → ℕ → Bool
one_bit i j = eqb (2 ^ i / 2 ^ j % 2) (bit (eqb i j))

all_bits : T (all_below (λ i. all_below (one_bit i) 16) 16)
unfolding one_bit
all_bits = tt

bit_of : (i j : ℕ) → i < 16 → j < 16 → 2 ^ i / 2 ^ j % 2 ≡ bit (eqb i j)
unfolding one_bit
bit_of i j p q = eqb→eq _ _ (below_at (one_bit i) 16 (below_at (λ k. all_below (one_bit k) 16) 16 all_bits i p) j q)

-- bit j of the mask with bit i set
set_at : (m i j : ℕ) → i < 16 → j < 16 → bit_or m (2 ^ i) / 2 ^ j % 2 ≡ bit_or (m / 2 ^ j % 2) (bit (eqb i j))
set_at m i j p q = ap (λ (n : ℕ). n % 2) (or_shr m (2 ^ i) j) ∙ or_mod (m / 2 ^ j) (2 ^ i / 2 ^ j) 1 ∙ ap (bit_or (m / 2 ^ j % 2)) (bit_of i j p q)

or_one : (x : ℕ) → x < 2 → bit_or x 1 ≡ 1
or_one zero h = refl
or_one (suc zero) h = refl
or_one (suc (suc x)) h = absurd (omega arith)

module _ (m i : ℕ) (p : i < 16) where
  gains : with_written m (qword i) ≡ bit_or m (2 ^ i)
  unfolding with_written
  gains =
      let e : qword i - 80 ≡ i = omega arith in
      rw (le-leb 80 (qword i) (omega arith), lt-ltb (qword i) 96 (omega arith), e)

  -- the register is then written
  pub now_written : written (with_written m (qword i)) (qword i) ≡ true
  unfolding written
  now_written =
      let e : qword i - 80 ≡ i = omega arith in
      rw (gains, e, set_at m i i p p, eq-eqb i i refl) (eq-eqb _ 1 (or_one (m / 2 ^ i % 2) (omega arith)))

  -- any other is as it was
  pub still_written : (j : ℕ) → j < 16 → (i ≡ j → ⊥) → written (with_written m (qword i)) (qword j) ≡ written m (qword j)
  unfolding written
  still_written j q n =
      let e : qword j - 80 ≡ j = omega arith in
      rw (gains, e, set_at m i j p q, ne_eqb i j n, or_zero_r (m / 2 ^ j % 2))

-- registers are counted up to the last one written, so there are as many
pub up_to : (mask : ℕ) (rs : List ℕ) → up_to_last mask rs ≤ length rs
up_to mask [] = omega arith
up_to mask (r ∷ rs) = go (any_written mask (r ∷ rs)) (up_to mask rs)
  where
    go : (b : Bool) → up_to_last mask rs ≤ length rs → pick b (suc (up_to_last mask rs)) 0 ≤ suc (length rs)
    go true h = omega arith
    go false h = omega arith
