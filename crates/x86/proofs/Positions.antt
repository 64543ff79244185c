-- The leading zeros of the positions give how many registers stand up to the last that is written.
-- By induction on the list of registers: a number of k bits has one leading zero less than its half has of k - 1, unless it is 0.
use mathlib.Core.Path.{◌≡◌, refl, ap, sym, ◌∙◌}
use mathlib.Core.Bool.{◌||◌}
use mathlib.Core.List.{List, [], ◌∷◌}
use Prim.Native.Nat.{ℕ, zero, suc, ◌+◌, ◌-◌, ◌*◌, ◌/◌, ◌%◌, ◌^◌, ◌≤◌, ◌<◌}
use native.Mathlib.Decide.{dec_lt}
use native.Mathlib.Nat.{not-suc-le-zero, le_of_suc-le-suc}
use native.Mathlib.Omega.{arith}
use borrow.Author.Tests.{lt-ltb, le-ltb}
use lib.Count.{count_leading_zeros, leading_of_zero, leading_le}
use lib.Dec.{eqb, ltb}
use lib.ListN.{length}
use Rattle.lists.specs.Choice.{pick}
use Rattle.x86.specs.Conventions.{written, any_written, up_to_last, positions}

bit_or : (b p : ℕ) → b < 2 → (eqb b 1 || ltb 0 p) ≡ ltb 0 (b + 2 * p)
bit_or zero p h = go (dec_lt 0 p)
  where
    go : Dec (0 < p) → ltb 0 p ≡ ltb 0 (0 + 2 * p)
    go (yes l) = lt-ltb 0 p l ∙ sym (lt-ltb 0 (0 + 2 * p) (omega arith))
    go (no n) = le-ltb 0 p (omega arith) ∙ sym (le-ltb 0 (0 + 2 * p) (omega arith))
bit_or (suc zero) p h = sym (lt-ltb 0 (1 + 2 * p) (omega arith))
bit_or (suc (suc b)) p h = absurd (omega arith)

step : (j b p n u : ℕ) → b < 2 → n ≡ b + 2 * p → j - count_leading_zeros j p ≡ u → suc j - count_leading_zeros (suc j) n ≡ pick (ltb 0 n) (suc u) 0
unfolding count_leading_zeros
step j b p zero u h e ih = omega arith
step j b p (suc n) u h e ih =
    let q : suc n / 2 ≡ p = omega arith in
    rw (q, lt-ltb 0 (suc n) (omega arith)) (omega (arith, leading_le j p))

module _ (mask : ℕ) where
  any_positions : (rs : List ℕ) → any_written mask rs ≡ ltb 0 (positions mask rs)
  unfolding written
  any_positions [] = refl
  any_positions (r ∷ rs) = rw (any_positions rs) (bit_or (mask / 2 ^ (r - 80) % 2) (positions mask rs) (omega arith))

  pub up_to_last_lem : (rs : List ℕ) (k : ℕ) → length rs ≤ k → k - count_leading_zeros k (positions mask rs) ≡ up_to_last mask rs
  up_to_last_lem [] k h = rw (leading_of_zero k) (omega arith)
  up_to_last_lem (r ∷ rs) zero h = absurd (not-suc-le-zero h)
  up_to_last_lem (r ∷ rs) (suc k) h =
      rw (any_positions (r ∷ rs))
      (step k (mask / 2 ^ (r - 80) % 2) (positions mask rs) (positions mask (r ∷ rs)) (up_to_last mask rs) (omega arith) refl (up_to_last_lem rs k (le_of_suc-le-suc h)))

  -- as the code has it, at 16 bits
  pub counted : (rs : List ℕ) (p r : ℕ) → length rs ≤ 16 → p ≡ positions mask rs → r ≡ 16 - count_leading_zeros 16 p → r ≡ up_to_last mask rs
  counted rs p r h e c = c ∙ ap (λ (n : ℕ). 16 - count_leading_zeros 16 n) e ∙ up_to_last_lem rs 16 h
