-- What rises from each number to the next rises over any distance, so block starts that rise are all different.
-- By induction on the greater number.
use Prim.Native.Nat.{ℕ, zero, suc, ◌-◌, ◌<◌}
use mathlib.Core.Bool.{true, ◌||◌}
use mathlib.Core.List.{List}
use mathlib.Core.Path.{◌≡◌}
use native.Mathlib.Decide.{ℕ_discrete}
use native.Mathlib.Nat.{not-suc-le-zero}
use native.Mathlib.Omega.{arith}
use borrow.Author.Tests.{ltb-true, ne_eqb}
use lib.Dec.{eqb, ltb}
use Rattle.lists.specs.Below.{all_at, all_below_lem}
use Rattle.record.specs.Blocks.{start_at, differ, start_is_new, starts_differ, start_rises, starts_rise}
use Rattle.record.specs.Search.{Rises}

pub rise : (f : ℕ → ℕ) (n : ℕ) → Rises f n → (i j : ℕ) → i < j → j < n → f i < f j
rise f n r i zero a b = absurd (not-suc-le-zero a)
rise f n r i (suc j) a b =
    elim (ℕ_discrete i j) [
      | yes e ↦ rw e (r j b)
      | no e ↦ omega (arith, rise f n r i j (omega arith) (omega arith), r j b)
    ]

-- numbers that a test finds so
pub tested_rise : (f : ℕ → ℕ) (n : ℕ) → ((k : ℕ) → k < n → (eqb k 0 || ltb (f (k - 1)) (f k)) ≡ true) → Rises f n
tested_rise f n t k l =
    let r = t (suc k) l in
    let q : suc k - 1 ≡ k = omega arith in
    ltb-true (f k) (f (suc k)) (rw (ne_eqb (suc k) 0 (λ e. omega arith), q) at r)

module _ (starts : List ℕ) (B : ℕ) (yes : starts_rise starts B ≡ true) where
  pub starts_rise_lem : Rises (start_at starts) B
  unfolding starts_rise
  starts_rise_lem = tested_rise (start_at starts) B (λ k l. all_at (start_rises starts) B k yes l)

  pub rising_differ : starts_differ starts B ≡ true
  unfolding starts_differ start_is_new differ
  rising_differ =
      all_below_lem (start_is_new starts) B (λ k b. all_below_lem (differ starts k) k
      (λ j l. rw (ne_eqb (start_at starts j) (start_at starts k) (λ e. omega (arith, rise (start_at starts) B starts_rise_lem j k l b)))))
