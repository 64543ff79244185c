-- Entries one after the other: in two parts, how many they are, and what stands behind the last.
-- By induction on how many there are.
use mathlib.Core.Path.{◌≡◌, refl, ap, ◌∙◌}
use mathlib.Core.List.{◌∷◌, ◌++◌}
use Prim.Native.Nat.{ℕ, zero, suc, ◌+◌, ◌≤◌}
use native.Mathlib.Nat.{add-zero, zero-add}
use native.Mathlib.Omega.{arith}
use lib.ListN.{length, get_or, get_or-eq_default}
use Rattle.lists.specs.Entries.{tab}

module _ {A : Type 0} (f : ℕ → A) where
  pub tab_append : (a m n : ℕ) → tab f a (m + n) ≡ tab f a m ++ tab f (a + m) n
  tab_append a zero n = rw (zero-add, add-zero)
  tab_append a (suc m) n =
      let e : suc m + n ≡ suc (m + n) = omega arith in
      let d : suc a + m ≡ a + suc m = omega arith in
      rw e (ap (λ l. f a ∷ l) (tab_append (suc a) m n ∙ rw d))

  pub tab_length : (a n : ℕ) → length (tab f a n) ≡ n
  tab_length a zero = refl
  tab_length a (suc n) = ap suc (tab_length (suc a) n)

  pub tab_past : (a n k : ℕ) (d : A) → n ≤ k → get_or (tab f a n) k d ≡ d
  tab_past a n k d h = get_or-eq_default (tab f a n) d (omega (arith, tab_length a n))
