-- The numbering is full: each is a routine, each comes once, none is missing, and they are in order.
-- Tests computed along the list of all; `once` by the order, as no routine comes before itself.
use mathlib.Core.Path.{◌≡◌, refl, ap}
use mathlib.Core.Bool.{Bool, true, ◌&&◌}
use mathlib.Core.List.{List, [], ◌∷◌}
use Prim.Native.Nat.{ℕ, zero, suc, ◌+◌, ◌≤◌, ◌<◌}
use native.Mathlib.Nat.{zero-add, not-suc-le-zero, le_of_suc-le-suc}
use native.Mathlib.Decide.{dec_le}
use native.Mathlib.Omega.{arith}
use lib.ListN.{length, get_or}
use Rattle.lists.specs.Every.{every_at, both_yes}
use Rattle.lists.proofs.Tests.{is_true}
use Rattle.routines.specs.declared.ending.Ending.{Ending}
use Rattle.routines.specs.declared.ending.Ending.TheVariants.{Ret}
use Rattle.routines.specs.Routine.{allowed, decides, comes_before, IsRoutine, FullSet}
use Rattle.routines.specs.Numbered.{routines, routine_at}
use Rattle.routines.proofs.Rule.{of_one, of_two, of_three}
use Rattle.routines.proofs.Order.{before_self, rising, rising_at}
use Rattle.routines.proofs.Missing.{place, in_all}

-- the endings from block k of n on
abbrev allowed_from : ℕ → ℕ → List Ending → Bool
allowed_from n k [] = true
allowed_from n k (e ∷ r) = allowed n k e && allowed_from n (suc k) r

allowed_at : (n k : ℕ) (r : List Ending) → allowed_from n k r ≡ true → (j : ℕ) → j < length r → allowed n (k + j) (get_or r j Ret) ≡ true
allowed_at n k [] h j l = absurd (not-suc-le-zero l)
allowed_at n k (e ∷ r) h zero l = let z : k + 0 ≡ k = omega arith in rw z (both_yes (allowed n k e) (allowed_from n (suc k) r) h).0
allowed_at n k (e ∷ r) h (suc j) l =
    let s : k + suc j ≡ suc k + j = omega arith in
    rw s (allowed_at n (suc k) r (both_yes (allowed n k e) (allowed_from n (suc k) r) h).1 j (le_of_suc-le-suc l))

abbrev all_allowed : List Ending → Bool
all_allowed r = allowed_from (length r) 0 r

allowed_all : (k : ℕ) → all_allowed (routine_at k) ≡ true
unfolding routine_at routines
allowed_all k = is_true (all_allowed (routine_at k)) (every_at all_allowed [] tt routines k tt)

in_order : rising routines ≡ true
unfolding routines comes_before decides
in_order = refl

count : length routines ≡ 276
unfolding routines
count = refl

order_at : (j k : ℕ) → j < k → k < 276 → comes_before (routine_at j) (routine_at k) ≡ true
unfolding routine_at
order_at j k l h = rising_at routines in_order j k l (omega (arith, count))

once_at : (j k : ℕ) → j < 276 → k < 276 → routine_at j ≡ routine_at k → j ≡ k
once_at j k a b e =
    elim (dec_le (suc j) k) [
      | yes l ↦ absurd (before_self (routine_at k) (rw e at (order_at j k l b)))
      | no l ↦ elim (dec_le (suc k) j) [
        | yes m ↦ absurd (before_self (routine_at k) (rw e at (order_at k j m a)))
        | no m ↦ omega arith
      ]
    ]

missing_at : (r : List Ending) → IsRoutine r → (k : ℕ) × ((k < 276) × (routine_at k ≡ r))
unfolding routine_at
missing_at r i = let p = place [] (in_all r i) in (p.0, (omega (arith, count), p.1.1))

pub length_one : (k : ℕ) → k < 2 → length (routine_at k) ≡ 1
length_one k h = ap length (of_one k h)

pub length_two : (k : ℕ) → 2 ≤ k → k < 20 → length (routine_at k) ≡ 2
length_two k l h = ap length (of_two k l h)

pub length_three : (k : ℕ) → 20 ≤ k → k < 276 → length (routine_at k) ≡ 3
length_three k l h = ap length (of_three k l h)

length_within : (k : ℕ) → k < 276 → (1 ≤ length (routine_at k)) × (length (routine_at k) ≤ 3)
length_within k h =
    elim (dec_le (suc k) 2) [
      | yes a ↦ rw (length_one k a) (omega arith, omega arith)
      | no a ↦ elim (dec_le (suc k) 20) [
        | yes b ↦ rw (length_two k (omega arith) b) (omega arith, omega arith)
        | no b ↦ rw (length_three k (omega arith) h) (omega arith, omega arith)
      ]
    ]

pub full : FullSet routine_at
full = record {
  each = λ k h. record {
    some = (length_within k h).0;
    few = (length_within k h).1;
    each = λ j l. rw (zero-add j) at (allowed_at (length (routine_at k)) 0 (routine_at k) (allowed_all k) j l);
  };
  once = once_at;
  missing = missing_at;
  order = order_at;
  one = length_one;
  two = length_two;
  three = length_three;
}
