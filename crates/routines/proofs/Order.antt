-- The order of routines is transitive and none comes before itself; a list whose neighbours are in order is in order.
-- By what decides: a smaller number, or an equal one and what comes then.
use mathlib.Core.Path.{◌≡◌, refl}
use mathlib.Core.Bool.{Bool, true, false, ◌&&◌, ◌||◌, or-true}
use mathlib.Core.Logic.{◌⊎◌, inl, inr}
use mathlib.Core.List.{List, [], ◌∷◌}
use Prim.Native.Nat.{ℕ, zero, suc, ◌<◌}
use native.Mathlib.Nat.{not-suc-le-zero, le_of_suc-le-suc}
use native.Mathlib.Omega.{arith}
use borrow.Author.Tests.{lt-ltb, ltb-true, eq-eqb, eqb-true}
use lib.Dec.{ltb, eqb}
use lib.ListN.{length, get_or}
use Rattle.lists.specs.Every.{both_yes}
use Rattle.routines.specs.declared.ending.Ending.{Ending}
use Rattle.routines.specs.Routine.{rank, decides, comes_before}

abbrev first : ℕ → ℕ → Bool → Bool
first p q then = ltb p q || (eqb p q && then)

why : (p q : ℕ) (b : Bool) → first p q b ≡ true → (p < q) ⊎ ((p ≡ q) × (b ≡ true))
why p q b h = go (ltb p q) refl h
  where
    go : (t : Bool) → ltb p q ≡ t → (t || (eqb p q && b)) ≡ true → (p < q) ⊎ ((p ≡ q) × (b ≡ true))
    go true e h = inl (ltb-true p q e)
    go false e h = let w : (eqb p q ≡ true) × (b ≡ true) = both_yes (eqb p q) b h in inr (eqb-true p q w.0, w.1)

smaller : (p q : ℕ) (b : Bool) → p < q → first p q b ≡ true
smaller p q b h = rw (lt-ltb p q h)

equal : (p q : ℕ) (b : Bool) → p ≡ q → b ≡ true → first p q b ≡ true
equal p q b h e = rw (eq-eqb p q h, e) (or-true (ltb p q))

first_trans : (p q r : ℕ) (a b c : Bool) → (a ≡ true → b ≡ true → c ≡ true) → first p q a ≡ true → first q r b ≡ true → first p r c ≡ true
first_trans p q r a b c f x y = go (why p q a x) (why q r b y)
  where
    go : (p < q) ⊎ ((p ≡ q) × (a ≡ true)) → (q < r) ⊎ ((q ≡ r) × (b ≡ true)) → first p r c ≡ true
    go (inl u) (inl v) = smaller p r c (omega arith)
    go (inl u) (inr v) = smaller p r c (omega arith)
    go (inr u) (inl v) = smaller p r c (omega arith)
    go (inr u) (inr v) = equal p r c (omega arith) (f u.1 v.1)

first_self : (p : ℕ) (b : Bool) → first p p b ≡ true → b ≡ true
first_self p b h = go (why p p b h)
  where
    go : (p < p) ⊎ ((p ≡ p) × (b ≡ true)) → b ≡ true
    go (inl u) = absurd (omega arith)
    go (inr u) = u.1

decides_trans : (a b c : List Ending) → decides a b ≡ true → decides b c ≡ true → decides a c ≡ true
unfolding decides
decides_trans [] b c h k = h
decides_trans (x ∷ a) [] c h k = let z : false ≡ true = h in cc
decides_trans (x ∷ a) (y ∷ b) [] h k = k
decides_trans (x ∷ a) (y ∷ b) (z ∷ c) h k = first_trans (rank x) (rank y) (rank z) (decides a b) (decides b c) (decides a c) (decides_trans a b c) h k

before_trans : (a b c : List Ending) → comes_before a b ≡ true → comes_before b c ≡ true → comes_before a c ≡ true
unfolding comes_before
before_trans a b c h k = first_trans (length a) (length b) (length c) (decides a b) (decides b c) (decides a c) (decides_trans a b c) h k

decides_self : (a : List Ending) → decides a a ≡ true → ⊥
unfolding decides
decides_self [] h = let z : ◌≡◌ {A = ℕ} 0 1 = let e : false ≡ true = h in cc in omega arith
decides_self (x ∷ a) h = decides_self a (first_self (rank x) (decides a a) h)

pub before_self : (a : List Ending) → comes_before a a ≡ true → ⊥
unfolding comes_before
before_self a h = decides_self a (first_self (length a) (decides a a) h)

-- each comes before the next
abbrev pub rising : List (List Ending) → Bool
rising [] = true
rising (a ∷ []) = true
rising (a ∷ b ∷ l) = comes_before a b && rising (b ∷ l)

pub rising_at : (l : List (List Ending)) → rising l ≡ true → (j k : ℕ) → j < k → k < length l → comes_before (get_or l j []) (get_or l k []) ≡ true
rising_at l h j zero a b = absurd (not-suc-le-zero a)
rising_at [] h j (suc k) a b = absurd (not-suc-le-zero b)
rising_at (x ∷ []) h j (suc k) a b = absurd (not-suc-le-zero (le_of_suc-le-suc b))
rising_at (x ∷ y ∷ l) h (suc j) (suc k) a b = rising_at (y ∷ l) (both_yes (comes_before x y) (rising (y ∷ l)) h).1 j k (le_of_suc-le-suc a) (le_of_suc-le-suc b)
rising_at (x ∷ y ∷ l) h zero (suc zero) a b = (both_yes (comes_before x y) (rising (y ∷ l)) h).0
rising_at (x ∷ y ∷ l) h zero (suc (suc k)) a b =
    let both : (comes_before x y ≡ true) × (rising (y ∷ l) ≡ true) = both_yes (comes_before x y) (rising (y ∷ l)) h in
    before_trans x y (get_or l k []) both.0 (rising_at (y ∷ l) both.1 zero (suc k) (omega arith) (le_of_suc-le-suc b))
