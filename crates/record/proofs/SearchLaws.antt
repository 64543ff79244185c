-- The first number that is x, by what is known of all and as a loop asks it, and that there is none; the last that passes a test, as a loop that goes down asks it.
-- Each is the definition at one number, or an induction over those that are left.
use mathlib.Core.Path.{◌≡◌, refl, sym, ap, ◌∙◌}
use mathlib.Core.Bool.{Bool, true, false, not, ◌&&◌, and-true, and_assoc}
use mathlib.Core.List.{List}
use Prim.Native.Nat.{ℕ, zero, suc, ◌+◌, ◌-◌, ◌<◌, ◌≤◌}
use native.Mathlib.Decide.{ℕ_discrete}
use native.Mathlib.Numerals.{add-one}
use native.Mathlib.Omega.{arith}
use lib.Dec.{eqb}
use borrow.Author.Tests.{eq-eqb, ne_eqb}
use Rattle.lists.specs.Choice.{pick, all_below}
use Rattle.record.specs.Search.{number_at, find_from, last_from}
use Rattle.std.specs.Option.{is_some}
use Rattle.std.specs.Prelude.{Option, Some, None}

abbrev pub none : Option ℕ → Bool
none None = true
none (Some k) = false

-- as `is_none` tells it
pub none_is : (found : Option ℕ) (b : Bool) → is_some found ≡ not b → none found ≡ b
none_is None true e = refl
none_is None false e = absurd (cc)
none_is (Some k) true e = absurd (cc)
none_is (Some k) false e = refl

none_pick : (b : Bool) (k : ℕ) (f : Option ℕ) → none (pick b (Some k) f) ≡ (not b && none f)
none_pick true k f = refl
none_pick false k f = refl

module _ (numbers : List ℕ) (x : ℕ) where
  -- none of n numbers from k on
  pub find_nothing : (k n : ℕ) → ((j : ℕ) → j < k + n → number_at numbers j ≡ x → ⊥) → find_from numbers x k n ≡ None
  unfolding find_from
  find_nothing k zero h = refl
  find_nothing k (suc n) h = rw (ne_eqb (number_at numbers k) x (h k (omega arith))) (find_nothing (suc k) n (λ j a. h j (omega arith)))

  -- number m is the first of those from k on
  pub find_first : (k n m : ℕ) → k ≤ m → m < k + n → ((j : ℕ) → j < m → number_at numbers j ≡ x → ⊥) → number_at numbers m ≡ x → find_from numbers x k n ≡ Some m
  unfolding find_from
  find_first k zero m a b h e = absurd (omega arith)
  find_first k (suc n) m a b h e =
      elim (ℕ_discrete k m) [
        | yes q ↦ rw (q, eq-eqb (number_at numbers m) x e)
        | no q ↦ rw (ne_eqb (number_at numbers k) x (h k (omega arith))) (find_first (suc k) n m (omega arith) (omega arith) h e)
      ]

  -- what holds of nothing and of each number before m holds of what is found before m
  pub find_kept : (P : Option ℕ → Type 0) (k n m : ℕ) → k + n ≤ m → P None → ((j : ℕ) → j < m → P (Some j)) → P (find_from numbers x k n)
  unfolding find_from
  find_kept P k zero m h nothing some = nothing
  find_kept P k (suc n) m h nothing some = go (eqb (number_at numbers k) x) (find_kept P (suc k) n m (omega arith) nothing some)
    where
      go : (b : Bool) → P (find_from numbers x (suc k) n) → P (pick b (Some k) (find_from numbers x (suc k) n))
      go true r = some k (omega arith)
      go false r = r

  -- nothing is found where each of the numbers differs
  none_first : (k n : ℕ) → none (find_from numbers x k (suc n)) ≡ (not (eqb (number_at numbers k) x) && none (find_from numbers x (suc k) n))
  unfolding find_from
  none_first k n = none_pick (eqb (number_at numbers k) x) k (find_from numbers x (suc k) n)

  none_last : (k n : ℕ) → none (find_from numbers x k (suc n)) ≡ (none (find_from numbers x k n) && not (eqb (number_at numbers (k + n)) x))
  unfolding find_from
  none_last k zero =
      let e : k ≡ k + 0 = omega arith in
      none_first k 0 ∙ and-true (not (eqb (number_at numbers k) x)) ∙ ap (λ (j : ℕ). not (eqb (number_at numbers j) x)) e
  none_last k (suc n) =
      let e : suc k + n ≡ k + suc n = omega arith in
      none_first k (suc n)
      ∙ ap (λ (b : Bool). not (eqb (number_at numbers k) x) && b) (none_last (suc k) n)
      ∙ sym (and_assoc (not (eqb (number_at numbers k) x)) (none (find_from numbers x (suc k) n)) (not (eqb (number_at numbers (suc k + n)) x)))
      ∙ ap (λ (b : Bool). b && not (eqb (number_at numbers (suc k + n)) x)) (sym (none_first k n))
      ∙ ap (λ (j : ℕ). none (find_from numbers x k (suc n)) && not (eqb (number_at numbers j) x)) e

  pub none_all : (n : ℕ) → none (find_from numbers x 0 n) ≡ all_below (λ j. not (eqb (number_at numbers j) x)) n
  unfolding find_from
  none_all zero = refl
  none_all (suc n) =
      let e : 0 + n ≡ n = omega arith in
      none_last 0 n
      ∙ ap (λ (j : ℕ). none (find_from numbers x 0 n) && not (eqb (number_at numbers j) x)) e
      ∙ ap (λ (b : Bool). b && not (eqb (number_at numbers n) x)) (none_all n)

  -- those from k on, of n
  pub find_all : (n : ℕ) → find_from numbers x 0 (n - 0) ≡ find_from numbers x 0 n
  find_all n = let e : n - 0 ≡ n = omega arith in rw e

  module _ (n k : ℕ) where
    find_one : k < n → find_from numbers x k (n - k) ≡ pick (eqb (number_at numbers k) x) (Some k) (find_from numbers x (k + 1) (n - (k + 1)))
    unfolding find_from
    find_one h = let d : n - k ≡ suc (n - (k + 1)) = omega arith in rw (d, add-one k)

    pub find_here : k < n → number_at numbers k ≡ x → find_from numbers x k (n - k) ≡ Some k
    find_here h e = find_one h ∙ rw (eq-eqb (number_at numbers k) x e)

    pub find_next : k < n → (number_at numbers k ≡ x → ⊥) → find_from numbers x k (n - k) ≡ find_from numbers x (k + 1) (n - (k + 1))
    find_next h e = find_one h ∙ rw (ne_eqb (number_at numbers k) x e)

    pub find_none : n ≤ k → find_from numbers x k (n - k) ≡ None
    unfolding find_from
    find_none h = let d : n - k ≡ 0 = omega arith in rw d

-- the search for the last number that passes, at one number less
pub last_turn : (p : ℕ → Bool) (i j : ℕ) → i < j → last_from p i (j - i) ≡ pick (p (j - 1)) (Some (j - 1)) (last_from p i (j - 1 - i))
unfolding last_from
last_turn p i j h =
    let s : j - i ≡ suc (j - 1 - i) = omega arith in
    let t : i + (j - 1 - i) ≡ j - 1 = omega arith in
    ap (last_from p i) s ∙ ap (λ (x : ℕ). pick (p x) (Some x) (last_from p i (j - 1 - i))) t

pub last_over : (p : ℕ → Bool) (i j : ℕ) → j ≤ i → last_from p i (j - i) ≡ None
unfolding last_from
last_over p i j h = let s : j - i ≡ 0 = omega arith in rw s
