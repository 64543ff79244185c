-- Whether labels stand, line by line, as loops over the codes of the lines ask it.
-- What is left of the lines is taken apart at its first; what a line is, is its code's number up to 8.
use mathlib.Core.Path.{◌≡◌, refl, sym, ◌∙◌}
use mathlib.Core.Bool.{Bool, true, false, not, ◌&&◌, ◌||◌}
use mathlib.Core.List.{List, map}
use Prim.Native.Nat.{ℕ, zero, suc, ◌+◌, ◌<◌}
use native.Mathlib.Numerals.{add-one}
use native.Mathlib.Omega.{arith}
use borrow.Author.Tests.{ne_eqb}
use lib.Dec.{eqb}
use lib.ListN.{length, drop, get_or}
use lib.Seq.{drop-cons, drop-length}
use Rattle.lists.specs.Every.{every}
use Rattle.structure.specs.Plan.{Line, what_number}
use Rattle.structure.specs.Reads.{what_in, place_in}
use Rattle.cfg.specs.Graph.{branch_to}
use Rattle.line.specs.Lines.{what_at, line_in}
use Rattle.route.specs.Assumed.{label_stands, is_labelled}

-- a number below 8 is that of one kind of line alone
what_is : (n v : ℕ) → v < 8 → eqb (what_number (what_at n)) v ≡ eqb n v
unfolding what_at
what_is zero v l = refl
what_is (suc zero) v l = refl
what_is (suc (suc zero)) v l = refl
what_is (suc (suc (suc zero))) v l = refl
what_is (suc (suc (suc (suc zero)))) v l = refl
what_is (suc (suc (suc (suc (suc zero))))) v l = refl
what_is (suc (suc (suc (suc (suc (suc zero)))))) v l = refl
what_is (suc (suc (suc (suc (suc (suc (suc zero))))))) v l = refl
what_is (suc (suc (suc (suc (suc (suc (suc (suc n)))))))) v l =
    ne_eqb 8 v (λ e. omega arith) ∙ sym (ne_eqb (suc (suc (suc (suc (suc (suc (suc (suc n)))))))) v (λ e. omega arith))

-- ---- one label
module _ (k : ℕ) (codes : List ℕ) where
  pub stands_none : (i : ℕ) → i ≡ length codes → label_stands k (map line_in (drop i codes)) ≡ false
  unfolding label_stands
  stands_none i e = rw (e, drop-length)

  module _ (i w p : ℕ) (below : i < length codes) (ew : w ≡ what_in (get_or codes i 0)) (ep : p ≡ place_in (get_or codes i 0)) where
    stands_at : label_stands k (map line_in (drop i codes)) ≡ ((eqb w 0 && eqb p k) || label_stands k (map line_in (drop (i + 1) codes)))
    unfolding label_stands line_in
    stands_at = rw (add-one, drop-cons codes i 0 below, ew, ep, what_is (what_in (get_or codes i 0)) 0 (omega arith))

    pub stands_here : (eqb w 0 && eqb p k) ≡ true → label_stands k (map line_in (drop i codes)) ≡ true
    stands_here e = stands_at ∙ rw e

    pub stands_later : (eqb w 0 && eqb p k) ≡ false → label_stands k (map line_in (drop i codes)) ≡ label_stands k (map line_in (drop (i + 1) codes))
    stands_later e = stands_at ∙ rw e

-- ---- one line
module _ (blocks : List ℕ) (plan : List Line) (w code : ℕ) (ew : w ≡ what_in code) where
  labelled_is : is_labelled blocks plan (line_in code) ≡ (not (eqb w 6 || eqb w 3) || label_stands (branch_to blocks (place_in code)) plan)
  unfolding line_in
  labelled_is = rw (ew, what_is (what_in code) 6 (omega arith), what_is (what_in code) 3 (omega arith))

  pub labelled_goto : (eqb w 6 || eqb w 3) ≡ true → is_labelled blocks plan (line_in code) ≡ label_stands (branch_to blocks (place_in code)) plan
  labelled_goto e = labelled_is ∙ rw e

  pub labelled_other : (eqb w 6 || eqb w 3) ≡ false → is_labelled blocks plan (line_in code) ≡ true
  labelled_other e = labelled_is ∙ rw e

-- ---- every line
module _ (blocks : List ℕ) (plan : List Line) (codes : List ℕ) where
  abbrev pub labelled_from : ℕ → Bool
  labelled_from i = every (is_labelled blocks plan) (map line_in (drop i codes))

  pub labelled_all : (i : ℕ) → i ≡ length codes → labelled_from i ≡ true
  labelled_all i e = rw (e, drop-length)

  module _ (i : ℕ) (below : i < length codes) where
    labelled_at : labelled_from i ≡ (is_labelled blocks plan (line_in (get_or codes i 0)) && labelled_from (i + 1))
    labelled_at = rw (add-one, drop-cons codes i 0 below)

    pub labelled_fails : is_labelled blocks plan (line_in (get_or codes i 0)) ≡ false → labelled_from i ≡ false
    labelled_fails e = labelled_at ∙ rw e

    pub labelled_goes_on : is_labelled blocks plan (line_in (get_or codes i 0)) ≡ true → labelled_from i ≡ labelled_from (i + 1)
    labelled_goes_on e = labelled_at ∙ rw e
