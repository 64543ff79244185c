-- Whether a text begins with another, byte by byte, as a loop over the other asks it.
-- What is left of both is taken apart at its first byte.
use mathlib.Core.Path.{◌≡◌, refl, ◌∙◌}
use mathlib.Core.Bool.{true, false, ◌&&◌, and-false}
use mathlib.Core.List.{List, [], ◌∷◌}
use Prim.Native.Nat.{ℕ, ◌+◌, ◌<◌}
use native.Mathlib.Nat.{not-suc-le-zero}
use native.Mathlib.Numerals.{add-one}
use native.Mathlib.Omega.{arith}
use borrow.Author.Tests.{eq-eqb, ne_eqb}
use lib.Dec.{eqb}
use lib.ListN.{length, drop, get_or}
use lib.Seq.{drop-cons, drop-length}
use Rattle.checker.specs.Broken.{begins}

pub begins_short : (t w : List ℕ) → length t < length w → begins t w ≡ false
unfolding begins
begins_short t [] h = absurd (not-suc-le-zero h)
begins_short [] (b ∷ w) h = refl
begins_short (a ∷ t) (b ∷ w) h = rw (begins_short t w (omega arith)) (and-false (eqb a b))

-- nothing is left of the other
pub begins_all : (t w : List ℕ) (i : ℕ) → i ≡ length w → begins (drop i t) (drop i w) ≡ true
unfolding begins
begins_all t w i e = rw (e, drop-length)

module _ (t w : List ℕ) (i : ℕ) (p : i < length t) (q : i < length w) where
  begins_at : begins (drop i t) (drop i w) ≡ (eqb (get_or t i 0) (get_or w i 0) && begins (drop (i + 1) t) (drop (i + 1) w))
  unfolding begins
  begins_at = rw (add-one, drop-cons t i 0 p, drop-cons w i 0 q)

  pub begins_fails : (get_or t i 0 ≡ get_or w i 0 → ⊥) → begins (drop i t) (drop i w) ≡ false
  begins_fails n = begins_at ∙ rw (ne_eqb (get_or t i 0) (get_or w i 0) n)

  pub begins_goes_on : get_or t i 0 ≡ get_or w i 0 → begins (drop i t) (drop i w) ≡ begins (drop (i + 1) t) (drop (i + 1) w)
  begins_goes_on e = begins_at ∙ rw (eq-eqb (get_or t i 0) (get_or w i 0) e)
