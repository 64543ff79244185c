-- Texts that are the same bytes are equal, and texts of other lengths are not.
-- Both lists are walked together.
use mathlib.Core.Path.{◌≡◌, refl, ap}
use mathlib.Core.Bool.{true, false, and-false}
use mathlib.Core.List.{List, [], ◌∷◌}
use Prim.Native.Nat.{ℕ, suc}
use native.Mathlib.Omega.{arith}
use borrow.Author.Tests.{eqb-true}
use lib.Dec.{eqb}
use lib.ListN.{length}
use Rattle.lists.specs.Every.{both_yes}
use Rattle.x86.specs.Words.{same_word}

-- texts that are the same bytes are equal
pub same_text : (x y : List ℕ) → same_word x y ≡ true → x ≡ y
same_text [] [] e = refl
same_text [] (b ∷ y) e = absurd (let z : ◌≡◌ {A = ℕ} 0 1 = cc in omega arith)
same_text (a ∷ x) [] e = absurd (let z : ◌≡◌ {A = ℕ} 0 1 = cc in omega arith)
same_text (a ∷ x) (b ∷ y) e =
    let q = both_yes (eqb a b) (same_word x y) e in
    rw (eqb-true a b q.0, same_text x y q.1)

-- texts of other lengths
pub other_lengths : (s t : List ℕ) → (length s ≡ length t → ⊥) → same_word s t ≡ false
other_lengths [] [] h = absurd (h refl)
other_lengths [] (y ∷ t) h = refl
other_lengths (x ∷ s) [] h = refl
other_lengths (x ∷ s) (y ∷ t) h = rw (other_lengths s t (λ e. h (ap suc e)), and-false)
