-- Texts are the same bytes exactly when they are equal, and what says that two are equal says that they are the same.
-- Both lists are walked together; then by cases on the test.
use mathlib.Core.Path.{◌≡◌, refl, ap}
use mathlib.Core.Bool.{Bool, true, ◌&&◌}
use mathlib.Core.List.{List, [], ◌∷◌}
use Prim.Native.Nat.{ℕ}
use lib.Dec.{eqb}
use lib.Pointwise.{pointwise}
use borrow.Author.Tests.{eqb-true, eq-eqb}
use Rattle.lists.specs.Every.{both_yes}
use Rattle.x86.specs.Words.{same_word}
use Rattle.lists.proofs.Tests.{never}

pub same_equal : (a b : List ℕ) → same_word a b ≡ true → a ≡ b
same_equal [] [] e = refl
same_equal [] (y ∷ b) e = never e
same_equal (x ∷ a) [] e = never e
same_equal (x ∷ a) (y ∷ b) e = let q = both_yes (eqb x y) (same_word a b) e in rw (eqb-true x y q.0, same_equal a b q.1)

pub same_self : (a : List ℕ) → same_word a a ≡ true
same_self [] = refl
same_self (x ∷ a) = rw (eq-eqb x x refl, same_self a)

-- as the code tests it
pub same_pointwise : (a b : List ℕ) → pointwise eqb a b ≡ same_word a b
same_pointwise [] [] = refl
same_pointwise [] (y ∷ b) = refl
same_pointwise (x ∷ a) [] = refl
same_pointwise (x ∷ a) (y ∷ b) = ap (λ (t : Bool). eqb x y && t) (same_pointwise a b)
