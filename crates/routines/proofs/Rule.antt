-- A routine by its number: which of its places' endings its blocks have.
-- One computed test over all of them.
use mathlib.Core.Path.{◌≡◌, refl, sym, ◌∙◌}
use mathlib.Core.Bool.{true, false}
use mathlib.Core.List.{List, [], ◌∷◌}
use Prim.Native.Nat.{ℕ, ◌+◌, ◌-◌, ◌/◌, ◌%◌, ◌≤◌, ◌<◌}
use native.Mathlib.Omega.{arith}
use borrow.Author.Tests.{lt-ltb, le-ltb}
use lib.Dec.{ltb, eqb}
use lib.ListN.{length, get_or}
use Rattle.lists.specs.Choice.{pick}
use Rattle.lists.specs.Entries.{tab, entry}
use Rattle.routines.specs.declared.ending.Ending.{Ending}
use Rattle.routines.specs.declared.ending.Ending.TheVariants.{Ret}
use Rattle.routines.specs.Numbered.{endings, routines, routine_at}

-- of two blocks the first has 6 endings and the last 3, of three 8, 8 and 4
abbrev pub one : ℕ → List Ending
one n = get_or (endings 1 true) n Ret ∷ []

abbrev pub two : ℕ → List Ending
two n = get_or (endings 2 false) (n / 3) Ret ∷ get_or (endings 2 true) (n % 3) Ret ∷ []

abbrev pub three : ℕ → List Ending
three n = get_or (endings 3 false) (n / 32) Ret ∷ get_or (endings 3 false) (n / 4 % 8) Ret ∷ get_or (endings 3 true) (n % 4) Ret ∷ []

abbrev ruled : ℕ → List Ending
ruled k = pick (ltb k 2) (one k) (pick (ltb k 20) (two (k - 2)) (three (k - 20)))

rule : tab ruled 0 276 ≡ routines
unfolding routines
rule = refl

module _ (k : ℕ) where
  ruled_at : k < 276 → routine_at k ≡ ruled k
  unfolding routine_at
  ruled_at h = sym (entry ruled 276 routines [] rule k h)

  pub of_one : k < 2 → routine_at k ≡ one k
  of_one h = ruled_at (omega arith) ∙ rw (lt-ltb k 2 h)

  pub of_two : 2 ≤ k → k < 20 → routine_at k ≡ two (k - 2)
  of_two l h = ruled_at (omega arith) ∙ rw (le-ltb k 2 l, lt-ltb k 20 h)

  pub of_three : 20 ≤ k → k < 276 → routine_at k ≡ three (k - 20)
  of_three l h = ruled_at h ∙ rw (le-ltb k 2 (omega arith), le-ltb k 20 l)

-- c is the number of block j's ending among its place's
abbrev pub Chosen : List Ending → ℕ → ℕ → Type 0
Chosen r j c = (c < length (endings (length r) (eqb (j + 1) (length r)))) × (get_or (endings (length r) (eqb (j + 1) (length r))) c Ret ≡ get_or r j Ret)
