-- A jump's block is one of three.
-- The test of its ending, by the ending's case.
use mathlib.Core.Path.{◌≡◌}
use mathlib.Core.Bool.{true}
use Prim.Native.Nat.{ℕ, ◌<◌}
use borrow.Author.Tests.{ltb-true}
use Rattle.routines.specs.declared.ending.Ending.{Ending}
use Rattle.routines.specs.declared.ending.Ending.TheVariants.{Jmp, Jne}
use Rattle.routines.specs.Written.{inside}

module _ (e : Ending) (t : ℕ) where
  pub jmp_inside : e ≡ Jmp t → inside e ≡ true → t < 3
  jmp_inside p h = ltb-true t 3 (rw p at h)

  pub jne_inside : e ≡ Jne t → inside e ≡ true → t < 3
  jne_inside p h = ltb-true t 3 (rw p at h)
