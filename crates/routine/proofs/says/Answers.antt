-- `says` meets its contract.
-- The text is compared with the digits, and with the digits and LF.
use mathlib.Core.Path.{◌≡◌, ◌∙◌}
use mathlib.Core.Bool.{Bool, true}
use mathlib.Core.List.{List}
use Prim.Native.Nat.{ℕ}
use native.Mathlib.Nat.{zero-add}
use native.Mathlib.Omega.{arith}
use lib.Dec.{eqb}
use lib.Pointwise.{pointwise, bytes_decides}
use lib.ListN.{length, replicate, length-replicate}
use Rattle.text.proofs.DecimalDigits.{digits_few}
use Rattle.routine.proofs.Said.{with_lf, without_lf, said_by}
use Rattle.routine.proofs.says.Goals as goal

decided : (x : Bool) (s t : List ℕ) → x ≡ pointwise eqb s t → (x ≡ true → s ≡ t) × (s ≡ t → x ≡ true)
decided x s t e = rw e (bytes_decides s t)

pub put_decimal-n-requires : goal.put_decimal-n-requires
put_decimal-n-requires c = omega (arith, digits_few c.args.k (omega arith))

pub returns : goal.returns
returns c =
    let digits = c.put_decimal-n.ensures in
    let stored = c.store.ensures in
    let room : length (replicate {A = ℕ} 6 0) ≡ 6 = length-replicate {A = ℕ} 6 0 in
    said_by _ _ _ _ _ _
    (c.part.ensures.0 ∙ without_lf _ _ _ _ _ (digits.end.0 ∙ zero-add _) (omega (arith, digits.end.1, room)) digits.text stored)
    (c.part-2.ensures.0 ∙ with_lf _ _ _ _ _ (digits.end.0 ∙ zero-add _) (omega (arith, digits.end.1, room)) digits.text stored)
    (decided _ _ _ c.eq.ensures) (decided _ _ _ c.eq-2.ensures)
