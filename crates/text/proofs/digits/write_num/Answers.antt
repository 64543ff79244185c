-- `digits::write_num` meets its contract.
-- The sign, if there is one, and the size behind it.
use mathlib.Core.Path.{◌≡◌, refl, ap}
use mathlib.Core.List.{[], ◌∷◌}
use Prim.Native.Nat.{min}
use native.Mathlib.Omega.{arith}
use lib.ListN.{length, set, length-set}
use Rattle.lists.specs.PutLaws.{put_both}
use Rattle.text.proofs.DigitLaws.{num_minus, one_stored}
use Rattle.text.proofs.digits.write_num.Goals as goal

pub returns-then-negative : goal.returns-then-negative
returns-then-negative c = let w = c.write_size.ensures in
    let e = c.args.out.now in
    let s = num_minus _ c.args.size c.if-negative.true in
    let m : 1 ≡ min 1 (length (set e 0 45)) = simp length-set (omega (arith, ap length s)) in
    rw s (record { count = (omega (arith, w.count.0), omega arith); text = put_both 1 1 (45 ∷ []) _ e _ _ refl (one_stored 45 e) m w.text })
