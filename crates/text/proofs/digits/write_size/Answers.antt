-- `digits::write_size` meets its contract.
-- Below 10 one store, else two and the digits behind them.
use mathlib.Core.Path.{◌≡◌, refl, ap}
use mathlib.Core.List.{[], ◌∷◌}
use native.Mathlib.Omega.{arith}
use Prim.Native.Nat.{min}
use lib.ListN.{length, set, length-set}
use Rattle.lists.specs.PutLaws.{put_both}
use Rattle.text.proofs.DigitLaws.{size_one, size_hex, one_stored, two_stored}
use Rattle.text.proofs.digits.write_size.Goals as goal

pub returns-then-size-lt10 : goal.returns-then-size-lt10
returns-then-size-lt10 c = rw (size_one _ c.if-size-lt10.true) (record { count = (refl, omega arith); text = one_stored _ _ })

pub returns : goal.returns
returns c = let w = c.write_hex.ensures in
    let e = c.args.out.now in
    let s = size_hex _ c.if-size-lt10.false in
    let m : 2 ≡ min 2 (length (set (set e 0 48) 1 120)) = simp length-set (omega (arith, ap length s)) in
    rw s (record { count = (omega (arith, w.count.0), omega arith); text = put_both 2 2 (48 ∷ 120 ∷ []) _ e _ _ refl (two_stored 48 120 e) m w.text })
