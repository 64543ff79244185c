-- `stores::put_slice` meets its contract.
-- The invariant: to store the rest of s where the loop stands is to store all of s where it began.
use mathlib.Core.Path.{refl, sym, ◌∙◌}
use native.Mathlib.Omega.{arith}
use lib.ListN.{length-set}
use Rattle.lists.proofs.Storing.{step, done}
use Rattle.lists.proofs.stores.put_slice.Goals as goal

pub loop-i-preserved : goal.loop-i-preserved
loop-i-preserved g c = (omega arith, simp length-set (omega arith), step _ _ _ _ c.index-s-i.is (omega arith) ∙ c.loop-i.invariant.2)

pub returns : goal.returns
returns g c =
    record {
      count = refl;
      text = sym (done _ _ _ (omega arith)) ∙ c.loop-i.invariant.2;
    }
