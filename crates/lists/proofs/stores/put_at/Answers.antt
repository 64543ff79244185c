-- `stores::put_at` meets its contract.
-- One step of storing a list where element i is stored; past the last of them nothing is left to store.
use mathlib.Core.Path.{refl, sym, ◌∙◌}
use native.Mathlib.Omega.{arith}
use lib.ListN.{length-set}
use Rattle.lists.proofs.Storing.{step, done}
use Rattle.lists.proofs.stores.put_at.Goals as goal

pub returns-then-i-n : goal.returns-then-i-n
returns-then-i-n g c = (simp length-set refl, step _ _ _ _ c.index-s-i.is (omega arith))

pub returns-else-i-n : goal.returns-else-i-n
returns-else-i-n g c = (refl, done _ _ _ (omega arith) ∙ sym (done _ _ _ (omega arith)))
