-- `stores::put_u16` meets its contract.
-- What is stored is read back by the law of the bytes' value.
use mathlib.Core.Path.{refl}
use native.Mathlib.Omega.{arith}
use Rattle.lists.proofs.LittleLaws.{back_u16}
use Rattle.lists.proofs.stores.put_u16.Goals as goal

pub returns : goal.returns
returns c = record { end = refl; bytes = c.put_little.ensures; back = λ room. rw c.put_little.ensures (back_u16 _ _ _ (omega arith) room) }
