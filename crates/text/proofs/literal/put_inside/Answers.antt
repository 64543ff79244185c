-- `literal::put_inside` meets its contract.
-- Two writers, one behind the other.
use native.Mathlib.Omega.{arith}
use lib.ListN.{length-append}
use Rattle.lists.specs.PutLaws.{put_both}
use Rattle.text.proofs.literal.put_inside.Goals as goal

pub returns : goal.returns
returns c = record { count = (rw length-append (omega arith), omega arith); text = put_both _ _ _ _ _ _ _ c.put_escapes-n.ensures.count.0 c.put_escapes-n.ensures.text c.min-m.ensures c.put_closing.ensures.text }
