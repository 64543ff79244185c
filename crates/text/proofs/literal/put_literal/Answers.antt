-- `literal::put_literal` meets its contract.
-- Two writers, one behind the other.
use native.Mathlib.Omega.{arith}
use lib.ListN.{length-append}
use Rattle.lists.specs.PutLaws.{put_both}
use Rattle.text.specs.Literal.{literal_text}
use Rattle.text.proofs.literal.put_literal.Goals as goal

pub returns : goal.returns
unfolding literal_text
returns c = record { count = (rw length-append (omega arith), omega arith); text = put_both _ _ _ _ _ _ _ c.put_opening-n.ensures.count.0 c.put_opening-n.ensures.text c.min-m.ensures c.put_inside.ensures.text }
