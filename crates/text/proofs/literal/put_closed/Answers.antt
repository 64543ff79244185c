-- `literal::put_closed` meets its contract.
-- Two writers, one behind the other; a byte has at most two digits.
use native.Mathlib.Omega.{arith}
use mathlib.Core.Bool.{false}
use lib.ListN.{length-append}
use Rattle.lists.specs.PutLaws.{put_both}
use Rattle.text.specs.Number.{hex_text}
use Rattle.text.specs.NumberLaws.{hex_length}
use borrow.Author.Rules.{rules}
use Rattle.text.proofs.literal.put_closed.Goals as goal

pub returns : goal.returns
returns c = let a = c.args in record { count = (rw length-append (omega arith), omega (arith, hex_length false 1 a.b (search rules))); text = put_both _ _ (hex_text false a.b) _ _ _ _ c.put_hex-n.ensures.count.0 c.put_hex-n.ensures.text c.min-m.ensures c.put_slice.ensures.text }
