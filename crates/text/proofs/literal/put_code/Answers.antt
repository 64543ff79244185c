-- `literal::put_code` meets its contract.
-- Two writers, one behind the other.
use native.Mathlib.Omega.{arith}
use Rattle.lists.specs.Ascii.{ascii}
use Rattle.lists.specs.PutLaws.{put_both}
use Rattle.text.specs.Literal.{code_text}
use Rattle.text.proofs.literal.put_code.Goals as goal

pub returns : goal.returns
unfolding code_text
returns c = record { count = (omega arith, omega arith); text = put_both _ _ (ascii "\\u{") _ _ _ _ c.put_slice-n.ensures.count c.put_slice-n.ensures.text c.min-m.ensures c.put_closed.ensures.text }
