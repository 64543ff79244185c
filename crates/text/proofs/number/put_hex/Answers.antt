-- `number::put_hex` meets its contract.
-- The invariant: to store the digits left of w where the loop stands is to store those of v where it began.
use mathlib.Core.Path.{sym, ◌∙◌}
use native.Mathlib.Omega.{arith}
use Rattle.lists.specs.PutLaws.{put_past}
use Rattle.text.proofs.DigitLaws.{digit_turn, digits_stored}
use Rattle.text.proofs.number.put_hex.Goals as goal

pub returns-then-out-eq0 : goal.returns-then-out-eq0
returns-then-out-eq0 c = record { count = (c.hex_count-n.ensures.0 _, c.hex_count-n.ensures.1); text = sym (put_past _ _ _ (omega arith)) }

pub loop-i-preserved : goal.loop-i-preserved
loop-i-preserved c = digit_turn _ c.loop-i.i c.loop-i.w _ _ _ (omega arith) c.digit_of.ensures c.store.ensures ∙ c.loop-i.invariant

pub returns : goal.returns
returns c =
    let h = c.hex_count-n.ensures in
    record { count = (h.0 _, h.1); text = digits_stored _ c.loop-i.i _ _ _ _ _ (omega arith) (h.0 _) c.loop-i.invariant }
