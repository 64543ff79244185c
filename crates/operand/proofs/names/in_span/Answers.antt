-- `names::in_span` meets its contract.
-- Where spans are missing the invariant: no span so far holds the address.
use mathlib.Core.Path.{◌∙◌}
use native.Mathlib.Omega.{arith}
use Rattle.operand.proofs.Entries.{part_is, inside, of_record_lem}
use Rattle.operand.proofs.names.in_span.Goals as goal

pub returns-then-span_first-va : goal.returns-then-span_first-va
returns-then-span_first-va c =
    let l = c in
    let a = l.args in
    inside l.from-spans.result.now a.va l.loop-k.k _ _ c.span_first.ensures c.span_last.ensures a.h.spans (omega arith) c.if-span_first-va.true
    ∙ of_record_lem a.h a.rec.now _ a.va (part_is _ _ _ _ l.from-spans.ensures.0 l.spans_at.ensures.0)
