-- `names::plain_span` meets its contract.
-- The invariant: no span so far holds the address.
use native.Mathlib.Omega.{arith}
use Rattle.operand.proofs.Entries.{inside}
use Rattle.operand.proofs.names.plain_span.Goals as goal

pub returns-then-plain_u64-va : goal.returns-then-plain_u64-va
returns-then-plain_u64-va c =
    let a = c.args in
    inside a.spans.now a.va _ _ _ c.plain_u64.ensures.0 c.plain_u64-in-loop-k.ensures.0 a.n (omega arith) c.if-plain_u64-va.true
