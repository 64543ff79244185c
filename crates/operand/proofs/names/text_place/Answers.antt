-- `names::text_place` meets its contract.
-- The texts before it are at most 255 bytes each.
use native.Mathlib.Omega.{arith}
use Rattle.operand.proofs.Entry.{place_small}
use Rattle.operand.proofs.names.text_place.Goals as goal

pub overflow_add-result : goal.overflow_add-result
overflow_add-result c =
    let a = c.args in
    omega (arith, place_small a.h a.rec.now _ a.k _ _ _ c.from.ensures.0 c.pairs_at.ensures.0 c.texts_at.ensures.0 c.text_start.ensures (λ i. omega (arith, c.shared_slice_known-1.given i)) c.texts_at.ensures.1 (omega arith))

pub overflow_cast-result : goal.overflow_cast-result
overflow_cast-result c =
    let a = c.args in
    omega (arith, place_small a.h a.rec.now _ a.k _ _ _ c.from.ensures.0 c.pairs_at.ensures.0 c.texts_at.ensures.0 c.text_start.ensures (λ i. omega (arith, c.shared_slice_known-1.given i)) c.texts_at.ensures.1 (omega arith))
