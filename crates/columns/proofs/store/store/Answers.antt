-- `store::store` meets its contract.
-- With a number nothing is stored; else the record is as long as its header says, so its bodies lie within it.
use native.Mathlib.Omega.{arith}
use lib.ListN.{length}
use Rattle.record.specs.Header.{header_of}
use Rattle.record.proofs.AskedLaws.{sizes_limits}
use Rattle.record.proofs.SizeLaws.{size_small}
use Rattle.columns.proofs.Restored.{record_long, rearranged_is}
use Rattle.columns.proofs.Answers.{store_yes, stores}
use Rattle.columns.proofs.store.store.Goals as goal

pub put_rearranged-requires : goal.put_rearranged-requires
put_rearranged-requires c =
    let a = c.args in
    let s = a.rec.now in
    let y = store_yes s (length a.out.now) c.in_ok-h.ensures.0 in
    let begins = rw c.in_ok-h.ensures.1 at c.bodies_at.ensures.0 in
    let long = record_long s y.0 in
    let small = size_small (header_of s) (sizes_limits s y.0) in
    omega arith

pub returns : goal.returns
returns c rows columns p q =
    let a = c.args in
    let s = a.rec.now in
    let all = c.requires.0 in
    let begins = rw c.in_ok-h.ensures.1 at c.bodies_at.ensures.0 in
    stores rows columns s a.out.now _ c.in_ok-h.ensures.0
    (rw (← p, ← q) all)
    (rw (← rearranged_is rows columns s c.bodies_at.result a.m a.n begins p q all) c.put_rearranged.ensures)
