-- `read::byte_at` meets its contract.
-- The invariant: index k of the text from code i on is index j of the whole.
use Rattle.std.proofs.Common.{sym, refl, ◌∙◌}
use Rattle.codes.proofs.SpelledLaws.{in_code, behind_code, behind_all}
use Rattle.codes.proofs.read.byte_at.Goals as goal

pub returns-then-k-n : goal.returns-then-k-n
returns-then-k-n c =
    let a = c.args in
    let l = c.loop-i in
    let u = c.element_or-v in
    let m = c.length_of-n in
    in_code a.tables.now a.rec.now a.codes.now l.i _ u.result m.result l.k c.loop-i-test.true refl u.ensures m.ensures _ _ c.if-k-n.true c.byte_in.ensures l.invariant

pub loop-i-preserved : goal.loop-i-preserved
loop-i-preserved c =
    let a = c.args in
    let l = c.loop-i in
    let u = c.element_or-v in
    let m = c.length_of-n in
    sym (behind_code a.tables.now a.rec.now a.codes.now l.i c.width-i.result u.result m.result l.k c.loop-i-test.true c.width-i.ensures u.ensures m.ensures c.if-k-n.false)
    ∙ l.invariant

pub returns : goal.returns
returns c =
    let a = c.args in
    let l = c.loop-i in
    sym (behind_all a.tables.now a.rec.now a.codes.now l.i l.k c.loop-i-test.false) ∙ l.invariant
