-- `coded::mask_after` meets its contract.
-- Only an instruction's own line changes the mask.
use Rattle.line.proofs.CodedTurns.{mask_same, mask_changed}
use Rattle.line.proofs.coded.mask_after.Goals as goal

pub returns-then-what_of-lt8 : goal.returns-then-what_of-lt8
returns-then-what_of-lt8 c =
    let a = c.args in
    mask_same a.h a.rec.now a.mask a.code _ c.what_of.ensures c.if-what_of-lt8.true

pub returns : goal.returns
returns c =
    let a = c.args in
    mask_changed a.h a.rec.now a.mask a.code _ c.what_of.ensures _ _ _ c.if-what_of-lt8.false c.instruction_of.ensures c.body_of.ensures c.written_after.ensures
