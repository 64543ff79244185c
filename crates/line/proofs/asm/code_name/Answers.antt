-- `asm::code_name` meets its contract.
-- By whether the mnemonic has a name of its own; the record's name is a part of the body, and so of the record.
use native.Mathlib.Omega.{arith}
use Rattle.codes.proofs.EachToken.{as_token}
use Rattle.line.proofs.Assembled.{name_of_record, name_of_mnemonic, name_short}
use Rattle.line.proofs.asm.code_name.Goals as goal

pub overflow_cast-n : goal.overflow_cast-n
overflow_cast-n c = omega (arith, name_short _ c.name_length-n.ensures)

pub returns-then-m-eq0 : goal.returns-then-m-eq0
returns-then-m-eq0 c =
    let a = c.args in
    as_token _ _ (name_of_record a.h a.rec.now a.body.now _ c.mnemonic-m.ensures a.i _ _ _ c.if-m-eq0.true c.requires.body_value c.from.ensures.0 c.name_length-n.ensures c.name_place.ensures) (c.code_part.ensures _)

pub returns : goal.returns
returns c =
    let a = c.args in
    as_token _ _ (name_of_mnemonic a.h a.rec.now a.body.now _ c.mnemonic-m.ensures c.if-m-eq0.false) (c.code_mnemonic.ensures a.rec.now)
