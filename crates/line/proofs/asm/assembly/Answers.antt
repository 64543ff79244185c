-- `asm::assembly` meets its contract.
-- While all counts as Text the tokens are coded as Text; then no more.
use Rattle.line.proofs.Assembled.{all_assembled}
use Rattle.line.proofs.asm.assembly.Goals as goal

pub returns : goal.returns
returns c =
    let a = c.args in
    all_assembled a.h a.rec.now a.body.now c.requires.codes_value c.set_plain.ensures c.code_name.ensures (c.code_word.ensures a.rec.now) c.code_operands.ensures c.set_plain-2.ensures
