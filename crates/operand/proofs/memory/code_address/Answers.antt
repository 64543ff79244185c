-- `memory::code_address` meets its contract.
-- By whether there is a displacement.
use Rattle.std.specs.Prelude.{not}
use Rattle.std.proofs.Common.{ap}
use Rattle.std.proofs.lemmas.Bool.{ne_eqb}
use Rattle.std.proofs.Common.{eq-eqb}
use Rattle.operand.proofs.Pieces.{no_displacement, with_displacement}
use Rattle.operand.proofs.memory.code_address.Goals as goal

pub returns-then-far : goal.returns-then-far
returns-then-far c s =
    let a = c.args in
    with_displacement a.h a.body.now _ c.displacement-d.ensures _ c.registers_loose.ensures (c.code_if.ensures s) (c.code_registers.ensures s) (c.code_if-2.ensures s) _ (ap not (ne_eqb _ _ c.if-far.true)) c.sign_word.ensures (c.code_word.ensures s) (c.code_num.ensures _ s)

pub returns : goal.returns
returns c s =
    let a = c.args in
    no_displacement a.h a.body.now _ c.displacement-d.ensures _ c.registers_loose.ensures (c.code_if.ensures s) (c.code_registers.ensures s) (c.code_if-2.ensures s) (ap not (eq-eqb _ _ c.if-far.false))
