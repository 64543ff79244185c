-- `alike::code_alone` meets its contract.
-- An operand has few tokens: the record and the body are bytes, and the shift is an i32.
use native.Mathlib.Omega.{arith}
use Rattle.operand.specs.Operand.{op_tokens}
use Rattle.operand.proofs.Bounds.{AllBytes, op_within}
use Rattle.operand.proofs.Integers.{small32}
use Rattle.operand.proofs.SameText.{coded_alone}
use Rattle.operand.proofs.alike.code_alone.Goals as goal

pub returns : goal.returns
returns c =
    let a = c.args in
    let rec : AllBytes a.rec.now = λ j. omega (arith, c.type_inv.rec j) in
    let body : AllBytes a.body.now = λ j. omega (arith, c.type_inv.body j) in
    let shift = small32 a.h.shift (record { sfits = c.well_formed.1.1.1.0.1.1.1.1.1.1.1.1.1.1.0.1 }) in
    let w = op_within a.h a.rec.now a.body.now rec body shift a.i in
    coded_alone _ _ _ _ (op_tokens a.h a.rec.now a.body.now a.i) c.start.ensures c.op.ensures (omega (arith, c.start.auto.codes, c.requires.in_bounds)) (omega (arith, c.op.auto.codes)) w.few w.short
