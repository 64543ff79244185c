-- `list_planned` meets its contract.
-- The codes are the record's plan, read back; its lines fit.
use native.Mathlib.Omega.{arith}
use Rattle.operand.proofs.Bounds.{AllBytes}
use Rattle.pseudo.proofs.Calls.{planned, codes_are, plan_fits, plan_indented, called, looks_carried}
use Rattle.pseudo.proofs.call.list_planned.Goals as goal

pub plan_record-planned-requires : goal.plan_record-planned-requires
plan_record-planned-requires c = record { asked = planned c.args.rec.now c.args.from c.args.to c.args.h c.requires.accepted; rows = c.requires.blocks_value }

pub list_plan-answer-requires : goal.list_plan-answer-requires
list_plan-answer-requires c = let h = c.args.h in
    let s = c.args.rec.now in
    let yes = c.requires.accepted in
    let e = codes_are s c.args.from c.args.to h yes _ _ _ _ c.requires.blocks_in_bounds c.plan_record-planned.ensures.lines c.part-plan.ensures.0 in
    let bytes : AllBytes s = λ k. omega (arith, c.type_inv.rec k) in
    record { rising = c.requires.rising; blocks_value = c.requires.blocks_value; fits = plan_fits s c.args.from c.args.to h yes _ e bytes _; indented = plan_indented s c.args.from c.args.to h yes _ e }

pub returns : goal.returns
returns c = let s = c.args.rec.now in
    let from = c.args.from in
    let to = c.args.to in
    let h = c.args.h in
    let yes = c.requires.accepted in
    let planned = c.plan_record-planned.ensures in
    let e = codes_are s from to h yes _ _ _ _ c.requires.blocks_in_bounds planned.lines c.part-plan.ensures.0 in
    rw c.with_looks.ensures.answer (record { lists = called s from to h yes _ e c.args.blocks.now _ _ _ _ _ c.requires.blocks_value c.size.ensures.0 c.element_or-range.ensures c.list_plan-answer.ensures; looks = looks_carried s from to h yes _ _ _ planned.looks c.with_looks.ensures.looks })
