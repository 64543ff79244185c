-- `size_range` meets its contract.
-- The codes are the record's plan, read back; its lines fit.
use Prim.Native.Nat.{ℕ, ◌+◌, ◌*◌, ◌≤◌}
use mathlib.Core.Path.{ap}
use native.Mathlib.Omega.{arith}
use lib.ListN.{length, replicate, length-replicate}
use Rattle.std.specs.Prelude.{Ok}
use Rattle.operand.proofs.Bounds.{AllBytes}
use Rattle.pseudo.proofs.Calls.{planned, plan_room, codes_are, plan_fits, sized, looks_carried}
use Rattle.pseudo.proofs.size.size_range.Goals as goal

pub plan_record-planned-requires : goal.plan_record-planned-requires
plan_record-planned-requires c = record { asked = planned c.args.rec.now c.args.from c.args.to c.args.h c.requires.accepted; rows = c.requires.blocks_value }

pub size_plan-sizes-requires : goal.size_plan-sizes-requires
size_plan-sizes-requires c = let h = c.args.h in
    let s = c.args.rec.now in
    let yes = c.requires.accepted in
    let e = codes_are s c.args.from c.args.to h yes (replicate 900 0) _ _ _ (omega (arith, plan_room s c.args.from c.args.to h yes, length-replicate {A = ℕ} 900 0)) c.plan_record-planned.ensures.lines c.part-plan.ensures.0 in
    let bytes : AllBytes s = λ k. omega (arith, c.type_inv.rec k) in
    record { rising = c.requires.rising; blocks_value = c.requires.blocks_value; fits = plan_fits s c.args.from c.args.to h yes _ e bytes _ }

pub returns : goal.returns
returns c = let s = c.args.rec.now in
    let from = c.args.from in
    let to = c.args.to in
    let h = c.args.h in
    let yes = c.requires.accepted in
    let planned = c.plan_record-planned.ensures in
    let room : h.instructions + 2 * h.blocks ≤ length (replicate {A = ℕ} 900 0) = omega (arith, plan_room s from to h yes, length-replicate {A = ℕ} 900 0) in
    let e = codes_are s from to h yes (replicate 900 0) _ _ _ room planned.lines c.part-plan.ensures.0 in
    rw c.with_looks.ensures.answer (record { sizes = ap Ok (sized s from to h yes _ e c.args.blocks.now _ _ _ c.requires.blocks_value c.size.ensures.0 c.element_or-range.ensures c.size_plan-sizes.ensures); looks = looks_carried s from to h yes _ _ _ planned.looks c.with_looks.ensures.looks })
