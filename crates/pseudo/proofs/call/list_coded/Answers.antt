-- `list_coded` meets its contract.
-- By whether there is room for the sizes, which the codes tell.
use native.Mathlib.Omega.{arith}
use Rattle.rows.specs.Lists.{lists_of}
use Rattle.pseudo.proofs.Answers.{plan_room, plan_holds, plan_listed}
use Rattle.pseudo.proofs.Listing.{stands}
use Rattle.pseudo.proofs.call.list_coded.Goals as goal

pub write_plan-requires : goal.write_plan-requires
write_plan-requires c = let a = c.args in
    let p = c.requires in
    let coded = c.code_plan-sizes in
    let holds = plan_holds a.h a.rec.now a.range a.plan.now (lists_of a.text.now a.ends.now a.kinds.now a.addresses.now a.marks.now a.places.now a.lines.now) _ c.code_plan-sizes.ensures.sizes c.in_ok-ask_room.ensures.0 in
    record { lent = record { room = omega (arith, c.code_plan-sizes.auto.codes, p.lent.room); rising = p.lent.rising }; blocks_value = p.blocks_value; fits = p.fits; holds = holds; holds_lines = c.code_plan-sizes.ensures.codes }

pub put_marks-requires : goal.put_marks-requires
put_marks-requires c = let a = c.args in
    record { indented = c.requires.indented; codes_in_bounds = plan_room a.h a.rec.now a.range a.plan.now (lists_of a.text.now a.ends.now a.kinds.now a.addresses.now a.marks.now a.places.now a.lines.now) _ c.code_plan-sizes.ensures.sizes c.in_ok-ask_room.ensures.0 }

pub returns : goal.returns
returns c =
    let a = c.args in
    plan_listed a.h a.rec.now a.range a.plan.now _ _ c.code_plan-sizes.ensures.sizes _ c.in_ok-ask_room.ensures.0
    (stands _ _ _ _ _ _ c.write_plan.ensures c.put_marks.ensures.addresses c.put_marks.ensures.marks c.put_marks.ensures.places)
