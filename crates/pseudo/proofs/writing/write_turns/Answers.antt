-- `write_turns` meets its contract.
-- The invariant: the lines left, printed with the registers written before them and written from where the cursor stands, give the page of all.
use mathlib.Core.Path.{refl, ◌∙◌}
use Prim.Native.Nat.{ℕ, ◌+◌, ◌-◌}
use native.Mathlib.Omega.{arith}
use lib.ListN.{length-replicate}
use Rattle.line.proofs.CodedTurns.{printed_done}
use Rattle.pseudo.proofs.Listing.{left_all, left_none, part_codes, part_room, part_turn}
use Rattle.pseudo.proofs.writing.write_turns.Goals as goal

pub loop-i-init : goal.loop-i-init
loop-i-init c = (length-replicate {A = ℕ} 16384 0, omega arith, refl, refl, refl, refl, left_all _ _ _ _ _ c.requires.fits c.requires.holds)

pub write_part-p-requires : goal.write_part-p-requires
write_part-p-requires c = let a = c.args in
    let l = c.loop-i in
    record { lent = record { room = omega (arith, c.loop-i.invariant.0); rising = c.requires.rising }; blocks_value = c.requires.blocks_value; plan_in_bounds = part_codes a.h a.rec.now a.range c.loop-i.mask c.loop-i.i (c.loop-i.i + 1 - c.loop-i.i) a.plan.now c.loop-i-test.true (omega arith) c.loop-i.invariant.6 _ c.loop-i.invariant.0; room = part_room a.h a.rec.now a.range c.loop-i.mask c.loop-i.i (c.loop-i.i + 1 - c.loop-i.i) a.plan.now c.loop-i-test.true (omega arith) c.loop-i.invariant.6 }

pub loop-i-preserved : goal.loop-i-preserved
loop-i-preserved c =
    let a = c.args in
    let l = c.loop-i in
    let w = c.write_part-p in (
      c.write_part-p.auto.codes ∙ c.loop-i.invariant.0,
      omega (arith, c.loop-i-test.true),
      c.write_part-p.auto.text ∙ c.loop-i.invariant.2,
      c.write_part-p.auto.ends ∙ c.loop-i.invariant.3,
      c.write_part-p.auto.kinds ∙ c.loop-i.invariant.4,
      c.write_part-p.auto.lines ∙ c.loop-i.invariant.5,
      part_turn a.h a.rec.now a.range c.loop-i.mask c.loop-i.i (c.loop-i.i + 1 - c.loop-i.i) a.plan.now c.loop-i-test.true (omega arith) c.loop-i.invariant.6 _ _ _ _ _ _ c.mask_after-mask.ensures c.write_part-p.auto.text c.write_part-p.auto.ends c.write_part-p.auto.kinds c.write_part-p.auto.lines c.write_part-p.ensures,
    )

pub returns : goal.returns
returns c = let a = c.args in let l = c.loop-i in left_none c.loop-i.invariant.6 (printed_done a.h a.rec.now a.range a.plan.now c.loop-i.i c.loop-i.mask c.loop-i-test.false)
