-- The cycle of calls {emit_range, emit_region}: both meet their contracts. Measures: twice the span, and one more for `emit_range`.
-- The loop's invariant: what is left, stored, gives the whole; the looks so far and those of what is left are the whole's, which fit.
use mathlib.Core.Path.{sym, ◌∙◌}
use Rattle.std.specs.Prelude.{ℕ, ◌+◌, ◌<◌}
use native.Mathlib.Nat.{le_refl}
use native.Mathlib.Omega.{arith}
use lib.ListN.{get_or}
use Rattle.cfg.specs.declared.shape.Shape.TheVariants.{Loop, Region, Plain}
use Rattle.structure.specs.Plan.{range_lines}
use Rattle.structure.proofs.Parts.{region_parts}
use Rattle.structure.proofs.Looked.{edges_fit, looks_fit}
use Rattle.structure.proofs.Turns.{range_over, looks_over, turned}
use Rattle.structure.proofs.Storing.{left_all, left_step, left_done, left_part, room_first, room_second, room_third, room_one, stored_three}
use Rattle.structure.proofs.plan.+emit_range_emit_region.Goals as goal

pub emit_range-loop-i-init : goal.emit_range-loop-i-init
emit_range-loop-i-init t c =
    let a = c.args in
    let small : (k : ℕ) → get_or a.g.now.blocks.now k 0 < 65536 = a.g.now.blocks_fit in
    let b : a.g.now.count < 65536 = a.g.now.count_fits in
    (le_refl _, left_all _ _ _, omega arith, looks_fit a.g.now.blocks.now a.g.now.count small b a.g.now.edges.now a.g.now.starts.now a.g.now.targets.now a.from.0 a.from.0 a.to.0 c.requires.to_le_count.0, edges_fit a.g.now.blocks.now a.g.now.count small b)

pub emit_range-overflow_add-looks : goal.emit_range-overflow_add-looks
emit_range-overflow_add-looks t c =
    omega (arith, c.loop-i.invariant.2, c.loop-i.invariant.3, c.loop-i.invariant.4, c.shape_at-seen.ensures.looks.1)

pub emit_range-emit_loop-written-requires : goal.emit_range-emit_loop-written-requires
emit_range-emit_loop-written-requires t c =
    let a = c.args in
    let r = turned a.g.now.blocks.now a.g.now.edges.now a.g.now.shown.now a.g.now.starts.now a.g.now.targets.now a.g.now.count a.from.0 c.loop-i.i a.to.0 a.indent c.loop-i-test.true (Loop c.in-Loop.j) (sym c.shape_at-seen.ensures.shape ∙ c.in-Loop.is) in
    record { i_le_j = (omega (arith, r.0), omega (arith, r.0, c.requires.to_le_count), omega (arith, r.0, c.requires.to_le_count, c.loop-i.invariant.0)); room = left_part c.loop-i.invariant.1 c.requires.room r.1 }

pub emit_range-overflow_add-looks-in-Loop : goal.emit_range-overflow_add-looks-in-Loop
emit_range-overflow_add-looks-in-Loop t c =
    let a = c.args in
    let r = turned a.g.now.blocks.now a.g.now.edges.now a.g.now.shown.now a.g.now.starts.now a.g.now.targets.now a.g.now.count a.from.0 c.loop-i.i a.to.0 a.indent c.loop-i-test.true (Loop c.in-Loop.j) (sym c.shape_at-seen.ensures.shape ∙ c.in-Loop.is) in
    omega (arith, c.loop-i.invariant.2, c.loop-i.invariant.3, r.2, c.shape_at-seen.ensures.looks.0, c.emit_loop-written.ensures.looks.0)

pub emit_range-overflow_add-i : goal.emit_range-overflow_add-i
emit_range-overflow_add-i t c =
    let a = c.args in
    let r = turned a.g.now.blocks.now a.g.now.edges.now a.g.now.shown.now a.g.now.starts.now a.g.now.targets.now a.g.now.count a.from.0 c.loop-i.i a.to.0 a.indent c.loop-i-test.true (Loop c.in-Loop.j) (sym c.shape_at-seen.ensures.shape ∙ c.in-Loop.is) in
    omega (arith, r.0, c.requires.to_le_count, c.args.g.now.count_fits)

pub emit_range-loop-i-smaller-in-Loop : goal.emit_range-loop-i-smaller-in-Loop
emit_range-loop-i-smaller-in-Loop t c =
    let a = c.args in
    let r = turned a.g.now.blocks.now a.g.now.edges.now a.g.now.shown.now a.g.now.starts.now a.g.now.targets.now a.g.now.count a.from.0 c.loop-i.i a.to.0 a.indent c.loop-i-test.true (Loop c.in-Loop.j) (sym c.shape_at-seen.ensures.shape ∙ c.in-Loop.is) in
    omega (arith, r.0)

pub emit_range-loop-i-preserved-in-Loop : goal.emit_range-loop-i-preserved-in-Loop
emit_range-loop-i-preserved-in-Loop t c =
    let a = c.args in
    let r = turned a.g.now.blocks.now a.g.now.edges.now a.g.now.shown.now a.g.now.starts.now a.g.now.targets.now a.g.now.count a.from.0 c.loop-i.i a.to.0 a.indent c.loop-i-test.true (Loop c.in-Loop.j) (sym c.shape_at-seen.ensures.shape ∙ c.in-Loop.is) in
    let m = c.emit_loop-written.ensures in
    (omega (arith, r.0, c.loop-i.invariant.0), left_step c.loop-i.invariant.1 r.1 m.lines, omega (arith, c.loop-i.invariant.2, r.2, c.shape_at-seen.ensures.looks.0, m.looks.0), c.loop-i.invariant.3, c.loop-i.invariant.4)

pub emit_range-emit_region-written-requires : goal.emit_range-emit_region-written-requires
emit_range-emit_region-written-requires t c =
    let a = c.args in
    let r = turned a.g.now.blocks.now a.g.now.edges.now a.g.now.shown.now a.g.now.starts.now a.g.now.targets.now a.g.now.count a.from.0 c.loop-i.i a.to.0 a.indent c.loop-i-test.true (Region c.in-Region.t) (sym c.shape_at-seen.ensures.shape ∙ c.in-Region.is) in
    let room = left_part c.loop-i.invariant.1 c.requires.room r.1 in
    (omega (arith, r.0, c.decreases, c.loop-i.invariant.0), ((c.loop-i.invariant.0, omega (arith, r.0), omega (arith, r.0), c.requires.to_le_count.0, omega (arith, r.0, c.requires.to_le_count, c.loop-i.invariant.0)), (c.requires.count_in_bounds, room)))

pub emit_range-overflow_add-looks-in-Region : goal.emit_range-overflow_add-looks-in-Region
emit_range-overflow_add-looks-in-Region t c =
    let a = c.args in
    let r = turned a.g.now.blocks.now a.g.now.edges.now a.g.now.shown.now a.g.now.starts.now a.g.now.targets.now a.g.now.count a.from.0 c.loop-i.i a.to.0 a.indent c.loop-i-test.true (Region c.in-Region.t) (sym c.shape_at-seen.ensures.shape ∙ c.in-Region.is) in
    omega (arith, c.loop-i.invariant.2, c.loop-i.invariant.3, r.2, c.shape_at-seen.ensures.looks.0, c.emit_region-written.ensures.looks)

pub emit_range-loop-i-smaller-in-Region : goal.emit_range-loop-i-smaller-in-Region
emit_range-loop-i-smaller-in-Region t c =
    let a = c.args in
    let r = turned a.g.now.blocks.now a.g.now.edges.now a.g.now.shown.now a.g.now.starts.now a.g.now.targets.now a.g.now.count a.from.0 c.loop-i.i a.to.0 a.indent c.loop-i-test.true (Region c.in-Region.t) (sym c.shape_at-seen.ensures.shape ∙ c.in-Region.is) in
    omega (arith, r.0)

pub emit_range-loop-i-preserved-in-Region : goal.emit_range-loop-i-preserved-in-Region
emit_range-loop-i-preserved-in-Region t c =
    let a = c.args in
    let r = turned a.g.now.blocks.now a.g.now.edges.now a.g.now.shown.now a.g.now.starts.now a.g.now.targets.now a.g.now.count a.from.0 c.loop-i.i a.to.0 a.indent c.loop-i-test.true (Region c.in-Region.t) (sym c.shape_at-seen.ensures.shape ∙ c.in-Region.is) in
    let m = c.emit_region-written.ensures in
    (omega (arith, r.0, c.loop-i.invariant.0), left_step c.loop-i.invariant.1 r.1 m.lines, omega (arith, c.loop-i.invariant.2, r.2, c.shape_at-seen.ensures.looks.0, m.looks), c.loop-i.invariant.3, c.loop-i.invariant.4)

pub emit_range-emit_plain-written-requires : goal.emit_range-emit_plain-written-requires
emit_range-emit_plain-written-requires t c =
    let a = c.args in
    let r = turned a.g.now.blocks.now a.g.now.edges.now a.g.now.shown.now a.g.now.starts.now a.g.now.targets.now a.g.now.count a.from.0 c.loop-i.i a.to.0 a.indent c.loop-i-test.true Plain (sym c.shape_at-seen.ensures.shape ∙ c.in-Plain.is) in
    record { from_le_to = (omega (arith, r.0, c.loop-i.invariant.0), c.requires.to_le_count.0, omega (arith, c.requires.to_le_count)); room = left_part c.loop-i.invariant.1 c.requires.room r.1 }

pub emit_range-overflow_add-looks-in-Plain : goal.emit_range-overflow_add-looks-in-Plain
emit_range-overflow_add-looks-in-Plain t c =
    let a = c.args in
    let r = turned a.g.now.blocks.now a.g.now.edges.now a.g.now.shown.now a.g.now.starts.now a.g.now.targets.now a.g.now.count a.from.0 c.loop-i.i a.to.0 a.indent c.loop-i-test.true Plain (sym c.shape_at-seen.ensures.shape ∙ c.in-Plain.is) in
    omega (arith, c.loop-i.invariant.2, c.loop-i.invariant.3, r.2, c.shape_at-seen.ensures.looks.0, c.emit_plain-written.ensures.looks.0)

pub emit_range-loop-i-preserved : goal.emit_range-loop-i-preserved
emit_range-loop-i-preserved t c =
    let a = c.args in
    let r = turned a.g.now.blocks.now a.g.now.edges.now a.g.now.shown.now a.g.now.starts.now a.g.now.targets.now a.g.now.count a.from.0 c.loop-i.i a.to.0 a.indent c.loop-i-test.true Plain (sym c.shape_at-seen.ensures.shape ∙ c.in-Plain.is) in
    let m = c.emit_plain-written.ensures in
    (omega (arith, c.loop-i.invariant.0), left_step c.loop-i.invariant.1 r.1 m.lines, omega (arith, c.loop-i.invariant.2, r.2, c.shape_at-seen.ensures.looks.0, m.looks.0), c.loop-i.invariant.3, c.loop-i.invariant.4)

pub emit_range-returns : goal.emit_range-returns
emit_range-returns t c =
    let a = c.args in
    let none = looks_over a.g.now.blocks.now a.g.now.edges.now a.g.now.shown.now a.g.now.starts.now a.g.now.targets.now a.g.now.count a.from.0 c.loop-i.i a.to.0 c.loop-i-test.false in
    record { lines = left_done c.loop-i.invariant.1 (range_over a.g.now.blocks.now a.g.now.edges.now a.g.now.shown.now a.g.now.starts.now a.g.now.targets.now a.g.now.count a.from.0 c.loop-i.i a.to.0 a.indent c.loop-i-test.false); looks = omega (arith, c.loop-i.invariant.2, none) }

pub emit_region-emit_head-head-requires : goal.emit_region-emit_head-head-requires
emit_region-emit_head-head-requires t c =
    let a = c.args in
    record { from_le_to = (omega (arith, c.requires.from_le_i), c.requires.from_le_i.3, omega (arith, c.requires.from_le_i)); room = room_first (region_parts a.g.now.blocks.now a.g.now.edges.now a.g.now.shown.now a.g.now.count (range_lines a.g.now.blocks.now a.g.now.edges.now a.g.now.shown.now a.g.now.starts.now a.g.now.targets.now a.g.now.count (a.i.0 + 1) (a.i.0 + 1) a.t.0 (a.indent + 1)) a.from.0 a.i.0 a.to.0 a.indent) c.requires.room }

pub emit_region-emit_range-inner-requires : goal.emit_region-emit_range-inner-requires
emit_region-emit_range-inner-requires t c =
    let a = c.args in
    let room = room_second (region_parts a.g.now.blocks.now a.g.now.edges.now a.g.now.shown.now a.g.now.count (range_lines a.g.now.blocks.now a.g.now.edges.now a.g.now.shown.now a.g.now.starts.now a.g.now.targets.now a.g.now.count (a.i.0 + 1) (a.i.0 + 1) a.t.0 (a.indent + 1)) a.from.0 a.i.0 a.to.0 a.indent) c.emit_head-head.ensures.lines c.requires.room in
    (omega (arith, c.decreases, c.requires.from_le_i), ((omega (arith, c.requires.from_le_i), omega (arith, c.requires.from_le_i)), (c.requires.count_in_bounds, room)))

pub emit_region-put_line-next-requires : goal.emit_region-put_line-next-requires
emit_region-put_line-next-requires t c =
    let a = c.args in
    let room = room_third (region_parts a.g.now.blocks.now a.g.now.edges.now a.g.now.shown.now a.g.now.count (range_lines a.g.now.blocks.now a.g.now.edges.now a.g.now.shown.now a.g.now.starts.now a.g.now.targets.now a.g.now.count (a.i.0 + 1) (a.i.0 + 1) a.t.0 (a.indent + 1)) a.from.0 a.i.0 a.to.0 a.indent) c.emit_head-head.ensures.lines c.emit_range-inner.ensures.lines c.requires.room in
    (omega arith, omega arith, omega (arith, c.requires.from_le_i), room_one room)

pub emit_region-overflow_add-result : goal.emit_region-overflow_add-result
emit_region-overflow_add-result t c =
    let a = c.args in
    let small : (k : ℕ) → get_or a.g.now.blocks.now k 0 < 65536 = a.g.now.blocks_fit in
    let b : a.g.now.count < 65536 = a.g.now.count_fits in
    omega (
      arith,
      c.emit_head-head.ensures.looks.1,
      edges_fit a.g.now.blocks.now a.g.now.count small b,
      c.emit_range-inner.ensures.looks,
      looks_fit a.g.now.blocks.now a.g.now.count small b a.g.now.edges.now a.g.now.starts.now a.g.now.targets.now (a.i.0 + 1) (a.i.0 + 1) a.t.0 (omega (arith, c.requires.from_le_i)),
    )

pub emit_region-returns : goal.emit_region-returns
emit_region-returns t c =
    let a = c.args in
    record { lines = stored_three (region_parts a.g.now.blocks.now a.g.now.edges.now a.g.now.shown.now a.g.now.count (range_lines a.g.now.blocks.now a.g.now.edges.now a.g.now.shown.now a.g.now.starts.now a.g.now.targets.now a.g.now.count (a.i.0 + 1) (a.i.0 + 1) a.t.0 (a.indent + 1)) a.from.0 a.i.0 a.to.0 a.indent) c.emit_head-head.ensures.lines c.emit_range-inner.ensures.lines c.put_line-next.ensures; looks = omega (arith, c.emit_head-head.ensures.looks.0, c.emit_range-inner.ensures.looks) }
