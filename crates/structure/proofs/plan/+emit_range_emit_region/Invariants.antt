-- The cycle of calls {emit_range, emit_region}: both meet their contracts. Measures: twice the span, and one more for `emit_range`.
-- The loop's invariant: what is left, stored, gives the whole; the looks so far and those of what is left are the whole's, which fit.
use Rattle.std.specs.Prelude.{◌≡◌, ◌+◌, ◌-◌, ◌*◌, ◌≤◌, ◌<◌}
use Rattle.cfg.specs.Turn.{edges_before}
use Rattle.structure.specs.Plan.{range_lines}
use Rattle.structure.specs.Looks.{range_looks}
use Rattle.structure.specs.Codes.{codes}
use Rattle.structure.proofs.Storing.{Left}
use Rattle.structure.proofs.plan.+emit_range_emit_region.Given as goal

abbrev pub decreases-emit_range : goal.decreases-emit_range
decreases-emit_range l = 2 * (l.to.0 - l.from.0) + 1

abbrev pub decreases-emit_region : goal.decreases-emit_region
decreases-emit_region l = 2 * (l.t.0 - l.i.0)

abbrev pub invariant-emit_range-loop-i : goal.invariant-emit_range-loop-i
invariant-emit_range-loop-i l =
    (l.from.0 ≤ l.i)
    × Left l.initial.out l.at (codes (range_lines l.g.blocks.now l.g.edges.now l.g.shown.now l.g.starts.now l.g.targets.now l.g.count l.from.0 l.from.0 l.end l.indent)) l.out l.n (codes (range_lines l.g.blocks.now l.g.edges.now l.g.shown.now l.g.starts.now l.g.targets.now l.g.count l.from.0 l.i l.end l.indent))
    × (l.looks + range_looks l.g.blocks.now l.g.edges.now l.g.starts.now l.g.targets.now l.g.count l.from.0 l.i l.end ≡ range_looks l.g.blocks.now l.g.edges.now l.g.starts.now l.g.targets.now l.g.count l.from.0 l.from.0 l.end)
    × (range_looks l.g.blocks.now l.g.edges.now l.g.starts.now l.g.targets.now l.g.count l.from.0 l.from.0 l.end < 4611686018427387904)
    × (edges_before l.g.blocks.now l.g.count ≤ 4294836225)

abbrev pub decreases-emit_range-loop-i : goal.decreases-emit_range-loop-i
decreases-emit_range-loop-i l = l.end - l.i
