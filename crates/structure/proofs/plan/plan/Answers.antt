-- The plan of a range: `plan` meets its contract.
-- Rows of two bytes a number have fewer lines than four bytes count; the looks are few by the law on the range's tree.
use Rattle.std.specs.Prelude.{ℕ, ◌<◌}
use native.Mathlib.Omega.{arith}
use lib.ListN.{get_or, length-map}
use Rattle.structure.proofs.Few.{lines_fit}
use Rattle.structure.proofs.Looked.{looks_few}
use Rattle.structure.proofs.plan.plan.Goals as goal

pub emit_range-requires-clause-room : goal.emit_range-requires-clause-room
emit_range-requires-clause-room c =
    let a = c.args in
    let small : (m : ℕ) → get_or a.g.now.blocks.now m 0 < 65536 = a.g.now.blocks_fit in
    let few = lines_fit a.g.now.blocks.now a.g.now.edges.now a.g.now.shown.now a.g.now.starts.now a.g.now.targets.now a.g.now.count a.from a.to a.indent small (omega (arith, c.ranges.to)) in
    record { fits = simp length-map (omega (arith, few)) }

pub returns-clause-looks : goal.returns-clause-looks
returns-clause-looks c =
    let a = c.args in
    let few = looks_few a.g.now.blocks.now a.g.now.edges.now a.g.now.starts.now a.g.now.targets.now a.g.now.count a.from a.from a.to c.requires.to_le_count in
    (c.emit_range.ensures.looks, omega (arith, c.emit_range.ensures.looks, few))
