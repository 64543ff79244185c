-- `plan_edges` meets its contract.
-- Each part lent is the record's rows: what was stored in a list with room, read back by its length.
use Prim.Native.Nat.{ℕ, ◌-◌, ◌*◌, ◌≤◌}
use mathlib.Core.List.{List}
use mathlib.Core.Path.{◌≡◌, ◌∙◌}
use native.Mathlib.Omega.{arith}
use Rattle.structure.specs.Plan.{plan_codes}
use Rattle.structure.specs.Stored.{Stored}
use Rattle.structure.specs.Looks.{range_looks}
use Rattle.cfg.specs.Turn.{edges_before, InTurn}
use Rattle.record.specs.declared.header.Header.{Header}
use Rattle.record.specs.Layout.{starts_of, targets_of}
use lib.ListN.{length}
use Rattle.flow.specs.Counted.{Plannable}
use Rattle.flow.proofs.Turned.{all_edges, in_turn, all_targets}
use Rattle.flow.proofs.Laws.{filled}
use Rattle.flow.specs.Rows.{block_rows, edge_rows, shown_rows}
use Rattle.flow.proofs.Terms.{edges_length, shown_length}
use Rattle.flow.proofs.Totals.{limits_small}
use Rattle.flow.specs.Planned.{record_plan, record_looks}
use Rattle.flow.proofs.Row.{array}
use Rattle.flow.proofs.planned.plan_edges.Goals as goal

-- the plan of equal parts
same : (b b' d d' v v' st st' t t' : List ℕ) (n i j k r : ℕ) (l l' : List ℕ) → Stored l 0 (plan_codes b d v st t n i j k) r l' → b ≡ b' → d ≡ d' → v ≡ v' → st ≡ st' → t ≡ t'
    → Stored l 0 (plan_codes b' d' v' st' t' n i j k) r l'
same b b' d d' v v' st st' t t' n i j k r l l' p a c e f g = rw (← a, ← c, ← e, ← f, ← g) p

-- and its premises, and its looks
module _ (h : Header) (s b d st t : List ℕ) (a : b ≡ block_rows h s) (c : d ≡ edge_rows h s) (f : st ≡ starts_of h s) (g : t ≡ targets_of h s) (from to : ℕ) (q : Plannable h s from to) where
  plans : (to ≤ h.blocks) × (InTurn b d h.blocks × (8 * edges_before b h.blocks ≤ length t))
  plans = (q.range.1, (rw (a, c) (in_turn h s q.counted), rw (a, g) (all_targets h s q.counted q.whole)))

  looks-are : (r : ℕ) → (r ≡ range_looks b d st t h.blocks from from to) × (r ≤ 5 * (to - from) * edges_before b h.blocks) → (r ≡ record_looks h s from to) × (r ≤ 5 * (to - from) * h.edges)
  unfolding record_looks
  looks-are r p = (p.0 ∙ rw (a, c, f, g), rw (a, all_edges h s q.counted) at p.1)

pub invariant_of-g : goal.invariant_of-g
invariant_of-g c = let h = c.args.h in
    let s = c.args.rec.now in
    let d =
    filled (edge_rows h s) _ _ _ (2 * c.from.result) (2 * h.edges) (edges_length h s) c.requires.room (omega (arith, c.from.ensures))
    c.edge_rows.ensures c.part.ensures.0 in
    let t = array _ _ _ _ c.targets_at.ensures.0 c.from-4.ensures.0 in
    let held = plans h s _ _ _ _ c.requires.rows d c.from-3.ensures.0 t c.args.from c.args.to c.requires.asked in record { in_turn = held.1.0; count_fits = omega arith; blocks_fit = λ k. omega (arith, c.type_inv.blocks k) }

pub plan-requires : goal.plan-requires
plan-requires c = let h = c.args.h in
    let s = c.args.rec.now in
    let d =
    filled (edge_rows h s) _ _ _ (2 * c.from.result) (2 * h.edges) (edges_length h s) c.requires.room (omega (arith, c.from.ensures))
    c.edge_rows.ensures c.part.ensures.0 in
    let t = array _ _ _ _ c.targets_at.ensures.0 c.from-4.ensures.0 in
    let held = plans h s _ _ _ _ c.requires.rows d c.from-3.ensures.0 t c.args.from c.args.to c.requires.asked in record { to_le_count = held.0; count_in_bounds = held.1.1 }

pub returns : goal.returns
unfolding record_plan
returns c = let h = c.args.h in
    let s = c.args.rec.now in
    let d =
    filled (edge_rows h s) _ _ _ (2 * c.from.result) (2 * h.edges) (edges_length h s) c.requires.room (omega (arith, c.from.ensures))
    c.edge_rows.ensures c.part.ensures.0 in
    let t = array _ _ _ _ c.targets_at.ensures.0 c.from-4.ensures.0 in
    let small = limits_small h c.requires.asked.limits in
    let v =
    filled (shown_rows h s) _ _ _ _ h.instructions (shown_length h s) (omega (arith, small.instructions)) c.from-2.ensures
    c.shown_rows.ensures c.part-2.ensures.0 in
    let st = c.from-3.ensures.0 in record { lines = same _ _ _ _ _ _ _ _ _ _ _ _ _ _ _ _ _ c.plan.ensures.lines c.requires.rows d v st t; looks = looks-are h s _ _ _ _ c.requires.rows d st t c.args.from c.args.to c.requires.asked _ c.plan.ensures.looks }
