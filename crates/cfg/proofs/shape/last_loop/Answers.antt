-- The last block that closes a loop, and how many edges the search read: `last_loop` meets its contract.
-- The invariant: the blocks before j are left, and their edges end at `end`.
use mathlib.Core.Path.{◌≡◌, ◌∙◌}
use mathlib.Core.List.{List}
use Prim.Native.Nat.{ℕ, ◌+◌, ◌-◌, ◌≤◌, ◌<◌}
use native.Mathlib.Omega.{arith}
use Rattle.cfg.specs.Graph.{first_edge_in, edges_in}
use Rattle.cfg.specs.Turn.{InTurn, edges_before}
use Rattle.cfg.proofs.BlocksRead.{before_last, turn_less}
use Rattle.cfg.proofs.BackSearch.{left_none, left_found, left_less}
use borrow.Author.Rules.{rules}
use Rattle.cfg.proofs.shape.last_loop.Goals as goal

-- where the edges of the block before j begin and end
ends : (blocks edges : List ℕ) (to j e end : ℕ) → InTurn blocks edges to → 0 < j → j ≤ to → e ≡ first_edge_in blocks (j - 1) → end ≡ edges_before blocks j
    → (e ≡ edges_before blocks (j - 1)) × (end ≡ e + edges_in blocks (j - 1))
ends blocks edges to j e end h p le f g = (f ∙ h.first (j - 1) (omega arith), omega (arith, f, g, h.first (j - 1) (omega arith), before_last blocks j p))

pub loop-j-init : goal.loop-j-init
loop-j-init c =
    let a = c.args in
    let t = turn_less a.g.now.blocks.now a.g.now.edges.now a.g.now.count a.to.0 a.g.now.in_turn c.requires in
    let e = c.edges_before-end.ensures in
    (search rules, e.0, omega arith, e.1, omega (arith, t.all, e.0), search rules)

pub returns-then-read : goal.returns-then-read
returns-then-read c = let a = c.args in
    let f = left_found a.g.now.blocks.now a.g.now.edges.now a.i.0 a.to.0 c.loop-j.j c.loop-j.looks c.loop-j.invariant.5 (search rules) {r = c.closes_loop-read.result} c.closes_loop-read.ensures.found c.closes_loop-read.ensures.looks.0 c.if-read.true in
    record { found = f.0; looks = (f.1, search rules) }

pub loop-j-preserved : goal.loop-j-preserved
loop-j-preserved c =
    let a = c.args in
    let b = c.first_edge_in-e in
    let e = ends a.g.now.blocks.now a.g.now.edges.now a.to.0 c.loop-j.j b.result c.loop-j.end (turn_less a.g.now.blocks.now a.g.now.edges.now a.g.now.count a.to.0 a.g.now.in_turn c.requires) (search rules) c.loop-j.invariant.0 b.ensures.0 c.loop-j.invariant.1 in
    let n = left_less a.g.now.blocks.now a.g.now.edges.now a.i.0 a.to.0 c.loop-j.j c.loop-j.looks c.loop-j.invariant.5 (search rules) {r = c.closes_loop-read.result} c.closes_loop-read.ensures.found c.closes_loop-read.ensures.looks.0 c.if-read.false in
    (search rules, e.0, omega (arith, e.1, c.loop-j.invariant.2, c.closes_loop-read.ensures.looks.1), c.loop-j.invariant.3, omega (arith, e.1, c.loop-j.invariant.4), n)

pub returns : goal.returns
returns c = let a = c.args in
    let f = left_none a.g.now.blocks.now a.g.now.edges.now a.i.0 a.to.0 c.loop-j.j c.loop-j.looks c.loop-j.invariant.5 (search rules) in
    record { found = f.0; looks = (f.1, search rules) }
