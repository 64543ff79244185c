-- Whether a block closes a loop: `closes_loop` meets its contract.
-- By whether one of its edges is a True edge to the place, as they were read.
use mathlib.Core.Path.{◌≡◌, sym, ap, ◌∙◌}
use mathlib.Core.Bool.{Bool, true, false, ◌&&◌}
use mathlib.Core.List.{List}
use Prim.Native.Nat.{ℕ}
use Rattle.cfg.specs.Graph.{first_edge_in, edges_in, true_edge_to, has_condition, closes_loop}
use Rattle.cfg.specs.Looks.{block_looks}
use Rattle.cfg.specs.Reads.{Reads}
use Rattle.cfg.specs.declared.edges.Looked.{Looked}
use Rattle.cfg.proofs.BlocksRead.{block_reads}
use borrow.Author.Rules.{rules}
use Rattle.cfg.proofs.tests.closes_loop.Goals as goal

closes : (blocks edges : List ℕ) (i j : ℕ) {e n : ℕ} {r : Looked} → Reads (true_edge_to edges i) e n r → e ≡ first_edge_in blocks j → n ≡ edges_in blocks j
    → (b : Bool) → r.found ≡ b → ((b && has_condition blocks j) ≡ closes_loop blocks edges i j) × (r.looks ≡ block_looks blocks (true_edge_to edges i) j)
unfolding closes_loop
closes blocks edges i j h f g b t =
    let e = block_reads blocks (true_edge_to edges i) j h f g in
    (ap (λ (q : Bool). q && has_condition blocks j) (sym t ∙ ap (λ (l : Looked). l.found) e), ap (λ (l : Looked). l.looks) e)

pub returns-then-read : goal.returns-then-read
returns-then-read c = let a = c.args in
    let f = closes a.blocks.now a.edges.now a.i.0 a.j.0 (c.read_until-read.ensures.reads (true_edge_to a.edges.now a.i.0) (λ k b l q. search rules)) c.requires.0 c.requires.1 true c.if-read.true in
    record { found = c.has_condition.ensures ∙ f.0; looks = (f.1, c.read_until-read.ensures.few) }

pub returns : goal.returns
returns c = let a = c.args in
    let f = closes a.blocks.now a.edges.now a.i.0 a.j.0 (c.read_until-read.ensures.reads (true_edge_to a.edges.now a.i.0) (λ k b l q. search rules)) c.requires.0 c.requires.1 false c.if-read.false in
    record { found = c.if-read.false ∙ f.0; looks = (f.1, c.read_until-read.ensures.few) }
