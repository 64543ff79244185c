-- Whether a region escapes: `region_escapes` meets its contract.
-- Its blocks stand in turn, so that their edges are one part, and both starts are as they were read.
use mathlib.Core.Path.{◌≡◌, ap}
use mathlib.Core.Bool.{not, ◌&&◌}
use mathlib.Core.List.{List}
use Prim.Native.Nat.{ℕ, ◌-◌, ◌*◌}
use native.Mathlib.Omega.{arith}
use lib.Dec.{ltb, eqb}
use Rattle.lists.specs.Bytes.{u64_at}
use Rattle.record.specs.Blocks.{start_at}
use Rattle.cfg.specs.Graph.{leaves, escapes}
use Rattle.cfg.specs.Looks.{escape_looks}
use Rattle.cfg.specs.Reads.{Reads}
use Rattle.cfg.specs.declared.edges.Looked.{Looked}
use Rattle.cfg.proofs.BlocksRead.{before_le, region_reads}
use borrow.Author.Rules.{rules}
use Rattle.cfg.proofs.tests.region_escapes.Goals as goal

lent : (starts targets : List ℕ) (from to f x : ℕ) {e n : ℕ} {r : Looked} → f ≡ start_at starts from → x ≡ start_at starts to
    → Reads (λ k. ltb (u64_at targets (8 * k)) f && not (eqb (u64_at targets (8 * k)) x)) e n r → Reads (leaves starts targets from to) e n r
lent starts targets from to f x p q h = rw (p, q) at h

pub overflow_sub-edges_before : goal.overflow_sub-edges_before
overflow_sub-edges_before c =
    omega (arith, c.edges_before.ensures.0, c.edges_before-e.ensures.0, before_le c.args.blocks.now c.args.from.0 c.args.to.0 c.requires.from_le_to.0)

pub read_until-requires-clause-can : goal.read_until-requires-clause-can
read_until-requires-clause-can c = λ k l. let b = before_le c.args.blocks.now c.args.from.0 c.args.to.0 c.requires.from_le_to.0 in
    omega (arith, l, c.edges_before.ensures.0, c.edges_before-e.ensures.0, c.requires.from_le_to.1, b)

pub returns : goal.returns
unfolding escapes escape_looks
returns c = let a = c.args in
    let l = c.read_until.ensures.reads (λ k. ltb (u64_at a.targets.now (8 * k)) c.start_at-first.result.0 && not (eqb (u64_at a.targets.now (8 * k)) c.start_at-excepted.result.0)) (λ k b m q. search rules) in
    let r = lent a.starts.now a.targets.now a.from.0 a.to.0 _ _ c.start_at-first.ensures c.start_at-excepted.ensures l in
    let e = region_reads a.blocks.now (leaves a.starts.now a.targets.now a.from.0 a.to.0) a.to.0 a.from.0 a.to.0 c.requires.turns c.requires.from_le_to.0 (omega arith) r c.edges_before-e.ensures.0 (ap (λ (x : ℕ). x - c.edges_before-e.result) c.edges_before.ensures.0) in
    record { found = ap (λ (q : Looked). q.found) e; looks = (ap (λ (q : Looked). q.looks) e, omega (arith, l.few, c.edges_before.ensures.1)) }
