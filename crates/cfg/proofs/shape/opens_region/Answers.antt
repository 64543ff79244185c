-- Whether an if-region stands at a place: `opens_region` meets its contract.
-- By the tests in order; edges are read only if the first three pass.
use mathlib.Core.Path.{◌≡◌, refl, sym}
use mathlib.Core.Bool.{Bool, true, false, not, ◌&&◌}
use mathlib.Core.List.{List}
use Prim.Native.Nat.{ℕ, ◌+◌}
use lib.Dec.{ltb, leb}
use borrow.Author.Tests.{eq-eqb, ne_eqb, lt-ltb, le-ltb, le-leb, lt-leb}
use Rattle.lists.specs.Choice.{pick}
use Rattle.cfg.specs.Graph.{ends_in_branch, branch_to, single_entry, escapes}
use Rattle.cfg.specs.Looks.{entry_looks, escape_looks, region_looks}
use Rattle.cfg.specs.Shape.{opens_region}
use borrow.Author.Rules.{rules}
use Rattle.cfg.proofs.shape.opens_region.Goals as goal

module _ (blocks edges starts targets : List ℕ) (B i to : ℕ) where
  abbrev Told : Bool → ℕ → Type 0
  Told found looks = (found ≡ opens_region blocks edges starts targets B i to) × (looks ≡ region_looks blocks edges starts targets B i to)

  -- by whether the block ends in a branch to a place in bounds
  module _ (t : ℕ) (b : t ≡ branch_to blocks i) where
    abbrev near : Bool
    near = ends_in_branch blocks i && ltb (i + 1) t && leb t to

    shut : near ≡ false → Told false 0
    unfolding opens_region region_looks
    shut e = let h = rw b at e in rw h (refl, refl)

    opened : near ≡ true → (f : Bool) (l : ℕ) → f ≡ (single_entry blocks edges B (i + 1) t && not (escapes blocks starts targets (i + 1) t))
        → l ≡ entry_looks blocks edges B (i + 1) t + pick (single_entry blocks edges B (i + 1) t) (escape_looks blocks starts targets (i + 1) t) 0 → Told f l
    unfolding opens_region region_looks
    opened e f l p q = let h = rw b at e in rw h (rw b at p, rw b at q)

pub returns-then-t-to : goal.returns-then-t-to
returns-then-t-to c = let a = c.args in
    let r = opened a.g.now.blocks.now a.g.now.edges.now a.g.now.starts.now a.g.now.targets.now a.g.now.count a.i.0 a.to.0 c.branch_to-t.result.0 c.branch_to-t.ensures
    (simp (sym c.ending_in.ensures, eq-eqb _ _ c.if-ending_in-eq2.true, lt-ltb _ _ c.if-i-t.true, le-leb _ _ c.if-t-to.true)) _ _ c.is_region.ensures.found c.is_region.ensures.looks.0 in
    record { found = r.0; looks = (r.1, search rules) }

pub returns-else-t-to : goal.returns-else-t-to
returns-else-t-to c = let a = c.args in
    let r = shut a.g.now.blocks.now a.g.now.edges.now a.g.now.starts.now a.g.now.targets.now a.g.now.count a.i.0 a.to.0 c.branch_to-t.result.0 c.branch_to-t.ensures
    (simp (sym c.ending_in.ensures, eq-eqb _ _ c.if-ending_in-eq2.true, lt-ltb _ _ c.if-i-t.true, lt-leb _ _ c.if-t-to.false)) in
    record { found = r.0; looks = (r.1, search rules) }

pub returns-else-i-t : goal.returns-else-i-t
returns-else-i-t c = let a = c.args in
    let r = shut a.g.now.blocks.now a.g.now.edges.now a.g.now.starts.now a.g.now.targets.now a.g.now.count a.i.0 a.to.0 c.branch_to-t.result.0 c.branch_to-t.ensures
    (simp (sym c.ending_in.ensures, eq-eqb _ _ c.if-ending_in-eq2.true, le-ltb _ _ c.if-i-t.false)) in
    record { found = r.0; looks = (r.1, search rules) }

pub returns-else-ending_in-eq2 : goal.returns-else-ending_in-eq2
returns-else-ending_in-eq2 c = let a = c.args in
    let r = shut a.g.now.blocks.now a.g.now.edges.now a.g.now.starts.now a.g.now.targets.now a.g.now.count a.i.0 a.to.0 c.branch_to-t.result.0 c.branch_to-t.ensures
    (simp (sym c.ending_in.ensures, ne_eqb _ _ c.if-ending_in-eq2.false)) in
    record { found = r.0; looks = (r.1, search rules) }
