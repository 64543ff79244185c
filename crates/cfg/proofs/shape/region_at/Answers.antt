-- An if-region or a plain block: `region_at` meets its contract.
-- By whether a region stands there.
use mathlib.Core.Path.{sym, ap}
use Prim.Native.Nat.{ℕ}
use native.Mathlib.Omega.{arith}
use Rattle.cfg.specs.Shape.{place, region_at}
use Rattle.cfg.specs.declared.shape.Shape.TheVariants.{Region}
use Rattle.cfg.proofs.shape.region_at.Goals as goal

pub returns-then-region : goal.returns-then-region
unfolding region_at
returns-then-region c = let r = c.opens_region-region.ensures in
    record { shape = simp (sym r.found, c.if-region.true) (ap (λ (k : ℕ). Region (place k)) c.branch_to.ensures); looks = omega (arith, r.looks.0) }

pub returns : goal.returns
unfolding region_at
returns c = let r = c.opens_region-region.ensures in
    record { shape = simp (sym r.found, c.if-region.false); looks = omega (arith, r.looks.0) }
