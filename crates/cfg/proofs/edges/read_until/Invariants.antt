-- Edges read up to the first that passes a test: `read_until` meets its contract.
-- The invariant: none of the edges so far passes.
use mathlib.Core.Bool.{false}
use Prim.Native.Nat.{ℕ, ◌+◌, ◌<◌}
use Rattle.cfg.proofs.edges.read_until.Given as goal

abbrev pub invariant-loop-m : goal.invariant-loop-m
invariant-loop-m g l = (j : ℕ) → j < l.m → goal.F-post g l.passes (l.e + j) false
