-- Whether each edge of the kind leads to an address: `lead_to` meets its contract.
-- The invariant: so far none breaks it, or `ok` is false.
use mathlib.Core.Path.{◌≡◌}
use mathlib.Core.Bool.{not, ◌||◌}
use Prim.Native.Nat.{◌+◌, ◌≤◌}
use lib.Dec.{eqb}
use Rattle.lists.specs.Choice.{all_below}
use Rattle.record.specs.Blocks.{target_at, edge_kind_at}
use Rattle.checker.specs.Edges.{of_kind}
use Rattle.checker.proofs.edges.lead_to.Given as goal

abbrev pub invariant-loop-m : goal.invariant-loop-m
invariant-loop-m l =
    (l.m ≤ l.n) × (l.ok ≡ all_below (λ j. not (of_kind l.kind (edge_kind_at l.kinds (l.e + j))) || eqb (target_at l.targets (l.e + j)) l.va) l.m)
