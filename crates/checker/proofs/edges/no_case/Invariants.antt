-- Whether no edge is Case: `no_case` meets its contract.
-- The invariant: so far none breaks it, or `ok` is false.
use mathlib.Core.Path.{◌≡◌}
use mathlib.Core.Bool.{not}
use Prim.Native.Nat.{◌≤◌}
use lib.Dec.{eqb}
use Rattle.lists.specs.Choice.{all_below}
use Rattle.record.specs.Blocks.{edge_kind_at}
use Rattle.checker.proofs.edges.no_case.Given as goal

abbrev pub invariant-loop-e : goal.invariant-loop-e
invariant-loop-e l =
    (l.e ≤ l.edges) × (l.ok ≡ all_below (λ j. not (eqb (edge_kind_at l.kinds j) 4)) l.e)
