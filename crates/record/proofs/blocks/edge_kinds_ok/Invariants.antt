-- Question 7: `edge_kinds_ok` meets its contract.
-- The invariant: so far every kind is at most 4, or `ok` is false.
use mathlib.Core.Path.{◌≡◌}
use lib.Dec.{leb}
use Rattle.lists.specs.Choice.{all_below}
use Rattle.record.specs.Blocks.{edge_kind_at}
use Rattle.record.proofs.blocks.edge_kinds_ok.Given as goal

abbrev pub invariant-loop-e : goal.invariant-loop-e
invariant-loop-e l = l.ok ≡ all_below (λ j. leb (edge_kind_at l.kinds j) 4) l.e
