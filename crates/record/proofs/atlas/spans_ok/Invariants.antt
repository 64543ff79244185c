-- Question 10: `spans_ok` meets its contract.
-- The invariant: so far every span is right, or `ok` is false.
use mathlib.Core.Path.{◌≡◌}
use lib.Dec.{leb}
use Rattle.lists.specs.Choice.{all_below}
use Rattle.record.specs.Atlas.{span_first, span_last}
use Rattle.record.proofs.atlas.spans_ok.Given as goal

abbrev pub invariant-loop-k : goal.invariant-loop-k
invariant-loop-k l = l.ok ≡ all_below (λ j. leb (span_first l.spans j) (span_last l.spans j)) l.k
