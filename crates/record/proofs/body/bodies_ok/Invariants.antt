-- Question 8: `bodies_ok` meets its contract.
-- Where bodies are cut off the invariant: so far every body is right, or `ok` is false.
use mathlib.Core.Path.{◌≡◌}
use Rattle.lists.specs.Choice.{all_below}
use Rattle.record.specs.Body.{body_at, body_ok}
use Rattle.record.proofs.body.bodies_ok.Given as goal

abbrev pub invariant-loop-i : goal.invariant-loop-i
invariant-loop-i l = l.ok ≡ all_below (λ j. body_ok (body_at l.bodies j)) l.i
