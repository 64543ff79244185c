-- `plain_bodies_ok` meets its contract.
-- The invariant: every body so far is right.
use mathlib.Core.Path.{◌≡◌}
use mathlib.Core.Bool.{true}
use Rattle.lists.specs.Choice.{all_below}
use Rattle.record.specs.Body.{body_at, body_ok}
use Rattle.record.proofs.body.plain_bodies_ok.Given as goal

abbrev pub invariant-loop-i : goal.invariant-loop-i
invariant-loop-i l = all_below (λ j. body_ok (body_at l.bodies j)) l.i ≡ true
