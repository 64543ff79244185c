-- Whether none of n instructions from i on turns away: `none_turns` meets its contract.
-- The invariant: so far none breaks it, or `ok` is false.
use mathlib.Core.Path.{◌≡◌}
use mathlib.Core.Bool.{not}
use Prim.Native.Nat.{◌+◌, ◌≤◌}
use Rattle.lists.specs.Choice.{all_below}
use Rattle.record.specs.Body.{body_at}
use Rattle.route.specs.Assumed.{turns}
use Rattle.checker.proofs.instructions.none_turns.Given as goal

abbrev pub invariant-loop-m : goal.invariant-loop-m
invariant-loop-m l =
    (l.m ≤ l.n) × (l.ok ≡ all_below (λ j. not (turns (body_at l.bodies (l.i + j)))) l.m)
