-- Whether each True edge of n from e on leads to an address: `true_lead` meets its contract.
-- The invariant: so far each does, or `ok` is false.
use mathlib.Core.Path.{◌≡◌}
use mathlib.Core.Bool.{not, ◌||◌}
use Prim.Native.Nat.{◌+◌}
use lib.Dec.{eqb}
use Rattle.lists.specs.Choice.{all_below}
use Rattle.record.specs.Blocks.{target_at}
use Rattle.record.specs.Branches.{is_true}
use Rattle.record.proofs.branches.true_lead.Given as goal

abbrev pub invariant-loop-m : goal.invariant-loop-m
invariant-loop-m l =
    l.ok ≡ all_below (λ j. not (is_true l.kinds (l.e + j)) || eqb (target_at l.targets (l.e + j)) l.va) l.m
