-- Whether no setcc or cmovcc has a near branch: `sets_no_branch` meets its contract.
-- The invariant: so far none breaks it, or `ok` is false.
use mathlib.Core.Path.{◌≡◌}
use mathlib.Core.Bool.{not, ◌&&◌}
use Prim.Native.Nat.{◌≤◌}
use lib.Dec.{eqb}
use Rattle.lists.specs.Choice.{all_below}
use Rattle.record.specs.Body.{body_at, mnemonic_of, sets_by_condition, operand_kind}
use Rattle.checker.proofs.instructions.sets_no_branch.Given as goal

abbrev pub invariant-loop-i : goal.invariant-loop-i
invariant-loop-i l =
    (l.i ≤ l.n) × (l.ok ≡ all_below (λ j. not (sets_by_condition (mnemonic_of (body_at l.bodies j)) && eqb (operand_kind (body_at l.bodies j) 0) 2)) l.i)
