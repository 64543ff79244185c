-- `operands_ok` meets its contract.
-- The invariant: so far every operand is right, or `ok` is false.
use mathlib.Core.Path.{◌≡◌}
use Rattle.lists.specs.Choice.{all_below}
use Rattle.record.specs.Body.{operand_ok}
use Rattle.record.proofs.body.operands_ok.Given as goal

abbrev pub invariant-loop-i : goal.invariant-loop-i
invariant-loop-i l = l.ok ≡ all_below (operand_ok l.body) l.i
