-- `plain_name` meets its contract.
-- The invariant: so far every byte goes on as a name does, or `ok` is false; `before` is the last of them.
use mathlib.Core.Path.{◌≡◌}
use Rattle.lists.specs.Bytes.{u8_at}
use Rattle.lists.specs.Choice.{all_below}
use Rattle.record.specs.Body.{name_goes_on}
use Rattle.record.proofs.body.plain_name.Given as goal

abbrev pub invariant-loop-k : goal.invariant-loop-k
invariant-loop-k l = (l.before ≡ u8_at l.name l.k) × (l.ok ≡ all_below (name_goes_on l.name) l.k)
