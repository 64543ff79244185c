-- `plain_string_ok` meets its contract.
-- The invariant: so far every byte suits, or `ok` is false.
use mathlib.Core.Path.{◌≡◌}
use lib.Dec.{ltb}
use Rattle.lists.specs.Bytes.{u8_at}
use Rattle.lists.specs.Choice.{all_below}
use Rattle.record.proofs.atlas.plain_string_ok.Given as goal

abbrev pub invariant-loop-j : goal.invariant-loop-j
invariant-loop-j l = l.ok ≡ all_below (λ m. ltb (u8_at l.text m) 0x80) l.j
