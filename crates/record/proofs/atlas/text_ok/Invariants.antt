-- `text_ok` meets its contract.
-- Where bytes are missing the invariant: so far every byte suits the kind, or `ok` is false.
use mathlib.Core.Path.{◌≡◌}
use Rattle.lists.specs.Bytes.{u8_at}
use Rattle.lists.specs.Choice.{all_below}
use Rattle.record.specs.Atlas.{text_byte_ok}
use Rattle.record.proofs.atlas.text_ok.Given as goal

abbrev pub invariant-loop-j : goal.invariant-loop-j
invariant-loop-j l = l.ok ≡ all_below (λ m. text_byte_ok l.kind (u8_at l.text m)) l.j
