-- `plain_name_ok` meets its contract.
-- The invariant: so far every byte suits, or `ok` is false.
use mathlib.Core.Path.{◌≡◌}
use mathlib.Core.Bool.{◌&&◌}
use lib.Dec.{leb}
use Rattle.lists.specs.Bytes.{u8_at}
use Rattle.lists.specs.Choice.{all_below}
use Rattle.record.proofs.atlas.plain_name_ok.Given as goal

abbrev pub invariant-loop-j : goal.invariant-loop-j
invariant-loop-j l = l.ok ≡ all_below (λ m. leb 0x20 (u8_at l.text m) && leb (u8_at l.text m) 0x7e) l.j
