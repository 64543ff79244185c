-- `write::write_codes` meets its contract.
-- The invariant: writing the codes left from here gives the page that writing all gives from the start, there is room for them, and they lie within the table.
use mathlib.Core.Path.{◌≡◌}
use mathlib.Core.Bool.{true}
use Prim.Native.Nat.{◌-◌}
use lib.ListN.{length, drop}
use Rattle.codes.specs.Code.{all_in_table, decode}
use Rattle.writer.specs.Written.{page, on_page, Room}
use Rattle.writer.proofs.write.write_codes.Given as goal

abbrev pub invariant-loop-i : goal.invariant-loop-i
invariant-loop-i l =
    (length l.text ≡ length l.initial.text) × (length l.ends ≡ length l.initial.ends) × (length l.kinds ≡ length l.initial.kinds) × (length l.lines ≡ length l.initial.lines)
    × (on_page (page l.text l.ends l.kinds l.lines l.r) (decode l.tables l.rec (drop l.i l.codes)) ≡ on_page (page l.initial.text l.initial.ends l.initial.kinds l.initial.lines l.initial.r) (decode l.tables l.rec l.codes))
    × Room (length l.text) (length l.ends) (length l.kinds) (length l.lines) l.r (decode l.tables l.rec (drop l.i l.codes)) × (all_in_table (length l.tables) (drop l.i l.codes) ≡ true)

abbrev pub decreases-loop-i : goal.decreases-loop-i
decreases-loop-i l = length l.codes - l.i
