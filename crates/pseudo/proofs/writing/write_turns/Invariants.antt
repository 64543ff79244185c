-- `write_turns` meets its contract.
-- The invariant: the lines left, printed with the registers written before them and written from where the cursor stands, give the page of all.
use mathlib.Core.Path.{◌≡◌}
use mathlib.Core.List.{map}
use Prim.Native.Nat.{◌≤◌}
use lib.ListN.{length, drop}
use Rattle.line.specs.Lines.{line_in}
use Rattle.line.specs.Print.{printed}
use Rattle.pseudo.proofs.Listing.{Left}
use Rattle.pseudo.proofs.writing.write_turns.Given as goal

abbrev pub invariant-loop-i : goal.invariant-loop-i
invariant-loop-i l =
    (length l.codes ≡ 16384) × (l.i ≤ length l.plan) × (length l.text ≡ length l.initial.text) × (length l.ends ≡ length l.initial.ends) × (length l.kinds ≡ length l.initial.kinds) × (length l.lines ≡ length l.initial.lines)
    × Left l.initial.text l.initial.ends l.initial.kinds l.initial.lines (printed l.h l.rec l.range 0 (map line_in l.plan)) l.text l.ends l.kinds l.lines l.p (printed l.h l.rec l.range l.mask (map line_in (drop l.i l.plan)))
