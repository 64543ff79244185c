-- `put_marks` meets its contract.
-- The invariant: the addresses, marks and places left, stored from here, are all of them stored from the start.
use mathlib.Core.Path.{◌≡◌}
use mathlib.Core.List.{map}
use Prim.Native.Nat.{◌≤◌}
use lib.ListN.{length, drop}
use Rattle.lists.specs.Put.{put}
use Rattle.line.specs.Lines.{line_in}
use Rattle.pseudo.specs.Listed.{line_address, line_mark, line_place}
use Rattle.pseudo.proofs.marks.put_marks.Given as goal

abbrev pub invariant-loop-i : goal.invariant-loop-i
invariant-loop-i l =
    (l.i ≤ length l.codes) × (length l.addresses ≡ length l.initial.addresses) × (length l.marks ≡ length l.initial.marks) × (length l.places ≡ length l.initial.places)
    × (put l.i (map (line_address l.h l.rec) (map line_in (drop l.i l.codes))) l.addresses ≡ put 0 (map (line_address l.h l.rec) (map line_in l.codes)) l.initial.addresses)
    × (put l.i (map line_mark (map line_in (drop l.i l.codes))) l.marks ≡ put 0 (map line_mark (map line_in l.codes)) l.initial.marks)
    × (put l.i (map line_place (map line_in (drop l.i l.codes))) l.places ≡ put 0 (map line_place (map line_in l.codes)) l.initial.places)
