-- `page::put_lines` meets its contract.
-- The invariant: the lines left, stored from where the loop stands, are all of them stored from where the first begins.
use mathlib.Core.Path.{◌≡◌}
use Prim.Native.Nat.{◌+◌, ◌-◌, ◌*◌, ◌≤◌}
use lib.ListN.{length}
use Rattle.page.specs.Page.{lines_end}
use Rattle.page.proofs.Pieces.{Ahead}
use Rattle.page.proofs.page.put_lines.Given as goal

abbrev pub invariant-loop-j : goal.invariant-loop-j
invariant-loop-j l =
    (length l.out ≡ length l.initial.out) × (l.j ≤ l.last) × (l.start ≡ lines_end l.l.ends l.l.lines l.j) × (l.i ≤ l.j) × (l.p ≤ 12 + (l.j - l.i) * 262672)
    × Ahead l.l l.i l.last l.at l.initial.out l.j l.p l.out
