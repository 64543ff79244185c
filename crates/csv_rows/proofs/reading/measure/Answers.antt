-- `reading::measure` meets its contract.
-- The invariant `Scan`: what is counted, and what is left, is all there is to count.
use mathlib.Core.Path.{sym, ◌∙◌}
use native.Mathlib.Omega.{arith}
use Rattle.csv_rows.proofs.Turns.{scan_start, scan_end, scan_none, count_turn, other_turn}
use Rattle.csv_rows.proofs.reading.measure.Goals as goal
use Rattle.csv_rows.proofs.reading.measure.Goals.{in-Byte, in-TokenEnd, in-RowEnd, in_default}

pub loop-c-init : goal.loop-c-init
loop-c-init c = scan_start _

pub loop-c-preserved : goal.loop-c-preserved
loop-c-preserved c =
    elim c.match-effect_of.branch [
      | in-Byte w ↦ count_turn c.loop-c.invariant c.loop-c-test.true _ w.in-Byte.ensures w.x-is (omega (arith, w.n-is)) (omega (arith, w.l-is)) c.next-t.ensures
      | in-TokenEnd w ↦ count_turn c.loop-c.invariant c.loop-c-test.true _ w.in-TokenEnd.ensures (omega (arith, w.x-is)) w.n-is (omega (arith, w.l-is)) c.next-t.ensures
      | in-RowEnd w ↦ count_turn c.loop-c.invariant c.loop-c-test.true _ w.in-RowEnd.ensures (omega (arith, w.x-is)) (omega (arith, w.n-is)) w.l-is c.next-t.ensures
      | in_default w ↦
          other_turn c.loop-c.invariant c.loop-c-test.true _ c.effect_of.ensures w.in_default.not-Byte w.in_default.not-TokenEnd w.in_default.not-RowEnd w.x-is w.n-is w.l-is c.next-t.ensures
    ]

pub returns-then-is_start : goal.returns-then-is_start
returns-then-is_start c = scan_end c.loop-c.invariant c.loop-c-test.false (sym c.is_start.ensures ∙ c.if-is_start.true)

pub returns : goal.returns
returns c = scan_none c.loop-c.invariant c.loop-c-test.false (sym c.is_start.ensures ∙ c.if-is_start.false)
