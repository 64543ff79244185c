-- `reading::measure` meets its contract.
-- The invariant `Scan`: what is counted, and what is left, is all there is to count.
use Rattle.csv_rows.proofs.Turns.{Scan}
use Rattle.csv_rows.proofs.reading.measure.Given as goal

abbrev pub invariant-loop-c : goal.invariant-loop-c
invariant-loop-c l = Scan l.s l.c-index l.t l.x l.n l.l
