-- The size of all rows besides their tokens: `frames_size` meets its contract.
-- One more at each turn.
use Rattle.csv_rows.proofs.Sums.{Frames}
use Rattle.csv_rows.proofs.sizing.frames_size.Given as goal

abbrev pub invariant-loop-i : goal.invariant-loop-i
invariant-loop-i l = Frames l.marks l.places l.m l.n l.i
