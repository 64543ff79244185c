-- The size of a text with its quotes doubled: `doubled_size` meets its contract.
-- What is added and what is left make up the whole.
use Rattle.csv_rows.proofs.Sums.{Text}
use Rattle.csv_rows.proofs.sizing.doubled_size.Given as goal

abbrev pub invariant-loop-b : goal.invariant-loop-b
invariant-loop-b l = Text l.s l.n l.b-index
