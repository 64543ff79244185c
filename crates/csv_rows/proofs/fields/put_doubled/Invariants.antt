-- A text with its quotes doubled: `put_doubled` meets its contract.
-- What is left from here is one byte and what is left behind it.
use Rattle.csv_rows.proofs.Going.{Going, text_from}
use Rattle.csv_rows.proofs.fields.put_doubled.Given as goal

abbrev pub invariant-loop-b : goal.invariant-loop-b
invariant-loop-b l = Going (text_from l.s) 0 l.at l.initial.out l.b-index l.p l.out
