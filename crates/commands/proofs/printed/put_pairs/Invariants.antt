-- A text's bytes as pairs: `put_pairs` meets its contract.
-- What is left from here is one byte and what is left behind it.
use Rattle.csv_rows.proofs.Going.{Going}
use Rattle.commands.proofs.Printing.{pairs_from}
use Rattle.commands.proofs.printed.put_pairs.Given as goal

abbrev pub invariant-loop-b : goal.invariant-loop-b
invariant-loop-b l = Going (pairs_from l.s) 0 l.at l.initial.out l.b-index l.p l.out
