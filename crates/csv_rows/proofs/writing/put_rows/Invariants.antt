-- Rows one behind the other: `put_rows` meets its contract.
-- What is left from here is one row and what is left behind it.
use mathlib.Core.Path.{◌≡◌}
use Rattle.tokens.specs.Lines.{end_at}
use Rattle.csv_rows.specs.Writing.{rows_from}
use Rattle.csv_rows.proofs.Going.{Going}
use Rattle.csv_rows.proofs.writing.put_rows.Given as goal

abbrev pub invariant-loop-i : goal.invariant-loop-i
invariant-loop-i l = Going (rows_from l.l l.m) 0 0 l.initial.out l.i l.p l.out × (l.n ≡ end_at l.l.lines l.i)
