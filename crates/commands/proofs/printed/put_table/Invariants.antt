-- The lines of a table: `put_table` meets its contract.
-- What is left from here is one row's line and what is left behind it.
use Rattle.csv_rows.proofs.Going.{Going}
use Rattle.commands.specs.Table.{table_lists}
use Rattle.commands.proofs.Printing.{lines_from}
use Rattle.commands.proofs.printed.put_table.Given as goal

abbrev pub invariant-loop-j : goal.invariant-loop-j
invariant-loop-j l = Going (lines_from (table_lists l.bytes l.rows l.addresses) l.n) 0 0 l.initial.out l.j l.p l.out
