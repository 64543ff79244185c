-- The lines of a table: `put_table` meets its contract.
-- What is left from here is one row's line and what is left behind it.
use Rattle.csv_rows.proofs.Going.{go_turn, go_end}
use Rattle.commands.proofs.Printing.{lines_more, lines_none, lines_room, lines_whole}
use Rattle.commands.proofs.printed.put_table.Goals as goal

pub put_row_line-p-requires : goal.put_row_line-p-requires
put_row_line-p-requires c = lines_room _ _ c.loop-j.invariant c.loop-j-test.true c.requires

pub loop-j-preserved : goal.loop-j-preserved
loop-j-preserved c = go_turn c.loop-j.invariant (lines_more _ _ _ c.loop-j-test.true) c.put_row_line-p.ensures

pub returns : goal.returns
returns c = let held = lines_whole _ _ (go_end c.loop-j.invariant (lines_none _ _ _ c.loop-j-test.false)) in record { end = held.0; text = held.1 }
