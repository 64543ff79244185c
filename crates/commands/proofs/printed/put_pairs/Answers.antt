-- A text's bytes as pairs: `put_pairs` meets its contract.
-- What is left from here is one byte and what is left behind it.
use Rattle.csv_rows.proofs.Going.{go_turn, go_end}
use Rattle.commands.proofs.Printing.{pairs_more, pairs_none, pairs_all, pairs_room}
use Rattle.commands.proofs.printed.put_pairs.Goals as goal

pub put_pair-p-requires : goal.put_pair-p-requires
put_pair-p-requires c = pairs_room _ c.loop-b.invariant c.loop-b-test.true c.requires

pub loop-b-preserved : goal.loop-b-preserved
loop-b-preserved c = go_turn c.loop-b.invariant (pairs_more _ _ c.loop-b-test.true) c.put_pair-p.ensures

pub returns : goal.returns
returns c = rw pairs_all at (go_end c.loop-b.invariant (pairs_none _ _ c.loop-b-test.false))
