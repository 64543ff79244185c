-- A text with its quotes doubled: `put_doubled` meets its contract.
-- What is left from here is one byte and what is left behind it.
use Rattle.csv_rows.proofs.Going.{go_turn, go_end, text_more, text_none, text_all, text_room}
use Rattle.csv_rows.proofs.fields.put_doubled.Goals as goal

pub put_char-p-requires : goal.put_char-p-requires
put_char-p-requires c = text_room _ c.loop-b.invariant c.loop-b-test.true c.requires

pub loop-b-preserved : goal.loop-b-preserved
loop-b-preserved c = go_turn c.loop-b.invariant (text_more _ _ c.loop-b-test.true) c.put_char-p.ensures

pub returns : goal.returns
returns c = rw text_all at (go_end c.loop-b.invariant (text_none _ _ c.loop-b-test.false))
