-- The size of a text with its quotes doubled: `doubled_size` meets its contract.
-- What is added and what is left make up the whole.
use Rattle.csv_rows.proofs.Sums.{text_start_lem, text_turn, text_end}
use Rattle.csv_rows.proofs.sizing.doubled_size.Goals as goal

pub loop-b-init : goal.loop-b-init
loop-b-init c = text_start_lem

pub loop-b-preserved : goal.loop-b-preserved
loop-b-preserved c = text_turn c.loop-b.invariant c.loop-b-test.true c.char_size-n.ensures.0 c.char_size-n.ensures.1

pub returns : goal.returns
returns c = text_end c.loop-b.invariant c.loop-b-test.false
