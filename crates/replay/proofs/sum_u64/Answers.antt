-- `sum_u64` meets its contract.
-- The invariant of a sum, with two numbers for each entry.
use Rattle.replay.proofs.Turning.{wide_turn, wide_done}
use Rattle.replay.proofs.sum_u64.Goals as goal

pub loop-x-preserved : goal.loop-x-preserved
loop-x-preserved c = (c.next-h.ensures.1, wide_turn _ _ _ _ _ _ c.loop-x-test.true c.next.ensures.0 c.next-h.ensures.0 c.loop-x.invariant.1)

pub returns : goal.returns
returns c = wide_done _ _ _ _ c.loop-x-test.false c.loop-x.invariant.1
