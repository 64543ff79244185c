-- `sum` meets its contract.
-- The invariant of a sum.
use mathlib.Core.Path.{ap, ◌∙◌}
use Rattle.replay.specs.Sum.{turn}
use Rattle.replay.proofs.Turning.{sum_turn, sum_done}
use Rattle.replay.proofs.sum.Goals as goal

pub loop-x-preserved : goal.loop-x-preserved
loop-x-preserved g c = (
  c.next-h.ensures.1,
  λ value known.
      let number = c.into.ensures ∙ known _ _ c.into-n.ensures in
      sum_turn value _ _ _ _ _ _ c.loop-x-test.true c.x-item.is (c.next-h.ensures.0 ∙ ap (turn c.loop-x.h) number) (c.loop-x.invariant.1 value known),
)

pub returns : goal.returns
returns g c = λ value known. sum_done value _ _ _ _ c.loop-x-test.false (c.loop-x.invariant.1 value known)
