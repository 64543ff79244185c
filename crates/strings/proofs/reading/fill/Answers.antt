-- `reading::fill` meets its contract.
-- The invariant `Filling`: what is left of the characters is what is left to store.
use Rattle.strings.proofs.Characters.{filling_more, filling_stop, filling_end}
use Rattle.strings.proofs.reading.fill.Goals as goal

pub returns-in_default : goal.returns-in_default
returns-in_default c = filling_stop _ _ _ _ _ _ _ c.from.ensures.0 c.in_default.ensures c.loop-k.invariant c.loop-k-test.true

pub loop-k-preserved : goal.loop-k-preserved
loop-k-preserved c =
    filling_more _ _ _ _ _ _ _ _ _ _ c.from.ensures.0 c.in-Some.ensures c.store.ensures c.loop-k.invariant c.loop-k-test.true

pub returns : goal.returns
returns c = filling_end _ _ _ _ _ _ c.loop-k.invariant c.loop-k-test.false
