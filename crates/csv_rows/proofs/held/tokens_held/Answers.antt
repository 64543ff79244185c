-- Whether each token is one: `tokens_held` meets its contract.
-- All before the one at hand are.
use Rattle.csv_rows.proofs.Checks.{tokens_turn, tokens_fail}
use Rattle.csv_rows.proofs.held.tokens_held.Goals as goal

pub loop-j-preserved : goal.loop-j-preserved
loop-j-preserved c = rw (← c.l.view_is) (tokens_turn (rw (← c.l.view_is) at c.loop-j.invariant) c.loop-j-test.true c.end_at-y.ensures c.if-not-held.false)

pub returns-then-not-held : goal.returns-then-not-held
returns-then-not-held c = rw (← c.l.view_is) (tokens_fail (rw (← c.l.view_is) at c.loop-j.invariant) c.loop-j-test.true c.end_at-y.ensures c.if-not-held.true)
