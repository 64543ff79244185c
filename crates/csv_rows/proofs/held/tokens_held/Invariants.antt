-- Whether each token is one: `tokens_held` meets its contract.
-- All before the one at hand are.
use Rattle.csv_rows.proofs.Checks.{Tokens}
use Rattle.csv_rows.proofs.held.tokens_held.Given as goal

abbrev pub invariant-loop-j : goal.invariant-loop-j
invariant-loop-j l = Tokens l.l l.n l.x l.j
