-- Tokens one behind the other: `put_tokens` meets its contract.
-- What is left from here is one token and what is left behind it.
use mathlib.Core.Path.{◌≡◌}
use Rattle.tokens.specs.Lines.{end_at}
use Rattle.csv_rows.specs.Writing.{tokens_from}
use Rattle.csv_rows.proofs.Going.{Going}
use Rattle.csv_rows.proofs.writing.put_tokens.Given as goal

abbrev pub invariant-loop-j : goal.invariant-loop-j
invariant-loop-j l = Going (tokens_from l.l.text l.l.ends l.l.kinds l.m) l.n l.at l.initial.out l.j l.p l.out × (l.x ≡ end_at l.l.ends l.j)
