-- A token: `put_token` meets its contract.
-- Its six parts one behind the other.
use Rattle.csv_rows.proofs.Wrote.{wrote_token}
use Rattle.csv_rows.proofs.fields.put_token.Goals as goal

pub returns : goal.returns
returns c = wrote_token _ _ c.store.ensures c.letter_of.ensures c.store-2.ensures c.store-3.ensures c.store-4.ensures c.put_doubled-p.ensures c.store-5.ensures
