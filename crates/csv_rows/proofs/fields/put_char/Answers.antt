-- A byte of a text: `put_char` meets its contract.
-- A quote is stored twice.
use Rattle.csv_rows.proofs.Wrote.{wrote_quote, wrote_char}
use Rattle.csv_rows.proofs.fields.put_char.Goals as goal

pub returns-then-b-eq34 : goal.returns-then-b-eq34
returns-then-b-eq34 c = wrote_quote c.if-b-eq34.true c.store.ensures c.store-then-b-eq34.ensures

pub returns : goal.returns
returns c = wrote_char c.if-b-eq34.false c.store-2.ensures
