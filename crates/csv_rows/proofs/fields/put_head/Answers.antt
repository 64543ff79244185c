-- A row before its tokens: `put_head` meets its contract.
-- Its five parts one behind the other.
use Rattle.csv_rows.proofs.Heads.{head_wrote}
use Rattle.csv_rows.proofs.fields.put_head.Goals as goal

pub returns : goal.returns
returns c = head_wrote _ _ _ c.put_address-p.ensures c.store.ensures (record { end = c.put_decimal-q.ensures.end.0; text = c.put_decimal-q.ensures.text }) c.store-2.ensures (record { end = c.put_decimal.ensures.end.0; text = c.put_decimal.ensures.text })
