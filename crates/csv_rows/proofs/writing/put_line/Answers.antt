-- A row behind its first fields: `put_line` meets its contract.
-- Tokens, CR and LF one behind the other.
use Rattle.csv_rows.proofs.Rows.{line_wrote}
use Rattle.csv_rows.proofs.writing.put_line.Goals as goal

pub returns : goal.returns
returns c = line_wrote _ _ _ _ _ c.put_tokens-p.ensures c.store.ensures c.store-2.ensures
