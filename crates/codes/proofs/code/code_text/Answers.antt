-- `code::code_text` meets its contract.
-- The bytes behind the length.
use Rattle.codes.specs.Tables.{table_bytes}
use Rattle.std.proofs.Common.{List, ap, ℕ, arith}
use Rattle.lists.specs.Bytes.{u8_at}
use Rattle.codes.proofs.EachToken.{text_coded}
use Rattle.codes.proofs.code.code_text.Goals as goal

pub returns : goal.returns
returns c s =
    let a = c.args in
    text_coded table_bytes s a.codes.now _ a.k c.requires.k_bound (u8_at a.tables.bytes.now a.at) a.at (omega arith) c.requires.at_in_bounds (ap (λ (t : List ℕ). u8_at t a.at) a.tables.whole) c.requires.at_value c.put_code.ensures
