-- `code::code_prefixed` meets its contract.
-- The word of the table, and the value behind the code.
use Rattle.codes.proofs.TableLaws.{table_size, word_kind}
use Rattle.codes.proofs.Prefixed.{prefixed_word}
use Rattle.std.proofs.Common.{true, refl, arith}
use Rattle.codes.proofs.code.code_prefixed.Goals as goal

pub bounds-tables-at : goal.bounds-tables-at
bounds-tables-at c =
    rw c.args.tables.whole (omega (arith, table_size))

pub bounds-tables-at-2 : goal.bounds-tables-at-2
bounds-tables-at-2 c =
    rw c.args.tables.whole (omega (arith, table_size))

pub put_valued-requires : goal.put_valued-requires
put_valued-requires c = record { in_bounds = c.requires.in_bounds; k_bound = (rw c.args.tables.whole (word_kind c.args.w c.requires.w_bound), omega arith) }

pub returns : goal.returns
returns c s =
    prefixed_word s c.args.codes.now _ c.args.w c.args.v _ _ _ c.requires.w_bound (rw c.args.tables.whole refl) (rw c.args.tables.whole refl)
    (c.hex_count.ensures.0 true) c.put_valued.ensures
