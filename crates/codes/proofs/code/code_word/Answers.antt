-- `code::code_word` meets its contract.
-- The row of the word, or no text past the last.
use Rattle.codes.proofs.EachToken.{none_coded, as_token}
use Rattle.codes.proofs.TableLaws.{table_size, word_is, word_kind, word_size, no_word}
use Rattle.tokens.specs.Words.{word_token}
use Rattle.codes.specs.Tables.{table_bytes}
use Rattle.std.proofs.Common.{arith}
use Rattle.codes.proofs.code.code_word.Goals as goal

pub bounds-tables-at : goal.bounds-tables-at
bounds-tables-at c = rw c.args.tables.whole (omega (arith, table_size))

pub code_text-requires : goal.code_text-requires
code_text-requires c =
    let h = c.if-w-lt102.true in
    record { in_bounds = c.requires.in_bounds; k_bound = rw c.args.tables.whole (word_kind c.args.w h); at_in_bounds = omega (arith, table_size); at_value = word_size c.args.w h }

pub returns-then-w-lt102 : goal.returns-then-w-lt102
returns-then-w-lt102 c s =
    as_token _ (word_token c.args.w) (word_is c.args.w c.if-w-lt102.true) (rw c.args.tables.whole at c.code_text.ensures s)

pub returns : goal.returns
returns c s =
    as_token _ (word_token c.args.w) (no_word c.args.w c.if-w-lt102.false)
    (none_coded table_bytes s c.args.codes.now _ 0 (omega arith) c.put_code.ensures)
