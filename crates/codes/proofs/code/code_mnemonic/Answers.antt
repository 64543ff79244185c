-- `code::code_mnemonic` meets its contract.
-- The row of the mnemonic, or no text past the last.
use Rattle.codes.proofs.EachToken.{none_coded, as_token}
use Rattle.codes.proofs.TableLaws.{table_size, mnemonic_is, mnemonic_size}
use Rattle.x86.proofs.Past.{no_mnemonic}
use Rattle.x86.specs.Mnemonics.{mnemonic_name}
use Rattle.tokens.specs.Token.{token}
use Rattle.codes.specs.Tables.{table_bytes}
use Rattle.std.proofs.Common.{sym, ap, arith}
use Rattle.codes.proofs.code.code_mnemonic.Goals as goal

pub code_text-requires : goal.code_text-requires
code_text-requires c = record { in_bounds = c.requires.in_bounds; k_bound = omega arith; at_in_bounds = omega (arith, table_size); at_value = mnemonic_size c.args.m c.if-m-lt46.true }

pub returns-then-m-lt46 : goal.returns-then-m-lt46
returns-then-m-lt46 c s =
    as_token _ (token 0 (mnemonic_name c.args.m)) (ap (token 0) (mnemonic_is c.args.m c.if-m-lt46.true))
    (c.code_text.ensures s)

pub returns : goal.returns
returns c s =
    as_token _ (token 0 (mnemonic_name c.args.m)) (ap (token 0) (sym (no_mnemonic c.args.m c.if-m-lt46.false)))
    (none_coded table_bytes s c.args.codes.now _ 0 (omega arith) c.put_code.ensures)
