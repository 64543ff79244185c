-- `code::code_register` meets its contract.
-- The row of the register, or no text past the last.
use Rattle.codes.proofs.EachToken.{none_coded, as_token}
use Rattle.codes.proofs.TableLaws.{table_size, register_is, register_size_lem}
use Rattle.x86.proofs.Past.{no_register}
use Rattle.x86.specs.Registers.{register_name}
use Rattle.tokens.specs.Token.{token}
use Rattle.codes.specs.Tables.{table_bytes}
use Rattle.std.proofs.Common.{sym, ap, arith}
use Rattle.codes.proofs.code.code_register.Goals as goal

pub code_text-requires : goal.code_text-requires
code_text-requires c = record { in_bounds = c.requires.in_bounds; k_bound = omega arith; at_in_bounds = omega (arith, table_size); at_value = register_size_lem c.args.r c.if-r-lt160.true }

pub returns-then-r-lt160 : goal.returns-then-r-lt160
returns-then-r-lt160 c s =
    as_token _ (token 1 (register_name c.args.r)) (ap (token 1) (register_is c.args.r c.if-r-lt160.true))
    (c.code_text.ensures s)

pub returns : goal.returns
returns c s =
    as_token _ (token 1 (register_name c.args.r)) (ap (token 1) (sym (no_register c.args.r c.if-r-lt160.false)))
    (none_coded table_bytes s c.args.codes.now _ 1 (omega arith) c.put_code.ensures)
