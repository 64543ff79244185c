-- `x86::registers::register_known` says which bytes are registers' numbers.
-- The table at the number.
use native.Mathlib.Omega.{arith}
use Rattle.x86.proofs.Columns.{register_known, missing_length}
use Rattle.x86.proofs.registers.register_known.Goals as goal

pub plain_u8-requires : goal.plain_u8-requires
plain_u8-requires c = omega (arith, missing_length _ c.args.missing.whole)

pub returns : goal.returns
returns c =
    rw c.plain_u8.ensures.0 (register_known c.args.missing.bytes.now c.args.missing.whole _ (omega arith))
