-- `x86::mnemonics::writes_flags` answers what the definition says of every number.
-- The column of the table, at the number.
use mathlib.Core.Path.{refl}
use Rattle.x86.proofs.Columns.{mnemonic_flags}
use Rattle.x86.proofs.mnemonics.writes_flags.Goals as goal

pub returns : goal.returns
returns c =
    rw c.column.ensures (mnemonic_flags _ refl _)
