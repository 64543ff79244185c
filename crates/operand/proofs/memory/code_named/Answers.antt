-- `memory::code_named` meets its contract.
-- By whether it is read or a literal.
use Rattle.operand.proofs.Entries.{part_is}
use Rattle.operand.proofs.Pieces.{entry_addressed}
use Rattle.operand.proofs.memory.code_named.Goals as goal

pub returns : goal.returns
returns c =
    let a = c.args in
    entry_addressed a.h a.k _ a.deref _ (part_is _ _ _ _ c.from.ensures.0 c.pairs_at.ensures.0) c.entry_kind.ensures (c.code_if.ensures a.rec.now) (c.code_entry.ensures _)
