-- `memory::code_global` meets its contract.
-- By what was found.
use mathlib.Core.Path.{sym, ◌∙◌}
use Rattle.std.specs.Prelude.{Some}
use Rattle.operand.proofs.Readings.{global_found}
use Rattle.operand.proofs.Tokens.{as_tokens}
use Rattle.operand.proofs.Pieces.{nothing_found}
use Rattle.operand.proofs.memory.code_global.Goals as goal

pub returns-in-Some : goal.returns-in-Some
returns-in-Some c =
    let a = c.args in
    as_tokens (global_found a.h a.rec.now a.body.now a.deref (Some _) _ _ _ c.memory_address-va.ensures (sym c.in-Some.is ∙ c.entry_at.ensures) c.memory_size.ensures c.prefix_word-w.ensures.0) c.code_named.ensures

pub returns-in-None : goal.returns-in-None
returns-in-None c =
    let a = c.args in
    as_tokens (nothing_found a.h a.rec.now a.body.now a.deref _ _ _ _ c.memory_address-va.ensures c.entry_at.ensures c.memory_size.ensures c.prefix_word-w.ensures.0 c.in-None.is) (c.code_unnamed.ensures a.rec.now)
