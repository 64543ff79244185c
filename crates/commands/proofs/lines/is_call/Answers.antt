-- Whether a line is a call line: `is_call` meets its contract.
-- By the tests of the definition, of which the code makes two before the others.
use mathlib.Core.Path.{◌≡◌, ap, ◌∙◌}
use Rattle.lists.specs.Ascii.{ascii}
use Rattle.x86.specs.Words.{same_word}
use Rattle.commands.proofs.Asked.{addressed, not_addressed, no_address, call_told}
use Rattle.commands.proofs.Same.{same_pointwise}
use Rattle.commands.proofs.lines.is_call.Goals as goal

pub returns-then-element_or-lt256 : goal.returns-then-element_or-lt256
returns-then-element_or-lt256 c = rw (← c.l.view_is) (no_address _ (not_addressed _ _ _ c.element_or.ensures c.if-element_or-lt256.true))

pub returns-then-kind_of : goal.returns-then-kind_of
returns-then-kind_of c =
    let e : c.eq.result ≡ same_word c.text_of.result.now (ascii " = ") = c.eq.ensures ∙ same_pointwise c.text_of.result.now c.as_slice.result.now ∙ ap (same_word c.text_of.result.now) c.as_slice.ensures in
    call_told _ _ _ c.kind_of.ensures c.kind_of-2.ensures _ _ _ _ (addressed c.args.l.now c.args.i c.element_or.result (rw (← c.l.view_is) c.element_or.ensures) c.if-element_or-lt256.false)
    c.if-kind_of.true c.text_of.ensures e c.text_of-then-kind_of.ensures c.u8_at.ensures.0
