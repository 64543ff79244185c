-- What a line sets its first token to: `set_by` meets its contract.
-- By its second token, and the string of its third.
use mathlib.Core.Path.{◌≡◌, ap, ◌∙◌}
use Rattle.lists.specs.Ascii.{ascii}
use Rattle.x86.specs.Words.{same_word}
use Rattle.commands.proofs.Given.{no_assign, assigned}
use Rattle.commands.proofs.Same.{same_pointwise}
use Rattle.commands.proofs.set.set_by.Goals as goal

pub returns-then-eq : goal.returns-then-eq
returns-then-eq c =
    let e : c.eq.result ≡ same_word c.text_of.result.now (ascii " = ") = c.eq.ensures ∙ same_pointwise c.text_of.result.now c.as_slice.result.now ∙ ap (same_word c.text_of.result.now) c.as_slice.ensures in
    assigned _ _ _ c.text_of.ensures e _ _ _ _ c.if-eq.true c.kind_of.ensures c.text_of-then-eq.ensures c.read_string.ensures

pub returns : goal.returns
returns c =
    let e : c.eq.result ≡ same_word c.text_of.result.now (ascii " = ") = c.eq.ensures ∙ same_pointwise c.text_of.result.now c.as_slice.result.now ∙ ap (same_word c.text_of.result.now) c.as_slice.ensures in
    no_assign _ _ _ c.text_of.ensures e _ c.if-eq.false
