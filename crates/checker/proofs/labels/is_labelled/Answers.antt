-- Whether a line is no goto, or the label that it names stands: `is_labelled` meets its contract.
-- By what the line is.
use mathlib.Core.Path.{sym, ◌∙◌}
use mathlib.Core.List.{map}
use Rattle.line.specs.Lines.{line_in}
use Rattle.checker.proofs.Labelled.{labelled_goto, labelled_other}
use Rattle.checker.proofs.labels.is_labelled.Goals as goal

pub returns-then-what : goal.returns-then-what
returns-then-what c =
    let a = c.args in
    c.label_stands.ensures ∙ rw (c.branch_to.ensures, c.place_of_line.ensures) (sym (labelled_goto a.blocks.now (map line_in a.codes.now) _ a.code c.what_of-what.ensures c.if-what.true))

pub returns : goal.returns
returns c =
    let a = c.args in
    sym (labelled_other a.blocks.now (map line_in a.codes.now) _ a.code c.what_of-what.ensures c.if-what.false)
