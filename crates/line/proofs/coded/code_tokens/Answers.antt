-- `coded::code_tokens` meets its contract.
-- The row of its form, at its site.
use Rattle.operand.proofs.Tokens.{as_tokens}
use Rattle.line.proofs.RowTable.{form_below}
use Rattle.line.proofs.Turns.{line_is}
use Rattle.line.proofs.coded.code_tokens.Goals as goal

pub code_frame-requires : goal.code_frame-requires
code_frame-requires c = record { lent = c.requires.lent; body_value = c.body_of-body.ensures; codes_value = c.requires.codes_value; form_bound = form_below _ _ (c.line_form-form.ensures) }

pub returns-then-what-lt8 : goal.returns-then-what-lt8
returns-then-what-lt8 c =
    let a = c.args in
    as_tokens (line_is a.h a.rec.now a.blocks.now a.range a.mask a.code _ _ _ _ _ _ c.requires.blocks_value c.place_of_line-place.ensures c.instruction_of-i.ensures c.size.ensures.0 c.element_or-first.ensures c.what_of-what.ensures c.line_form-form.ensures) c.code_frame.ensures

pub code_row-requires : goal.code_row-requires
code_row-requires c = record { lent = c.requires.lent; body_value = c.body_of-body.ensures; codes_value = c.requires.codes_value; form_bound = form_below _ _ (c.line_form-form.ensures) }

pub returns : goal.returns
returns c =
    let a = c.args in
    as_tokens (line_is a.h a.rec.now a.blocks.now a.range a.mask a.code _ _ _ _ _ _ c.requires.blocks_value c.place_of_line-place.ensures c.instruction_of-i.ensures c.size.ensures.0 c.element_or-first.ensures c.what_of-what.ensures c.line_form-form.ensures) c.code_row.ensures
