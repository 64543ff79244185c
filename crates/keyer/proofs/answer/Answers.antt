-- `answer` meets its contract.
-- By how the input comes apart: too long, without two lines, with an empty name, or names and rows.
use native.Mathlib.Omega.{arith}
use Rattle.lists.specs.Question.{number}
use Rattle.page.proofs.Pieces.{stands_whole}
use Rattle.keyer.proofs.Input.{too_long, no_lines, no_names, rows_print, both_named, one_unnamed}
use Rattle.keyer.proofs.answer.Goals as goal

pub returns-then-input-gt65536 : goal.returns-then-input-gt65536
returns-then-input-gt65536 c = too_long _ _ (omega (arith, c.if-input-gt65536.true)) (stands_whole _ _ _ _ (c.put_refusal.ensures.text number (λ _ _ is. is)).0 (c.put_refusal.ensures.text number (λ _ _ is. is)).1 (omega (arith, c.put_refusal.ensures.short, c.requires)))

pub returns-then-m-rest : goal.returns-then-m-rest
returns-then-m-rest c = no_lines _ _ _ _ c.line_size-n.ensures.0 c.from-rest.ensures.0 c.line_size-m.ensures.0 _ c.if-m-rest.true (stands_whole _ _ _ _ (c.put_refusal-then-m-rest.ensures.text number (λ _ _ is. is)).0 (c.put_refusal-then-m-rest.ensures.text number (λ _ _ is. is)).1 (omega (arith, c.put_refusal-then-m-rest.ensures.short, c.requires)))

pub returns-then-n-m : goal.returns-then-n-m
returns-then-n-m c = no_names _ _ _ _ c.line_size-n.ensures.0 c.from-rest.ensures.0 c.line_size-m.ensures.0 (omega (arith, c.if-input-gt65536.false)) c.if-m-rest.false _ (one_unnamed _ _ _ _ c.line_size-n.ensures.0 c.from-rest.ensures.0 c.line_size-m.ensures.0 c.if-n-m.true) (stands_whole _ _ _ _ (c.put_refusal-then-n-m.ensures.text number (λ _ _ is. is)).0 (c.put_refusal-then-n-m.ensures.text number (λ _ _ is. is)).1 (omega (arith, c.put_refusal-then-n-m.ensures.short, c.requires)))

pub returns : goal.returns
returns c = rows_print _ _ _ _ c.line_size-n.ensures.0 c.from-rest.ensures.0 c.line_size-m.ensures.0 (omega (arith, c.if-input-gt65536.false)) c.if-m-rest.false _ (both_named _ _ _ _ c.line_size-n.ensures.0 c.from-rest.ensures.0 c.line_size-m.ensures.0 c.if-n-m.false) (rw (c.part.ensures.0, c.part-2.ensures.0, c.from.ensures.0) at c.answer_rows.ensures)
