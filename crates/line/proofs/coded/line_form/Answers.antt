-- `coded::line_form` meets its contract.
-- The form by the number, or the instruction's: by the table, or by what more decides, of which only a ret asks for a value.
use mathlib.Core.Path.{ap, ◌∙◌}
use Prim.Native.Nat.{ℕ}
use native.Mathlib.Omega.{arith}
use lib.ListN.{drop}
use Rattle.line.proofs.RowTable.{size_of}
use Rattle.line.proofs.PlainForms.{untold}
use Rattle.line.proofs.Turns.{form_early, form_plain, form_ret, form_other}
use Rattle.line.proofs.coded.line_form.Goals as goal

pub returns-then-what-lt8 : goal.returns-then-what-lt8
returns-then-what-lt8 c = form_early c.args.h c.args.rec.now c.args.what c.args.first c.args.i c.if-what-lt8.true

pub bounds-rows-m : goal.bounds-rows-m
bounds-rows-m c = omega (arith, size_of _ c.args.rows.whole)

pub returns-then-form-lt48 : goal.returns-then-form-lt48
returns-then-form-lt48 c =
    let s = c.args.rec.now in
    form_plain c.args.h s c.args.what c.args.first c.args.i _ _ _ _ c.if-what-lt8.false (c.from-bodies.ensures.0 ∙ ap (λ (x : ℕ). drop x s) c.bodies_at.ensures.0) c.body_at-body.ensures c.mnemonic-m.ensures (omega arith) c.args.rows.whole c.if-form-lt48.true

pub returns-then-m-eq24 : goal.returns-then-m-eq24
returns-then-m-eq24 c =
    let s = c.args.rec.now in
    form_ret c.args.h s c.args.what c.args.first c.args.i _ _ _ _ _ c.if-what-lt8.false (c.from-bodies.ensures.0 ∙ ap (λ (x : ℕ). drop x s) c.bodies_at.ensures.0) c.returns_value.ensures c.body_at-body.ensures c.mnemonic-m.ensures c.if-m-eq24.true c.return_form.ensures

pub insn_form-requires : goal.insn_form-requires
insn_form-requires c = record { body_value = untold c.body_at-body.result.now _ _ c.mnemonic-m.ensures (omega arith) c.args.rows.whole c.if-form-lt48.false c.if-m-eq24.false }

pub returns : goal.returns
returns c =
    let s = c.args.rec.now in
    form_other c.args.h s c.args.what c.args.first c.args.i _ _ _ _ c.if-what-lt8.false (c.from-bodies.ensures.0 ∙ ap (λ (x : ℕ). drop x s) c.bodies_at.ensures.0) c.body_at-body.ensures c.mnemonic-m.ensures c.if-m-eq24.false c.insn_form.ensures
