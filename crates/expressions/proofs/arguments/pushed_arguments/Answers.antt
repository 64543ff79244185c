-- `arguments::pushed_arguments` meets its contract.
-- The invariant: the pushes coded and those left are all of them.
use mathlib.Core.Path.{sym, ◌∙◌}
use Rattle.codes.proofs.Coding.{coded_none}
use Rattle.operand.proofs.Tokens.{as_tokens}
use Rattle.expressions.proofs.Commas.{back_push, back_over, back_stop, back_none}
use Rattle.expressions.proofs.Bodies.{bodies_are}
use Rattle.expressions.proofs.CodedCommas.{all_pushed}
use Rattle.expressions.proofs.Turns.{at_start, further, over, at_end}
use Rattle.expressions.proofs.arguments.pushed_arguments.Goals as goal

pub loop-j-init : goal.loop-j-init
loop-j-init c = at_start (coded_none _ _ _ c.type_inv.codes)

pub returns-in-Call : goal.returns-in-Call
returns-in-Call c =
    let a = c.args in
    let e = bodies_are a.h a.rec.now c.from-bodies.ensures.0 c.bodies_at.ensures.0 in
    let stop = back_stop _ _ _ _ c.loop-j.j a.h a.rec.now c.loop-j.comma c.loop-j-test.true (sym c.in-Call.is ∙ c.push_part.ensures) in
    as_tokens (all_pushed a.h a.rec.now _ a.first a.i e) (at_end c.loop-j.invariant stop)

pub loop-j-preserved-in-Push : goal.loop-j-preserved-in-Push
loop-j-preserved-in-Push c =
    let a = c.args in
    let e = bodies_are a.h a.rec.now c.from-bodies.ensures.0 c.bodies_at.ensures.0 in
    further c.loop-j.invariant (back_push _ _ _ _ c.loop-j.j a.h a.rec.now c.loop-j.comma e c.loop-j-test.true (sym c.in-Push.is ∙ c.push_part.ensures) _ c.body_at.ensures) c.code_listed.ensures

pub loop-j-preserved : goal.loop-j-preserved
loop-j-preserved c =
    over c.loop-j.invariant (back_over _ _ _ _ c.loop-j.j c.args.h c.args.rec.now c.loop-j.comma c.loop-j-test.true (sym c.in-Neither.is ∙ c.push_part.ensures))

pub returns : goal.returns
returns c =
    let a = c.args in
    let e = bodies_are a.h a.rec.now c.from-bodies.ensures.0 c.bodies_at.ensures.0 in
    as_tokens (all_pushed a.h a.rec.now _ a.first a.i e) (at_end c.loop-j.invariant (back_none _ _ _ _ c.loop-j.j a.h a.rec.now c.loop-j.comma c.loop-j-test.false))
