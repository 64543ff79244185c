-- Whether a text begins with another: `begins_with` meets its contract.
-- The invariant: what is left of both tells it.
use mathlib.Core.Path.{sym, ◌∙◌}
use native.Mathlib.Omega.{arith}
use Rattle.checker.proofs.Begins.{begins_short, begins_all, begins_fails, begins_goes_on}
use borrow.Author.Rules.{rules}
use Rattle.checker.proofs.names.begins_with.Goals as goal

pub returns-then-t-w : goal.returns-then-t-w
returns-then-t-w c = sym (begins_short _ _ c.if-t-w.true)

pub returns-then-t-i : goal.returns-then-t-i
returns-then-t-i c =
    let a = c.args in
    sym (c.loop-i.invariant.2 ∙ begins_fails a.t.now a.w.now c.loop-i.i (omega arith) (omega arith) c.if-t-i.true)

pub loop-i-preserved : goal.loop-i-preserved
loop-i-preserved c =
    let a = c.args in
    (search rules, c.loop-i.invariant.1, c.loop-i.invariant.2 ∙ begins_goes_on a.t.now a.w.now c.loop-i.i (omega arith) (omega arith) c.if-t-i.false)

pub returns : goal.returns
returns c =
    let a = c.args in
    sym (c.loop-i.invariant.2 ∙ begins_all a.t.now a.w.now c.loop-i.i (omega arith))
