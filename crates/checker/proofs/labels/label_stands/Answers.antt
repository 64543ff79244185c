-- Whether a label of place k is among the lines: `label_stands` meets its contract.
-- The invariant: what is left of the lines tells it.
use mathlib.Core.Path.{sym, ◌∙◌}
use native.Mathlib.Omega.{arith}
use Rattle.checker.proofs.Labelled.{stands_none, stands_here, stands_later}
use borrow.Author.Rules.{rules}
use Rattle.checker.proofs.labels.label_stands.Goals as goal

pub returns-then-what_of-place_of_line : goal.returns-then-what_of-place_of_line
returns-then-what_of-place_of_line c =
    let a = c.args in
    sym (c.loop-code.invariant.1 ∙ stands_here a.k.0 a.codes.now c.loop-code.code-index _ _ (omega arith) c.what_of.ensures c.place_of_line.ensures c.if-what_of-place_of_line.true)

pub loop-code-preserved : goal.loop-code-preserved
loop-code-preserved c =
    let a = c.args in
    (search rules, c.loop-code.invariant.1 ∙ stands_later a.k.0 a.codes.now c.loop-code.code-index _ _ (omega arith) c.what_of.ensures c.place_of_line.ensures c.if-what_of-place_of_line.false)

pub returns : goal.returns
returns c =
    let a = c.args in
    sym (c.loop-code.invariant.1 ∙ stands_none a.k.0 a.codes.now c.loop-code.code-index (omega arith))
