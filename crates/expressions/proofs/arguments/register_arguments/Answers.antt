-- `arguments::register_arguments` meets its contract.
-- The invariant: the registers coded and those left are all of them.
use mathlib.Core.Path.{refl}
use native.Mathlib.Omega.{arith}
use Rattle.codes.proofs.Coding.{coded_none}
use Rattle.operand.proofs.Tokens.{as_tokens}
use Rattle.expressions.proofs.Commas.{nth_step, none_left, all_left}
use Rattle.expressions.proofs.Turns.{at_start, further, at_end}
use Rattle.expressions.proofs.arguments.register_arguments.Goals as goal

pub loop-k-init : goal.loop-k-init
loop-k-init c = (refl, omega arith, λ s. at_start (coded_none _ s _ c.slice_known-1.given))

pub loop-k-preserved : goal.loop-k-preserved
loop-k-preserved c =
    let a = c.args in (
      omega (arith, c.code_nth.auto.codes, c.loop-k.invariant.0),
      omega (arith, c.loop-k-test.true),
      λ s. further (c.loop-k.invariant.2 s) (nth_step a.convention a.mask _ c.argument_count-n.ensures c.loop-k.k c.loop-k-test.true) (c.code_nth.ensures s),
    )

pub returns : goal.returns
returns c s =
    let a = c.args in
    as_tokens (all_left a.convention a.mask _ c.argument_count-n.ensures) (at_end (c.loop-k.invariant.2 s) (none_left a.convention a.mask _ c.argument_count-n.ensures c.loop-k.k c.loop-k-test.false))
