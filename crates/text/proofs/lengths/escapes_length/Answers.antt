-- `lengths::escapes_length` meets its contract.
-- The invariant: what is summed and the spellings that are left are as long as all of them.
use Rattle.text.proofs.LiteralLaws.{escapes_count, escapes_none, within_cut, past_cut, byte_cut}
use Rattle.text.specs.Literal.{escape}
use mathlib.Core.Path.{ap, ◌∙◌}
use Prim.Native.Nat.{ℕ}
use lib.ListN.{length}
use native.Mathlib.Omega.{arith}
use Rattle.text.proofs.lengths.escapes_length.Goals as goal

pub loop-b-preserved : goal.loop-b-preserved
loop-b-preserved c =
    let s = c.args.s.now in
    let h = within_cut s _ c.loop-b.b-index c.min-n.ensures c.loop-b-test.true in
    let e = byte_cut s _ c.loop-b.b-index c.min-n.ensures c.loop-b-test.true in
    (omega arith, omega arith, omega (arith, c.loop-b.invariant.2, escapes_count s 80 c.loop-b.b-index h, c.escape_length-sum.ensures.0 ∙ ap (λ (x : ℕ). length (escape x)) e))

pub returns : goal.returns
returns c =
    let s = c.args.s.now in
    let h = past_cut s _ c.loop-b.b-index c.min-n.ensures c.loop-b-test.false in
    (omega (arith, c.loop-b.invariant.2, escapes_none s 80 c.loop-b.b-index h), omega arith)
