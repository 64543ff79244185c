-- `bytes::hex_byte` meets its contract.
-- The invariant: each turn takes one digit off w, and its j-th is that of v.
use mathlib.Core.Path.{refl, ◌∙◌}
use Prim.Native.Nat.{◌<◌, ◌+◌}
use native.Mathlib.Omega.{arith}
use lib.ListN.{length}
use Rattle.text.specs.Number.{hex_text}
use Rattle.text.proofs.ByteLaws.{hex_last, hex_fewer, hex_before}
use Rattle.text.proofs.bytes.hex_byte.Goals as goal

pub loop-preserved : goal.loop-preserved
loop-preserved c =
    let l = c.loop in
    let u = c.args.upper in
    let j = c.args.j in
    let h : j + 1 < length (hex_text u l.w) = omega arith in
    (omega (arith, hex_fewer u l.w _ j refl h), hex_before u l.w _ j refl h ∙ l.invariant.1)

pub returns : goal.returns
returns c = c.digit_of.ensures ∙ hex_last c.args.upper c.loop.w _ c.args.j refl (omega arith) ∙ c.loop.invariant.1
