-- `bytes::inside_byte` meets its contract.
-- The invariant: index k behind the spelling of byte i - 1 is index j of the whole.
use mathlib.Core.Path.{ap, sym, ◌∙◌}
use mathlib.Core.List.{List}
use Prim.Native.Nat.{ℕ}
use native.Mathlib.Omega.{arith}
use lib.Dec.{ltb}
use lib.ListN.{length, get_or}
use Rattle.text.specs.Literal.{closing, escape}
use Rattle.text.proofs.LiteralLaws.{within_cut, past_cut, byte_cut}
use Rattle.text.proofs.ByteLaws.{escapes_over, escapes_here, escapes_further}
use Rattle.text.proofs.bytes.inside_byte.Goals as goal

pub returns-then-k-m : goal.returns-then-k-m
returns-then-k-m c =
    let l = c.loop-b in
    let s = c.args.s.now in
    let h = within_cut s _ l.b-index c.min-n.ensures c.loop-b-test.true in
    let e = byte_cut s _ l.b-index c.min-n.ensures c.loop-b-test.true in
    c.escape_byte.ensures ∙ ap (λ (x : ℕ). get_or (escape x) l.k 0) e ∙ sym (escapes_here s (closing (ltb 80 (length s))) l.b-index l.k c.escape_length-m.result h (c.escape_length-m.ensures.0 ∙ ap (λ (x : ℕ). length (escape x)) e) c.if-k-m.true) ∙ l.invariant.1

pub loop-b-preserved : goal.loop-b-preserved
loop-b-preserved c =
    let l = c.loop-b in
    let s = c.args.s.now in
    let h = within_cut s _ l.b-index c.min-n.ensures c.loop-b-test.true in
    let e = byte_cut s _ l.b-index c.min-n.ensures c.loop-b-test.true in
    (omega arith, sym (escapes_further s (closing (ltb 80 (length s))) l.b-index l.k c.escape_length-m.result h (c.escape_length-m.ensures.0 ∙ ap (λ (x : ℕ). length (escape x)) e) c.if-k-m.false) ∙ l.invariant.1)

pub returns : goal.returns
returns c =
    let l = c.loop-b in
    let s = c.args.s.now in
    let z = closing (ltb 80 (length s)) in
    let h = past_cut s _ l.b-index c.min-n.ensures c.loop-b-test.false in
    c.closing_byte.ensures ∙ ap (λ (t : List ℕ). get_or t l.k 0) (sym (escapes_over s z l.b-index h)) ∙ l.invariant.1
