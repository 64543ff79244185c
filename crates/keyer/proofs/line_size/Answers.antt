-- A line's size: `line_size` meets its contract.
-- What `position` says of the first LF, and that the definition counts the bytes before it.
use mathlib.Core.Path.{◌≡◌, sym, ◌∙◌}
use native.Mathlib.Omega.{arith}
use borrow.Author.Rules.{rules}
use borrow.Author.Tests.{tests}
use Rattle.std.proofs.lemmas.Iterator.{IsFirst-from_position, YieldsList-from_slice}
use Rattle.keyer.proofs.Input.{first_size, size_within}
use Rattle.keyer.proofs.line_size.Goals as goal

pub returns : goal.returns
returns c =
    let s = c.args.s.now in
    let first = IsFirst-from_position _ _ _ (λ x. x ≡ 10) (λ x. x ≡ 10 → ⊥) c.position.ensures.ran (YieldsList-from_slice s cc) (λ x q k. search (rules, tests)) (λ x q k. search (rules, tests)) in
    let size = c.unwrap_or.ensures ∙ sym (first_size s _ first) in
    (size, omega (arith, size, size_within s))
