-- `width::is_stack_pointer` meets its contract.
-- Each stack pointer has index 4 in its class; then the tests stand in the definition's order.
use mathlib.Core.Path.{◌≡◌, refl, ap, ◌∙◌}
use mathlib.Core.Bool.{Bool, true, false}
use Prim.Native.Nat.{ℕ, ◌%◌}
use lib.Dec.{eqb}
use borrow.Author.Tests.{ne_eqb}
use Rattle.lists.specs.Choice.{pick}
use Rattle.x86.specs.Width.{stack_pointer, is_stack_pointer}
use Rattle.x86.proofs.width.is_stack_pointer.Goals as goal

index-four : (bits : ℕ) → stack_pointer bits % 16 ≡ 4
index-four bits = go (eqb bits 64) (eqb bits 16)
  where
    go : (a b : Bool) → pick a 84 (pick b 52 68) % 16 ≡ 4
    go true b = refl
    go false true = refl
    go false false = refl

other : (r s : ℕ) → (r % 16 ≡ 4 → ⊥) → s % 16 ≡ 4 → eqb r s ≡ false
other r s n p = ne_eqb r s (λ e. n (ap (λ (x : ℕ). x % 16) e ∙ p))

pub returns-then-r-ne4 : goal.returns-then-r-ne4
unfolding is_stack_pointer
returns-then-r-ne4 c =
    let a = c.args in
    rw (other a.r 68 c.if-r-ne4.true refl, other a.r 84 c.if-r-ne4.true refl, other a.r (stack_pointer a.bits) c.if-r-ne4.true (index-four a.bits))

pub returns : goal.returns
unfolding is_stack_pointer
returns c = rw c.stack_pointer.ensures
