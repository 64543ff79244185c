-- `number_in` meets its contract.
-- What `find` over a range says of the first number that the text says.
use borrow.Author.Rules.{rules}
use borrow.Author.Tests.{tests}
use native.Mathlib.Omega.{arith}
use Prim.Native.Nat.{ℕ, ◌≤◌, ◌<◌}
use Rattle.std.specs.Prelude.{Some, None, MatchOption}
use Rattle.std.specs.declared.option.Option.{Option}
use Rattle.std.proofs.lemmas.Iterator.{first_from_Range}
use Rattle.routine.specs.Output.{Says}
use Rattle.routine.proofs.number_in.Goals as goal

found : (P : ℕ → Type 0) (n : ℕ) (r : Option ℕ)
    → MatchOption r ((k : ℕ) → 0 ≤ k → k < n → P k → ⊥) (λ i. (0 ≤ i) × (i < n) × P i × ((k : ℕ) → 0 ≤ k → k < i → P k → ⊥))
    → MatchOption r ((k : ℕ) → k < n → P k → ⊥) (λ k. (k < n) × P k × ((j : ℕ) → j < k → P j → ⊥))
found P n None h = λ k l p. h k (omega arith) l p
found P n (Some i) h = (h.1, h.2, λ j l p. h.3 j (omega arith) l p)

pub returns : goal.returns
returns c =
    let says = λ (k : ℕ). Says c.args.s.now k in
    found says 276 _ (first_from_Range _ _ _ _ says (λ k. says k → ⊥) c.find.ensures.ran (λ x q k. search (rules, tests)) (λ x q k. search (rules, tests)))
