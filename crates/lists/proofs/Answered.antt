-- What an answer says of the number that it was made by.
-- By the answer's case; every question's number is at least 1.
use Rattle.std.specs.Prelude.{ℕ, ◌≤◌, ◌≡◌, Ok, Err}
use Rattle.std.specs.declared.result.Result.{Result}
use Rattle.std.proofs.Common.{sym, arith, subst}
use Rattle.lists.specs.Question.{number, number_of, Answers}
use Rattle.lists.specs.declared.question.Question.{Question}
use Rattle.lists.specs.declared.question.Question.TheVariants.{Header, Fields, Limits, Length, Marks, Starts, EdgeKinds, Bodies, Atlas, Spans, Range, TextRoom, TokenRoom, LineRoom, Branches, Rows, Literal, Routine, Names}

pub number_some : (q : Question) → 1 ≤ number q
number_some =
    elim [
      | Header ↦ omega arith
      | Fields ↦ omega arith
      | Limits ↦ omega arith
      | Length ↦ omega arith
      | Marks ↦ omega arith
      | Starts ↦ omega arith
      | EdgeKinds ↦ omega arith
      | Bodies ↦ omega arith
      | Atlas ↦ omega arith
      | Spans ↦ omega arith
      | Range ↦ omega arith
      | TextRoom ↦ omega arith
      | TokenRoom ↦ omega arith
      | LineRoom ↦ omega arith
      | Branches ↦ omega arith
      | Rows ↦ omega arith
      | Literal ↦ omega arith
      | Routine ↦ omega arith
      | Names ↦ omega arith
    ]

module _ {A : Type 0} (n : ℕ) (x : A) where
  -- a value: the number is 0, and the value x
  pub value_is : (r : Result A Question) (y : A) → Answers n x r → r ≡ Ok y → (n ≡ 0) × (y ≡ x)
  value_is r y v e = subst (Answers n x) e v

  -- a question: it has the number
  pub question_is : (r : Result A Question) (q : Question) → Answers n x r → r ≡ Err q → n ≡ number q
  question_is r q v e = subst (Answers n x) e v

  -- so the number is not 0
  pub question_some : (r : Result A Question) (q : Question) → Answers n x r → r ≡ Err q → 1 ≤ n
  question_some r q v e = let h = question_is r q v e in let k = number_some q in omega arith

  pub number_is : (r : Result A Question) → Answers n x r → number_of r ≡ n
  number_is (Ok y) v = sym v.0
  number_is (Err q) v = sym v
