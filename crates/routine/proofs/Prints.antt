-- What the program prints is what it promises.
-- The number that the text says is the only one; a text that says none is refused.
use mathlib.Core.Path.{◌≡◌, refl, subst, ◌∙◌}
use mathlib.Core.List.{List}
use Prim.Native.Nat.{ℕ, ◌≤◌, ◌<◌}
use native.Mathlib.Omega.{arith}
use borrow.Author.Tests.{lt-ltb, le-leb}
use lib.ListN.{length}
use Rattle.std.specs.declared.result.Result.{Result}
use Rattle.std.specs.Prelude.{Ok, Err}
use Rattle.lists.specs.Put.{put}
use Rattle.lists.specs.Question.{Answers}
use Rattle.lists.specs.declared.question.Question.{Question}
use Rattle.lists.proofs.Answered.{number_some}
use Rattle.page.specs.Page.{refusal, stored_output}
use Rattle.page.proofs.Pieces.{stands_whole}
use Rattle.routines.specs.Numbered.{routine_at}
use Rattle.routines.specs.Written.{record_of}
use Rattle.routines.specs.Called.{made, routine_no, Makes}
use Rattle.routine.specs.Output.{Says, Prints}
use Rattle.routine.proofs.Said.{said_once}

-- the routine that the text says
module _ (s e e₁ out : List ℕ) (k : ℕ) (r : Result ℕ Question) (room : 405 ≤ length e) (told : Makes k e e₁ r) (is : out ≡ stored_output r e₁) (said : Says s k) (below : k < 276) where
  yes : routine_no k (length e) ≡ 0
  unfolding routine_no
  yes = rw (lt-ltb k 276 below, le-leb (length (made k)) (length e) (omega (arith, told.short)))

  whole : (r : Result ℕ Question) → Answers 0 (length (made k)) r → stored_output r (put 0 (made k) e) ≡ made k
  whole (Ok n) v = stands_whole (made k) e _ n v.1 refl (omega (arith, v.1, told.short))
  whole (Err q) v = absurd (omega (arith, v, number_some q))

  printed : out ≡ made k
  printed = is ∙ rw (told.list, yes) (whole r (rw yes at told.answer))

  pub prints : Prints s out
  prints = record {
    made = λ j h other. subst (λ (j : ℕ). out ≡ record_of (routine_at j)) (said_once s k j below h said other) printed;
    refused = λ none. absurd (none k below said);
  }

-- none
pub prints_no : (s out : List ℕ) → ((k : ℕ) → k < 276 → Says s k → ⊥) → out ≡ refusal 18 → Prints s out
prints_no s out none is = record { made = λ k h said. absurd (none k h said); refused = λ h. is }
