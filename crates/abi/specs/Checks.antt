-- What the checker promises to callers in other languages: a number, and the assumption that is broken as a number.
use Rattle.std.specs.Prelude.{ℕ, List, [], ◌∷◌, ◌≡◌, ⊤}
use Rattle.lists.specs.Put.{put}
use Rattle.checker.specs.Called.{number_of, broken_of, Checks}
use Rattle.std.specs.declared.result.Result.{Result}
use Rattle.checker.specs.declared.assumption.Unfollowed.{Unfollowed}

-- some answer is promised of the record, and the number and the assumption are that answer's
pub record RecordChecked (s z z' : List ℕ) (r : ℕ) : Type 0 where
  pub answer : Result ⊤ Unfollowed
  pub checks : Checks s answer
  pub number : r ≡ number_of answer
  pub broken : z' ≡ put 0 (broken_of answer ∷ []) z
