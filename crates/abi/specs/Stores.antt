-- What a call that stores bytes promises to callers in other languages: a number, the lent list, and how many bytes are stored there.
use Rattle.std.specs.Prelude.{ℕ, List, [], ◌∷◌, ◌≡◌}
use Rattle.lists.specs.Put.{put}
use Rattle.std.specs.Prelude.{Ok, Err}
use Rattle.lists.specs.Question.{number_of}
use Rattle.std.specs.declared.result.Result.{Result}
use Rattle.lists.specs.declared.question.Question.{Question}

-- how many bytes are stored; 0 with a number
abbrev pub bytes_list : {E : Type 0} → Result ℕ E → List ℕ
bytes_list (Ok n) = n ∷ []
bytes_list (Err e) = 0 ∷ []

-- the number of an answer, by the number that an error has: 0 of bytes that are stored
abbrev pub number_by : {E : Type 0} → (E → ℕ) → Result ℕ E → ℕ
number_by value (Ok n) = 0
number_by value (Err e) = value e

-- some answer is promised, and the number and the size are that answer's
pub record BytesStored (Promised : Result ℕ Question → Type 0) (z z' : List ℕ) (r : ℕ) : Type 0 where
  pub answer : Result ℕ Question
  pub promised : Promised answer
  pub number : r ≡ number_of answer
  pub size : z' ≡ put 0 (bytes_list answer) z
