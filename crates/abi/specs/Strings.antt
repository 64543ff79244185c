-- What the way back from a literal promises to callers in other languages: a number, the string's bytes, and the other answers as numbers.
use Rattle.std.specs.Prelude.{ℕ, Bool, List, [], ◌∷◌, ◌≡◌}
use Rattle.std.specs.declared.result.Result.{Result}
use Rattle.lists.specs.Choice.{pick}
use Rattle.lists.specs.Put.{put}
use Rattle.lists.specs.Question.{number_of}
use Rattle.lists.specs.declared.question.Question.{Question}
use Rattle.strings.specs.Called.{values_of, Returns}
use Rattle.strings.specs.declared.reading.Values.{Values}

-- yes is 1, no is 0
abbrev pub flag_of : Bool → ℕ
flag_of b = pick b 1 0

-- how many bytes, whether wide, whether cut; zeros with a number
abbrev pub value_list : Result Values Question → List ℕ
value_list r = (values_of r).count ∷ flag_of (values_of r).wide ∷ flag_of (values_of r).cut ∷ []

-- some answer is promised of the token and the list, and the number and the values are that answer's
pub record LiteralRead (kind : ℕ) (t out out' z z' : List ℕ) (r : ℕ) : Type 0 where
  pub answer : Result Values Question
  pub string : Returns kind t out out' answer
  pub number : r ≡ number_of answer
  pub values : z' ≡ put 0 (value_list answer) z
