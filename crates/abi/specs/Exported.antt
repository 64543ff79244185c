-- What the call promises to callers in other languages: its number, the seven lists, and the sizes and looks in a list of their own.
use Rattle.std.specs.Prelude.{ℕ, List, [], ◌∷◌, ◌++◌, ◌≡◌, replicate, Ok, Err}
use Rattle.std.specs.declared.result.Result.{Result}
use Rattle.lists.specs.Put.{put}
use Rattle.lists.specs.Question.{number_of}
use Rattle.lists.specs.declared.question.Question.{Question}
use Rattle.rows.specs.Lists.{Lists, rooms_of}
use Rattle.rows.specs.declared.answer.Sizes.{Sizes}
use Rattle.record.specs.Header.{header_of}
use Rattle.record.specs.Asked.{first_no}
use Rattle.flow.specs.Planned.{record_looks}
use Rattle.lists.specs.Question.{Answers}
use Rattle.pseudo.specs.Called.{sizes, call_no, looks_of, LooksCounted}
use Rattle.pseudo.specs.Promise.{Promise}

-- n values; zeros with a number
abbrev pub values_in : ℕ → Result (List ℕ) Question → List ℕ
values_in n (Ok v) = v
values_in n (Err q) = replicate n 0

-- "A number comes with all sizes zero"
abbrev pub size_list : Result Sizes Question → List ℕ
size_list (Ok z) = z.text ∷ z.tokens ∷ z.lines ∷ []
size_list (Err q) = 0 ∷ 0 ∷ 0 ∷ []

-- #111: behind the sizes an answer has its looks
abbrev pub answer_list : Result Sizes Question → ℕ → List ℕ
answer_list r looks = size_list r ++ (looks ∷ [])

module _ (s : List ℕ) (from to : ℕ) where
  -- the looks that an answer carries
  abbrev pub looked : Result Sizes Question → ℕ
  looked r = looks_of (record_looks (header_of s) s from to) r

  -- an answer is promised whose number, sizes and looks these are
  pub record Exported (b a : Lists) (z z' : List ℕ) (r : ℕ) : Type 0 where
    pub answer : Result Sizes Question
    pub lists : Promise s from to b a answer (looked answer)
    pub number : r ≡ call_no s from to (rooms_of b)
    pub same : r ≡ number_of answer
    pub sizes : z' ≡ put 0 (answer_list answer (looked answer)) z

  -- the sizes alone: what the questions before 12 answer
  pub record Sized (z z' : List ℕ) (r : ℕ) : Type 0 where
    pub answer : Result Sizes Question
    pub asked : Answers (first_no s from to) (sizes s from to) answer
    pub number : r ≡ first_no s from to
    pub looks : LooksCounted s from to answer (looked answer)
    pub sizes : z' ≡ put 0 (answer_list answer (looked answer)) z
