-- The number of each question, and what a call answers by the number of the first one that gets a no, 0 where none does.
use Rattle.std.specs.Prelude.{ℕ, zero, suc, List, ◌≡◌}
use Rattle.std.specs.declared.result.Result.{Result}
use Rattle.std.specs.Prelude.{Ok, Err}
use Rattle.lists.specs.Put.{put}
use Rattle.lists.specs.declared.question.Question.{Question}
use Rattle.lists.specs.declared.question.Question.TheVariants.{Header, Fields, Limits, Length, Marks, Starts, EdgeKinds, Bodies, Atlas, Spans, Range, TextRoom, TokenRoom, LineRoom, Branches, Rows, Literal, Routine, Names}

-- 01's numbers, and 15 to 19 of 02
abbrev pub number : Question → ℕ
number Header = 1
number Fields = 2
number Limits = 3
number Length = 4
number Marks = 5
number Starts = 6
number EdgeKinds = 7
number Bodies = 8
number Atlas = 9
number Spans = 10
number Range = 11
number TextRoom = 12
number TokenRoom = 13
number LineRoom = 14
number Branches = 15
number Rows = 16
number Literal = 17
number Routine = 18
number Names = 19

-- the number of an answer: 0 of a value
abbrev pub number_of : {A : Type 0} → Result A Question → ℕ
number_of (Ok x) = 0
number_of (Err q) = number q

-- the answer by the number: x with 0, else the question that has it
abbrev pub Answers : {A : Type 0} → ℕ → A → Result A Question → Type 0
Answers n x (Ok y) = (n ≡ 0) × (y ≡ x)
Answers n x (Err q) = n ≡ number q

-- a lent list, from the start of which t is stored: with a number as it was
abbrev pub left_in : ℕ → List ℕ → List ℕ → List ℕ
left_in zero t e = put 0 t e
left_in (suc k) t e = e
