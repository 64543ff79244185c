-- What the call promises: what it asks, what it answers and what it leaves in the lent list.
use Rattle.std.specs.Prelude.{ℕ, ◌≤◌, List, ◌≡◌, ltb, leb, length, take}
use Rattle.lists.specs.Choice.{ask}
use Rattle.std.specs.declared.result.Result.{Result}
use Rattle.lists.specs.Question.{Answers, left_in}
use Rattle.lists.specs.declared.question.Question.{Question}
use Rattle.record.specs.Header.{header_of}
use Rattle.record.specs.Asked.{first_no}
use Rattle.routines.specs.Routine.{FullSet}
use Rattle.routines.specs.Numbered.{routine_at}
use Rattle.routines.specs.Written.{record_of}

module _ (k : ℕ) where
  -- routine k as a record
  abbrev pub made : List ℕ
  made = record_of (routine_at k)

  -- "18 if a number of 276 or more is asked for, asked first; 12 if the list is shorter than the record"
  unfoldable pub routine_no : ℕ → ℕ
  routine_no room = ask 18 (ltb k 276) (ask 12 (leb (length made) room) 0)

  pub record Makes (out out' : List ℕ) (r : Result ℕ Question) : Type 0 where
    pub answer : Answers (routine_no (length out)) (length made) r
    pub list : out' ≡ left_in (routine_no (length out)) made out
    -- "Each comes exactly once, none is missing"
    pub all : FullSet routine_at
    -- "and all are accepted": the record that is left, for its whole range
    pub accepted : routine_no (length out) ≡ 0 → first_no (take (length made) out') 0 (header_of (take (length made) out')).blocks ≡ 0
    -- the longest record
    pub short : length made ≤ 405
