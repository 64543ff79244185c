-- What the two calls for rows promise to callers in other languages: a number, the lists, and the sizes in lists of their own.
use Rattle.std.specs.Prelude.{ℕ, List, ◌≡◌, length, get_or}
use Rattle.std.specs.declared.result.Result.{Result}
use Rattle.lists.specs.Put.{put}
use Rattle.lists.specs.Question.{number_of}
use Rattle.lists.specs.declared.question.Question.{Question}
use Rattle.rows.specs.Lists.{Lists}
use Rattle.rows.specs.declared.answer.Sizes.{Sizes}
use Rattle.csv_rows.specs.Called.{write_no, Writes, Reads}
use Rattle.abi.specs.Exported.{size_list}
use Rattle.abi.specs.Stores.{bytes_list}

-- the sizes in a list of text bytes, tokens and lines; those past its end are 0
abbrev pub sizes_in : List ℕ → Sizes
sizes_in z = record { text = get_or z 0 0; tokens = get_or z 1 0; lines = get_or z 2 0 }

module _ (l : Lists) (z : List ℕ) where
  -- the lists and their sizes as a file in `out`, of which an answer is promised; its size is stored in `n`
  pub record RowsWritten (out out' n n' : List ℕ) (r : ℕ) : Type 0 where
    pub answer : Result ℕ Question
    pub rows : Writes l (sizes_in z) out out' answer
    pub number : r ≡ write_no l (sizes_in z) (length out)
    pub same : r ≡ number_of answer
    pub size : n' ≡ put 0 (bytes_list answer) n

-- a file as lists, whose sizes are stored in `z`: some answer is promised of it, and the number and the sizes are that answer's
pub record RowsRead (s : List ℕ) (b a : Lists) (z z' : List ℕ) (r : ℕ) : Type 0 where
  pub answer : Result Sizes Question
  pub rows : Reads s b a answer
  pub number : r ≡ number_of answer
  pub sizes : z' ≡ put 0 (size_list answer) z
