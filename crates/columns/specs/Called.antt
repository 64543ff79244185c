-- What both calls promise: what they ask, what they answer and what they leave in the lent list.
use Rattle.std.specs.Prelude.{ℕ, ◌+◌, ◌*◌, ◌<◌, List, ◌≡◌, leb, length, take, drop}
use Rattle.lists.specs.Bytes.{u8_at}
use Rattle.lists.specs.Choice.{ask}
use Rattle.std.specs.declared.result.Result.{Result}
use Rattle.lists.specs.Question.{Answers, left_in}
use Rattle.lists.specs.declared.question.Question.{Question}
use Rattle.record.specs.declared.header.Header.{Header}
use Rattle.record.specs.Header.{header_of}
use Rattle.record.specs.Layout.{bodies_at, entries_at}
use Rattle.record.specs.Asked.{or_else, sizes_no}
use Rattle.columns.specs.Columns.{rearranged}

-- "Only questions 1 to 4 are asked of a record here, in both directions. Checks: after 4, number 12 if the output list is shorter than the
-- record."
unfoldable pub store_no : List ℕ → ℕ → ℕ
store_no s room = or_else (sizes_no s) (ask 12 (leb (length s) room) 0)

-- Of a record s and the bytes t that are stored for it.
pub record IsRearranged (rows columns : Header → ℕ) (s t : List ℕ) : Type 0 where
  pub long : length t ≡ length s
  -- "All else remains in place."
  pub before : take (bodies_at (header_of s)) t ≡ take (bodies_at (header_of s)) s
  pub behind : drop (entries_at (header_of s)) t ≡ drop (entries_at (header_of s)) s
  -- byte j of row i is byte i of column j
  pub moved : (i j : ℕ) → i < rows (header_of s) → j < columns (header_of s)
      → u8_at t (bodies_at (header_of s) + (j * rows (header_of s) + i)) ≡ u8_at s (bodies_at (header_of s) + (i * columns (header_of s) + j))
  -- the other direction gets a yes to questions 1 to 4 again
  pub asked : sizes_no t ≡ 0
  -- "The way back restores every byte."
  pub restored : rearranged columns rows t ≡ s

pub record Stores (rows columns : Header → ℕ) (s out out' : List ℕ) (r : Result ℕ Question) : Type 0 where
  pub answer : Answers (store_no s (length out)) (length s) r
  pub list : out' ≡ left_in (store_no s (length out)) (rearranged rows columns s) out
  pub stored : store_no s (length out) ≡ 0 → IsRearranged rows columns s (take (length s) out')
