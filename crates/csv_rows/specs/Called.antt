-- The two calls for rows: what they answer and what they leave. A file of rows is `rowsText` of rows (csv_rows/specs/Format); which rows seven
-- lists hold, and the lists of rows, are rows/specs/Rows.
use Rattle.std.specs.Prelude.{ℕ, ◌+◌, ◌*◌, ◌≤◌, Bool, true, ◌&&◌, List, ◌≡◌, leb, length, take, Ok, Err}
use Rattle.std.specs.declared.result.Result.{Result}
use Rattle.lists.specs.Choice.{ask}
use Rattle.lists.specs.Question.{number_of, Answers}
use Rattle.lists.specs.declared.question.Question.{Question}
use Rattle.tokens.specs.Listing.{text_of}
use Rattle.rows.specs.Lists.{Lists, cut, values_of, room_no, rooms_of, sizes_of, left, Leaves}
use Rattle.rows.specs.Rows.{Row, rows_in, all_tokens, row_lists, holds_rows}
use Rattle.rows.specs.declared.answer.Sizes.{Sizes}
use Rattle.csv_rows.specs.Format.{rows_text, good_rows}

-- rows whose listing the lists can have: text and tokens are counted in 32 bits ("token ends (u32)")
unfoldable pub writable : List Row → Bool
writable rs = good_rows rs && leb (length (text_of (all_tokens rs))) 4294967295 && leb (length (all_tokens rs)) 4294967295

-- ---- reading
pub record Reads (s : List ℕ) (b a : Lists) (r : Result Sizes Question) : Type 0 where
  -- "Reading accepts exactly the rows that the writer can produce": the file of any such rows leaves their lists, or the number of a short list
  pub rows : (rs : List Row) → writable rs ≡ true → rows_text rs ≡ s → Leaves (room_no (sizes_of (row_lists rs)) (rooms_of b)) (row_lists rs) b a r
  -- and what is not refused with 16 is such a file
  pub others : (number_of r ≡ 16 → ⊥) → (rs : List Row) × ((writable rs ≡ true) × (rows_text rs ≡ s))
  -- "16 if the bytes are not such rows"
  pub refused : number_of r ≡ 16 → (values_of r ≡ record { text = 0; tokens = 0; lines = 0 }) × (a ≡ b)
  -- "Reading then writing gives the same file": of the lists that are left
  pub again : number_of r ≡ 0 → (holds_rows a (values_of r).text (values_of r).tokens (values_of r).lines ≡ true) × (rows_text (rows_in a (values_of r).lines) ≡ s)

-- ---- writing
-- a file's size in bytes, 0 with a number
abbrev pub written_size : Result ℕ Question → ℕ
written_size (Ok n) = n
written_size (Err q) = 0

module _ (l : Lists) (z : Sizes) where
  abbrev pub file : List ℕ
  file = rows_text (rows_in l z.lines)

  -- "16 if .. the lists and sizes lent for writing hold no such lines ..., asked first; 12 to 14 for short lists, with the written file counted
  -- under 12"
  unfoldable pub write_no : ℕ → ℕ
  write_no room = ask 16 (holds_rows l z.text z.tokens z.lines) (ask 12 (leb (length file) room) 0)

  pub record Writes (out out' : List ℕ) (r : Result ℕ Question) : Type 0 where
    pub answer : Answers (write_no (length out)) (length file) r
    pub bytes : out' ≡ left (write_no (length out)) file out
    -- the rows written are such as reading accepts, and their lists are those that were lent
    pub rows : number_of r ≡ 0 → writable (rows_in l z.lines) ≡ true
    pub same : number_of r ≡ 0 → row_lists (rows_in l z.lines) ≡ cut l z
    -- "writing then reading gives the same listing": whoever reads the bytes written is left the lists that were lent, each up to its size
    pub back : number_of r ≡ 0 → (b a : Lists) (g : Result Sizes Question) → Reads (take (written_size r) out') b a g → Leaves (room_no (sizes_of (cut l z)) (rooms_of b)) (cut l z) b a g
    -- which length of the list always suffices: each byte of text may be a quote, a token has five bytes besides, and a row sixteen, three
    -- and five digits, two commas, CR and LF
    pub short : holds_rows l z.text z.tokens z.lines ≡ true → length file ≤ 2 * z.text + 5 * z.tokens + 28 * z.lines
