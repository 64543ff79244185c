-- The call for the command table: what it answers and leaves, and what each row of the table that it leaves tells.
use Rattle.std.specs.Prelude.{Bool, true, false, ◌&&◌, List, ◌≡◌, ℕ, zero, suc, ◌*◌, ◌/◌, ◌%◌, ◌≤◌, ◌<◌, eqb, leb, length, get_or}
use Rattle.lists.specs.Choice.{ask}
use Rattle.tokens.specs.Lines.{between}
use Rattle.rows.specs.Lists.{Lists, left}
use Rattle.rows.specs.Rows.{row_at, holds_rows}
use Rattle.rows.specs.declared.answer.Sizes.{Sizes}
use Rattle.csv_rows.specs.Format.{some}
use Rattle.strings.specs.Called.{IsLiteral}
use Rattle.commands.specs.Calls.{token_of, is_assign, is_call, calls_to, begins_with}
use Rattle.commands.specs.Table.{Table, entries_from, table_of}
use Rattle.commands.specs.declared.table.Size.{Size}
use Rattle.std.specs.Prelude.{Ok, Err}
use Rattle.std.specs.declared.result.Result.{Result}
use Rattle.lists.specs.Question.{number_of, Answers}
use Rattle.lists.specs.declared.question.Question.{Question}

-- ---- the answer: how many bytes and rows the table has, or the number
abbrev pub size_of : Table → Size
size_of t = record { bytes = length t.bytes; rows = length t.rows }

-- "other answers beside a number 0 or no"
abbrev pub counts_of : Result Size Question → Size
counts_of (Ok z) = z
counts_of (Err q) = record { bytes = 0; rows = 0 }

-- ---- a table's rows, as its lists hold them
-- where the bytes of the first j rows end
abbrev pub byte_end : List ℕ → ℕ → ℕ
byte_end rows zero = 0
byte_end rows (suc j) = get_or rows j 0 / 2

abbrev pub has_none : List ℕ → ℕ → Bool
has_none rows j = eqb (get_or rows j 0 % 2) 1

abbrev pub row_bytes : List ℕ → List ℕ → ℕ → List ℕ
row_bytes bytes rows j = between (byte_end rows j) (byte_end rows (suc j)) bytes

-- ---- where a row's bytes come from
module _ (l : Lists) (register : List ℕ) where
  -- the bytes s for the call on line k are those of one literal, the third token of one earlier line of the same block: "the last earlier line
  -- of the same block, after the block's previous call line, whose first token is that register"
  pub record Source (k : ℕ) (s : List ℕ) : Type 0 where
    pub line : ℕ
    pub earlier : line < k
    pub block : (row_at l line).place ≡ (row_at l k).place
    pub first : begins_with register (row_at l line) ≡ true
    pub second : is_assign (token_of (row_at l line) 1) ≡ true
    pub wide : Bool
    pub third : IsLiteral (token_of (row_at l line) 2).kind (token_of (row_at l line) 2).bytes wide s
    -- it is not cut
    pub whole : length s ≤ 80
    -- no call line of the block stands between, nor is it one itself
    pub after : (i : ℕ) → line ≤ i → i < k → (row_at l i).place ≡ (row_at l k).place → is_call (row_at l i) ≡ false
    -- and it is the last such line
    pub last : (i : ℕ) → line < i → i < k → (row_at l i).place ≡ (row_at l k).place → begins_with register (row_at l i) ≡ false

-- ---- the promise
module _ (l : Lists) (z : Sizes) (call register : List ℕ) where
  -- row j of a table: the call line that it is for, and its bytes. A row without bytes is for a call that has no source for any.
  pub record Told (t : Table) (j : ℕ) : Type 0 where
    pub line : ℕ
    pub within : line < z.lines
    pub calls : calls_to call (row_at l line) ≡ true
    pub address : get_or t.addresses j 0 ≡ (row_at l line).address
    pub bytes : has_none t.rows j ≡ false → Source l register line (row_bytes t.bytes t.rows j)
    pub dash : has_none t.rows j ≡ true → (s : List ℕ) → Source l register line s → ⊥

  abbrev pub table : Table
  table = table_of (entries_from l call register 0 z.lines)

  -- "19 if either name is empty, asked first; 16 if the lent lists hold no lines that rows can carry, asked next; 12 to 14 if the table's
  -- lists for bytes, rows and addresses are short."
  unfoldable pub table_no : Table → ℕ
  table_no b =
      ask 19 (some call && some register)
      (ask 16 (holds_rows l z.text z.tokens z.lines)
      (ask 12 (leb (length table.bytes) (length b.bytes))
      (ask 13 (leb (length table.rows) (length b.rows))
      (ask 14 (leb (length table.addresses) (length b.addresses))
      0))))

  -- the table's lists before (b) and after (a) the call
  pub record Makes (b a : Table) (r : Result Size Question) : Type 0 where
    pub answer : Answers (table_no b) (size_of table) r
    pub bytes : a.bytes ≡ left (table_no b) table.bytes b.bytes
    pub rows : a.rows ≡ left (table_no b) table.rows b.rows
    pub addresses : a.addresses ≡ left (table_no b) table.addresses b.addresses
    pub told : number_of r ≡ 0 → (j : ℕ) → j < (counts_of r).rows → Told a j
    -- which lengths of the lists always suffice
    pub few : (length table.rows ≤ z.lines) × (length table.addresses ≤ z.lines) × (length table.bytes ≤ 80 * z.lines)
