-- What the program prints of its input: the command table of the rows, or `no` and a number.
use Rattle.std.specs.Prelude.{ℕ, ◌≤◌, Bool, true, false, ◌&&◌, not, List, ◌∷◌, ◌++◌, ◌≡◌, eqb, length}
use Rattle.lists.specs.Every.{every}
use Rattle.rows.specs.Rows.{Row, row_lists}
use Rattle.csv_rows.specs.Format.{rows_text, some}
use Rattle.csv_rows.specs.Called.{writable}
use Rattle.page.specs.Page.{refusal}
use Rattle.commands.specs.Table.{Table, entries_from, table_of}
use Rattle.commands.specs.Printed.{table_text}

-- 10 is LF
abbrev pub is_line : List ℕ → Bool
is_line t = every (λ (b : ℕ). not (eqb b 10)) t

-- "A program reads call name, LF, register name, LF and rows from standard input"
pub record IsInput (s call register file : List ℕ) : Type 0 where
  pub text : s ≡ call ++ (10 ∷ (register ++ (10 ∷ file)))
  pub call_line : is_line call ≡ true
  pub register_line : is_line register ≡ true
  -- not "over 65,536 bytes"
  pub short : length s ≤ 65536

abbrev pub named : (call register : List ℕ) → Bool
named call register = some call && some register

-- the table of all rows
abbrev pub table_in : List Row → (call register : List ℕ) → Table
table_in rs call register = table_of (entries_from (row_lists rs) call register 0 (length rs))

pub record Prints (s out : List ℕ) : Type 0 where
  -- "over 65,536 bytes or without both LF `no 16` before all else"
  pub others : ((call register file : List ℕ) → IsInput s call register file → ⊥) → out ≡ refusal 16
  -- "then 19": "19 if either name is empty"
  pub unnamed : (call register file : List ℕ) → IsInput s call register file → named call register ≡ false → out ≡ refusal 19
  -- "then 16 for the rows"
  pub refused : (call register file : List ℕ) → IsInput s call register file → named call register ≡ true
      → ((rs : List Row) → writable rs ≡ true → rows_text rs ≡ file → ⊥) → out ≡ refusal 16
  -- else the table's text: "Its own lists always suffice."
  pub table : (call register : List ℕ) (rs : List Row) → IsInput s call register (rows_text rs) → named call register ≡ true → writable rs ≡ true
      → out ≡ table_text (table_in rs call register) (length (table_in rs call register).rows)
