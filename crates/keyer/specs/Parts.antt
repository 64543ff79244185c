-- The program's parts. It describes the code, and is not what a reader must believe: what the program promises is keyer/specs/Output.
use Rattle.std.specs.Prelude.{ℕ, suc, true, List, [], ◌∷◌, ◌≡◌, eqb, length}
use Rattle.lists.specs.Choice.{pick}
use Rattle.rows.specs.Lists.{Lists}
use Rattle.rows.specs.Rows.{Row}
use Rattle.rows.specs.declared.answer.Sizes.{Sizes}
use Rattle.csv_rows.specs.Format.{rows_text}
use Rattle.csv_rows.specs.Called.{writable}
use Rattle.page.specs.Page.{refusal}
use Rattle.commands.specs.Called.{table}
use Rattle.commands.specs.Printed.{table_text}
use Rattle.keyer.specs.Output.{table_in}

-- how many bytes of a text stand before its first LF
unfoldable pub line_size : List ℕ → ℕ
line_size [] = 0
line_size (b ∷ s) = pick (eqb b 10) 0 (suc (line_size s))

-- the text of the table of lists of these sizes
abbrev pub commands_text : Lists → Sizes → (call register : List ℕ) → List ℕ
commands_text l z call register = table_text (table l z call register) (length (table l z call register).rows)

-- what is printed of two names and the rows behind them
pub record PrintsTable (call register file out : List ℕ) : Type 0 where
  pub refused : ((rs : List Row) → writable rs ≡ true → rows_text rs ≡ file → ⊥) → out ≡ refusal 16
  pub table : (rs : List Row) → writable rs ≡ true → rows_text rs ≡ file → out ≡ table_text (table_in rs call register) (length (table_in rs call register).rows)
