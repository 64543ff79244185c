-- A command table as text: "address in sixteen upper hex digits, a space and upper hex pairs, unspaced, or a dash, a line each".
use Rattle.std.specs.Prelude.{true, List, [], ◌∷◌, ◌++◌, ℕ, zero, suc, get_or}
use Rattle.lists.specs.Ascii.{ascii}
use Rattle.lists.specs.Choice.{pick}
use Rattle.text.specs.Number.{hex_digits}
use Rattle.commands.specs.Table.{Table}
use Rattle.commands.specs.Called.{has_none, row_bytes}

unfoldable pub pairs : List ℕ → List ℕ
pairs [] = []
pairs (b ∷ s) = hex_digits true 2 b ++ pairs s

-- "upper hex pairs, unspaced, or a dash"; "an empty literal prints no pairs"
unfoldable pub value_text : (bytes rows : List ℕ) → ℕ → List ℕ
value_text bytes rows j = pick (has_none rows j) (ascii "-") (pairs (row_bytes bytes rows j))

-- row j; 32 is a space, 10 is LF
unfoldable pub row_line : Table → ℕ → List ℕ
row_line t j = hex_digits true 16 (get_or t.addresses j 0) ++ (32 ∷ (value_text t.bytes t.rows j ++ (10 ∷ [])))

-- n rows from row j on
unfoldable pub row_lines : Table → ℕ → ℕ → List ℕ
row_lines t j zero = []
row_lines t j (suc n) = row_line t j ++ row_lines t (suc j) n

abbrev pub table_text : Table → ℕ → List ℕ
table_text t n = row_lines t 0 n
