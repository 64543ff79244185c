-- What the program prints of rows: the page of the listing that they carry, or `no` and 16. The page stands in parts, since the longest is
-- longer than any list that the program can have.
use Rattle.std.specs.Prelude.{ℕ, zero, suc, ◌-◌, ◌*◌, ◌≤◌, ◌<◌, true, List, [], ◌++◌, ◌≡◌, eqb, leb, length}
use Rattle.lists.specs.Choice.{pick}
use Rattle.rows.specs.Lists.{Lists}
use Rattle.rows.specs.Rows.{Row, row_lists}
use Rattle.csv_rows.specs.Format.{rows_text}
use Rattle.csv_rows.specs.Called.{writable}
use Rattle.page.specs.Page.{count_line, refusal, lines_text, page_of}

-- rows of at most 262,144 bytes, whatever the writer can produce
pub record IsFile (s : List ℕ) (rs : List Row) : Type 0 where
  pub rows : writable rs ≡ true
  pub text : rows_text rs ≡ s
  pub short : length s ≤ 262144

-- 2,000 lines, or those that are left
abbrev pub part_count : ℕ → ℕ
part_count rest = pick (leb rest 2000) rest 2000

-- part p of the page: its 2,000 lines, with the line count before the first
unfoldable pub page_part : Lists → ℕ → List ℕ
page_part l p =
    let n = length l.addresses in
    pick (eqb p 0) (count_line n) [] ++ lines_text l (2000 * p) (part_count (n - 2000 * p))

-- the first n parts
unfoldable pub page_parts : Lists → ℕ → List ℕ
page_parts l zero = []
page_parts l (suc n) = page_parts l n ++ page_part l n

-- `no 16` is one part
abbrev pub refused_part : ℕ → List ℕ
refused_part p = pick (eqb p 0) (refusal 16) []

-- What the program promises of the bytes that it prints as part p for an input.
pub record Prints (s : List ℕ) (p : ℕ) (out : List ℕ) : Type 0 where
  -- rows give part p of their listing's page: the program's own lists suffice for all of them
  pub page : (rs : List Row) → IsFile s rs → out ≡ page_part (row_lists rs) p
  -- eleven parts are the page
  pub whole : (rs : List Row) → IsFile s rs → page_parts (row_lists rs) 11 ≡ page_of (row_lists rs)
  -- "16 if the bytes are not such rows"
  pub refused : ((rs : List Row) → IsFile s rs → ⊥) → out ≡ refused_part p
  -- longer input is refused, whatever its first bytes are
  pub long : 262144 < length s → out ≡ refused_part p
