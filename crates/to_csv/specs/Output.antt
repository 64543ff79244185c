-- What the program prints of a record: the file of its listing's rows, or `no` and the number.
use Rattle.std.specs.Prelude.{ℕ, ◌≤◌, true, List, ◌≡◌, length}
use Rattle.rows.specs.Lists.{Lists}
use Rattle.rows.specs.Rows.{Row, rows_in, row_lists}
use Rattle.csv_rows.specs.Format.{rows_text}
use Rattle.csv_rows.specs.Called.{writable}
use Rattle.program.specs.Output.{program_no, whole_lists, Prints}

-- all rows of a listing
abbrev pub rows_of : Lists → List Row
rows_of l = rows_in l (length l.addresses)

-- and their file
abbrev pub file_of : Lists → List ℕ
file_of l = rows_text (rows_of l)

pub record PrintsRows (s out : List ℕ) : Type 0 where
  -- the file, or the number that `listing` prints of the same record: the program's list for the file always suffices
  pub prints : Prints file_of s out
  -- of "writing then reading gives the same listing": the rows of the file are such as reading accepts, their lists are the listing, and
  -- it is no longer than `from_csv` reads
  pub rows : program_no s ≡ 0 → writable (rows_of (whole_lists s)) ≡ true
  pub same : program_no s ≡ 0 → row_lists (rows_of (whole_lists s)) ≡ whole_lists s
  pub short : length out ≤ 262144
