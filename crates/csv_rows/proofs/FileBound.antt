-- How long a file can be: twice the text, five bytes a token and twenty-eight a row.
-- Every byte of a text may be a quote, and a row's numbers have at most sixteen, three and five digits.
use mathlib.Core.Bool.{Bool, true, false}
use mathlib.Core.List.{List, [], ◌∷◌}
use mathlib.Core.Logic.{⊎_elim}
use Prim.Native.Nat.{ℕ, zero, suc, ◌+◌, ◌*◌, ◌≤◌, ◌<◌}
use native.Mathlib.Omega.{arith}
use lib.Dec.{eqb}
use lib.ListN.{length, take, get_or, length-take}
use Rattle.lists.specs.Choice.{pick}
use Rattle.text.proofs.DecimalDigits.{digits_few_3, digits_few}
use Rattle.tokens.proofs.ListingLaws.{cases}
use Rattle.rows.specs.Lists.{Lists}
use Rattle.rows.specs.Rows.{is_addressed, indent_of, rows_in}
use Rattle.rows.proofs.Held.{Held, row_held_lem}
use Rattle.csv_rows.specs.Format.{doubled, rows_text}
use Rattle.csv_rows.specs.Writing.{frame_size, frames_size, file_size}
use Rattle.csv_rows.proofs.FileSize.{file_size_lem}

doubled_bound : (t : List ℕ) → length (doubled t) ≤ 2 * length t
unfolding doubled
doubled_bound [] = omega arith
doubled_bound (b ∷ t) = ⊎_elim (λ e. rw e (omega (arith, doubled_bound t))) (λ e. rw e (omega (arith, doubled_bound t))) (cases (eqb b 34))

sixteen : (b : Bool) → pick b 16 0 ≤ 16
sixteen true = omega arith
sixteen false = omega arith

frame_bound : (mark place : ℕ) → indent_of mark ≤ 254 → place < 65536 → frame_size mark place ≤ 28
unfolding frame_size
frame_bound mark place d h = omega (arith, sixteen (is_addressed mark), digits_few_3 (indent_of mark) (omega arith) (omega arith), digits_few place h)

frames_bound : (marks places : List ℕ) (m : ℕ) → ((i : ℕ) → i < m → indent_of (get_or marks i 0) ≤ 254) → ((i : ℕ) → get_or places i 0 < 65536) → frames_size marks places m ≤ 28 * m
frames_bound marks places zero d h = omega arith
frames_bound marks places (suc m) d h =
    omega (arith, frames_bound marks places m (λ i b. d i (omega arith)) h, frame_bound (get_or marks m 0) (get_or places m 0) (d m (omega arith)) (h m))

pub file_bound : (l : Lists) (x n m : ℕ) → Held l x n m → ((i : ℕ) → get_or l.places i 0 < 65536) → length (rows_text (rows_in l m)) ≤ 2 * x + 5 * n + 28 * m
unfolding file_size
file_bound l x n m h p =
    omega (
      arith,
      file_size_lem l x n m h,
      doubled_bound (take x l.text),
      length-take x l.text,
      frames_bound l.marks l.places m (λ i b. (row_held_lem l x n m h i b).indent) p,
    )
