-- How much a file of rows can hold: it has a byte or more for each byte of text, six for each token, twelve for each row.
-- A token has five bytes besides its text and a row six besides its tokens; no token is empty, and no row is without tokens.
use mathlib.Core.Path.{◌≡◌, ap}
use mathlib.Core.Bool.{true}
use mathlib.Core.List.{List, [], ◌∷◌}
use mathlib.Core.Logic.{⊎_elim}
use Prim.Native.Nat.{ℕ, ◌*◌, ◌≤◌}
use native.Mathlib.Omega.{arith}
use lib.Dec.{eqb}
use lib.ListN.{length, length-append}
use Rattle.text.proofs.DecimalLaws.{decimal_some}
use Rattle.tokens.specs.Listing.{text_of}
use Rattle.tokens.proofs.ListingLaws.{cases}
use Rattle.rows.specs.Rows.{Row, all_tokens, row_lists}
use Rattle.rows.proofs.Held.{few_rows, few_tokens}
use Rattle.csv_rows.specs.Format.{doubled, rows_text, good_rows}
use Rattle.csv_rows.specs.Writing.{char_text}
use Rattle.csv_rows.proofs.Wrote.{doubled_cons}
use Rattle.csv_rows.proofs.FileSize.{frame, frames, rows_size}
use Rattle.csv_rows.proofs.Fit.{rows_held}

char_some : (b : ℕ) → 1 ≤ length (char_text b)
char_some b = ⊎_elim (λ e. rw e (omega arith)) (λ e. rw e (omega arith)) (cases (eqb b 34))

doubled_longer : (t : List ℕ) → length t ≤ length (doubled t)
unfolding doubled
doubled_longer [] = omega arith
doubled_longer (b ∷ t) = omega (arith, ap length (doubled_cons b t), length-append (char_text b) (doubled t), char_some b, doubled_longer t)

frame_long : (r : Row) → 6 ≤ frame r
unfolding frame
frame_long r = omega (arith, decimal_some r.indent, decimal_some r.place)

frames_long : (rs : List Row) → 6 * length rs ≤ frames rs
unfolding frames
frames_long [] = omega arith
frames_long (r ∷ rs) = omega (arith, frame_long r, frames_long rs)

-- of a file's bytes
pub record Holding (rs : List Row) : Type 0 where
  pub text : length (text_of (all_tokens rs)) ≤ length (rows_text rs)
  pub tokens : 6 * length (all_tokens rs) ≤ length (rows_text rs)
  pub rows : 12 * length rs ≤ length (rows_text rs)

pub holding : (rs : List Row) → good_rows rs ≡ true → Holding rs
holding rs g =
    let h = rows_held rs g in
    let x = length (text_of (all_tokens rs)) in
    let n = length (all_tokens rs) in
    let m = length rs in
    let size = rows_size rs in
    let rise : (m ≤ n) × (n ≤ x) = (few_rows (row_lists rs) x n m h, few_tokens (row_lists rs) x n m h) in
    let long = doubled_longer (text_of (all_tokens rs)) in
    let own = frames_long rs in
    record { text = omega (arith, size, long); tokens = omega (arith, size, long, rise.1); rows = omega (arith, size, long, own, rise.0, rise.1) }
