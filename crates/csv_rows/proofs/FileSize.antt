-- The size of a file: its rows have what `fileSize` adds up.
-- A row without its tokens, a token without its text, and all texts together, whose quotes may be doubled at once.
use mathlib.Core.Path.{◌≡◌, refl, sym, ap, ◌∙◌}
use mathlib.Core.List.{List, [], ◌∷◌, ◌++◌, append_assoc}
use Prim.Native.Nat.{ℕ, zero, suc, ◌+◌, ◌*◌}
use native.Mathlib.Nat.{add-zero, zero-add}
use native.Mathlib.Omega.{arith}
use lib.ListN.{length, take, drop, get_or, length-append}
use Rattle.lists.specs.Entries.{tab}
use Rattle.text.specs.Decimal.{decimal_text}
use Rattle.tokens.specs.Token.{Token}
use Rattle.tokens.specs.Listing.{text_of}
use Rattle.tokens.specs.Lines.{token_at}
use Rattle.lists.proofs.Tabs.{tab_length}
use Rattle.tokens.proofs.ListingLaws.{text_append}
use Rattle.rows.specs.Lists.{Lists}
use Rattle.rows.specs.Rows.{Row, is_addressed, row_at, rows_in, all_tokens}
use Rattle.rows.proofs.Held.{Held, tokens_held, text_held}
use Rattle.csv_rows.specs.Format.{doubled, token_text, tokens_text, address_text, row_text, rows_text}
use Rattle.csv_rows.specs.Writing.{char_text, frame_size, frames_size, file_size}
use Rattle.csv_rows.proofs.Wrote.{doubled_cons, token_length}
use Rattle.csv_rows.proofs.Heads.{address_size}

-- as it is added up
pub file_sum : (text marks places : List ℕ) (x n m : ℕ) {d f : ℕ} {s : List ℕ} → s ≡ take x (drop 0 text) → d ≡ length (doubled s) → f ≡ frames_size marks places m
    → d + 5 * n + f ≡ file_size text marks places x n m
unfolding file_size
file_sum text marks places x n m a b c = rw (b, a, c)

-- ---- texts and tokens
doubled_append : (s t : List ℕ) → doubled (s ++ t) ≡ doubled s ++ doubled t
unfolding doubled
doubled_append [] t = refl
doubled_append (b ∷ s) t =
    doubled_cons b (s ++ t) ∙ ap (λ (u : List ℕ). char_text b ++ u) (doubled_append s t)
    ∙ sym (ap (λ (u : List ℕ). u ++ doubled t) (doubled_cons b s) ∙ append_assoc (char_text b) (doubled s) (doubled t))

tokens_size : (ts : List Token) → length (tokens_text ts) ≡ 5 * length ts + length (doubled (text_of ts))
unfolding tokens_text text_of doubled
tokens_size [] = refl
tokens_size (t ∷ ts) =
    omega (
      arith,
      length-append (token_text t) (tokens_text ts),
      token_length t.kind t.bytes,
      tokens_size ts,
      ap length (doubled_append t.bytes (text_of ts)),
      length-append (doubled t.bytes) (doubled (text_of ts)),
    )

-- ---- rows
-- a row besides its tokens, and all rows
unfoldable pub frame : Row → ℕ
frame r = length (address_text r.addressed r.address) + length (decimal_text r.indent) + length (decimal_text r.place) + 4

unfoldable pub frames : List Row → ℕ
frames [] = 0
frames (r ∷ rs) = frame r + frames rs

row_size : (r : Row) → length (row_text r) ≡ frame r + length (tokens_text r.tokens)
unfolding row_text frame
row_size r = rw (length-append, length-append, length-append, length-append) (omega arith)

pub rows_size : (rs : List Row) → length (rows_text rs) ≡ frames rs + (5 * length (all_tokens rs) + length (doubled (text_of (all_tokens rs))))
unfolding rows_text frames all_tokens text_of doubled
rows_size [] = refl
rows_size (r ∷ rs) =
    let a = r.tokens in
    let b = all_tokens rs in
    omega (
      arith,
      length-append (row_text r) (rows_text rs),
      row_size r,
      rows_size rs,
      tokens_size a,
      length-append a b,
      ap length (ap doubled (text_append a b) ∙ doubled_append (text_of a) (text_of b)),
      length-append (doubled (text_of a)) (doubled (text_of b)),
    )

-- ---- the rows of lists
module _ (l : Lists) where
  frame_at : (i : ℕ) → frame_size (get_or l.marks i 0) (get_or l.places i 0) ≡ frame (row_at l i)
  unfolding frame_size frame row_at
  frame_at i = rw (address_size (is_addressed (get_or l.marks i 0)) (get_or l.addresses i 0))

  frames_tab : (k i : ℕ) → frames_size l.marks l.places (i + k) ≡ frames_size l.marks l.places i + frames (tab (row_at l) i k)
  unfolding frames
  frames_tab zero i = rw (add-zero i) (sym (add-zero (frames_size l.marks l.places i)))
  frames_tab (suc k) i =
      let e : i + suc k ≡ suc i + k = omega arith in
      ap (frames_size l.marks l.places) e ∙ frames_tab k (suc i) ∙ omega (arith, frame_at i)

  -- the file of lists that hold rows is as long as was added up
  pub file_size_lem : (x n m : ℕ) → Held l x n m → length (rows_text (rows_in l m)) ≡ file_size l.text l.marks l.places x n m
  unfolding file_size rows_in
  file_size_lem x n m h =
      let f : frames_size l.marks l.places m ≡ frames (rows_in l m) = ap (frames_size l.marks l.places) (sym (zero-add m)) ∙ frames_tab m 0 ∙ zero-add (frames (tab (row_at l) 0 m)) in
      omega (arith, rows_size (rows_in l m), f, ap length (tokens_held l x n m h), tab_length (token_at l.text l.ends l.kinds) 0 n, ap length (ap doubled (text_held l x n m h)))
