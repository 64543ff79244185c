-- How long the lists of a file's rows are, and which lists suffice for them.
-- A file has a byte for each byte of text, six for each token and twelve for each row.
use mathlib.Core.Path.{◌≡◌, refl, sym, ◌∙◌}
use mathlib.Core.Bool.{true}
use mathlib.Core.List.{List}
use Prim.Native.Nat.{ℕ, suc, ◌*◌, ◌≤◌, ◌<◌}
use native.Mathlib.Omega.{arith}
use lib.ListN.{length, length-map}
use Rattle.tokens.specs.Listing.{text_of}
use Rattle.tokens.proofs.ListingLaws.{ends_length}
use Rattle.rows.specs.Lists.{Lists, sizes_of, rooms_of, room_no}
use Rattle.rows.specs.Rows.{Row, all_tokens, row_lists}
use Rattle.rows.proofs.Back.{counts_length}
use Rattle.rows.proofs.Listed.{suffice}
use Rattle.csv_rows.specs.Format.{rows_text, good_rows}
use Rattle.csv_rows.proofs.Holding.{holding}

module _ (rs : List Row) where
  pub addresses_length : length (row_lists rs).addresses ≡ length rs
  unfolding row_lists
  addresses_length = length-map rs (λ (r : Row). r.address)

  pub marks_length : length (row_lists rs).marks ≡ length (row_lists rs).addresses
  unfolding row_lists
  marks_length = length-map rs _ ∙ sym (length-map rs _)

  pub lines_length : length (row_lists rs).lines ≡ length (row_lists rs).addresses
  unfolding row_lists
  lines_length = counts_length 0 rs ∙ sym (length-map rs (λ (r : Row). r.address))

  pub text_length : length (row_lists rs).text ≡ length (text_of (all_tokens rs))
  unfolding row_lists
  text_length = refl

  tokens_length : length (row_lists rs).ends ≡ length (all_tokens rs)
  unfolding row_lists
  tokens_length = ends_length 0 (all_tokens rs)

-- lists for a file of n bytes
abbrev pub Enough : ℕ → Lists → Type 0
Enough n b =
    (n ≤ length b.text) × (n < 6 * suc (length b.ends)) × (n < 6 * suc (length b.kinds))
    × (n < 12 * suc (length b.addresses)) × (n < 12 * suc (length b.marks)) × (n < 12 * suc (length b.places)) × (n < 12 * suc (length b.lines))

-- questions 12 to 14 get a yes
pub enough : (rs : List Row) → good_rows rs ≡ true → (n : ℕ) → length (rows_text rs) ≤ n → (b : Lists) → Enough n b → room_no (sizes_of (row_lists rs)) (rooms_of b) ≡ 0
enough rs good n small b r =
    suffice (sizes_of (row_lists rs)) (rooms_of b) (omega (arith, text_length rs, (holding rs good).text, r.0)) (tokens (length b.ends) r.1) (tokens (length b.kinds) r.2)
    (rows (length b.addresses) r.3) (rows (length b.marks) r.4) (rows (length b.places) r.5) (rows (length b.lines) r.6)
  where
    tokens : (k : ℕ) → n < 6 * suc k → length (row_lists rs).ends ≤ k
    tokens k h = omega (arith, small, tokens_length rs, (holding rs good).tokens, h)

    rows : (k : ℕ) → n < 12 * suc k → length (row_lists rs).addresses ≤ k
    rows k h = omega (arith, small, addresses_length rs, (holding rs good).rows, h)
