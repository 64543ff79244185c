-- The loops that ask whether lists hold rows.
-- All before the one at hand are held, and end where it begins; one that is not held settles the answer.
use mathlib.Core.Path.{◌≡◌, sym, ◌∙◌}
use mathlib.Core.Bool.{Bool, true, false, ◌&&◌, ◌||◌}
use Prim.Native.Nat.{ℕ, ◌+◌, ◌≤◌, ◌<◌}
use native.Mathlib.Numerals.{add-one}
use native.Mathlib.Omega.{arith}
use lib.Dec.{eqb, ltb, leb}
use lib.ListN.{get_or}
use Rattle.lists.specs.Choice.{all_below}
use Rattle.lists.specs.Below.{all_goes_on, all_fails}
use Rattle.tokens.specs.Lines.{end_at}
use Rattle.rows.specs.Lists.{Lists}
use Rattle.rows.specs.Rows.{is_addressed, indent_of, token_held, row_held}

-- ---- tokens
pub record Tokens (l : Lists) (n x j : ℕ) : Type 0 where
  pub within : j ≤ n
  pub end : x ≡ end_at l.ends j
  pub held : all_below (token_held l) j ≡ true

module _ {l : Lists} {n x j : ℕ} (z : Tokens l n x j) where
  token_test : {y : ℕ} → y ≡ end_at l.ends (j + 1) → token_held l j ≡ (ltb x y && ltb (get_or l.kinds j 0) 8)
  unfolding token_held
  token_test q = rw (z.end, q, add-one)

  pub tokens_turn : {y : ℕ} → j < n → y ≡ end_at l.ends (j + 1) → (ltb x y && ltb (get_or l.kinds j 0) 8) ≡ true → Tokens l n y (j + 1)
  tokens_turn h q b = record { within = omega arith; end = q; held = all_goes_on (token_held l) j z.held (token_test q ∙ b) }

  pub tokens_fail : {y : ℕ} → j < n → y ≡ end_at l.ends (j + 1) → (ltb x y && ltb (get_or l.kinds j 0) 8) ≡ false → false ≡ all_below (token_held l) n
  tokens_fail h q b = sym (all_fails (token_held l) n j h (token_test q ∙ b))

-- ---- rows
pub record Rows (l : Lists) (m n i : ℕ) : Type 0 where
  pub within : i ≤ m
  pub end : n ≡ end_at l.lines i
  pub held : all_below (row_held l) i ≡ true

abbrev row_test : ℕ → ℕ → ℕ → ℕ → Bool
row_test n e mark address = ltb n e && ltb mark 512 && leb (indent_of mark) 254 && (is_addressed mark || eqb address 0)

module _ {l : Lists} {m n i : ℕ} (z : Rows l m n i) where
  row_test_lem : {f : ℕ} → f ≡ end_at l.lines (i + 1) → row_held l i ≡ row_test n f (get_or l.marks i 0) (get_or l.addresses i 0)
  unfolding row_held
  row_test_lem q = rw (z.end, q, add-one)

  module _ {f : ℕ} {b : Bool} (h : i < m) (q : f ≡ end_at l.lines (i + 1)) (r : b ≡ row_test n f (get_or l.marks i 0) (get_or l.addresses i 0)) where
    pub rows_turn : b ≡ true → Rows l m f (i + 1)
    rows_turn b = record { within = omega arith; end = q; held = all_goes_on (row_held l) i z.held (row_test_lem q ∙ sym r ∙ b) }

    pub rows_fail : b ≡ false → false ≡ all_below (row_held l) m
    rows_fail b = sym (all_fails (row_held l) m i h (row_test_lem q ∙ sym r ∙ b))
