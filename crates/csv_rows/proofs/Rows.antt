-- What is left of tokens and of rows: one, and what is left behind it.
-- Each is the definition at one index; a row's fields are put together by the law of three lists.
use mathlib.Core.Path.{◌≡◌, sym, ap, ◌∙◌}
use mathlib.Core.List.{List, [], ◌∷◌, ◌++◌, append_assoc}
use Prim.Native.Nat.{ℕ, suc, ◌+◌, ◌-◌, ◌≤◌, ◌<◌}
use native.Mathlib.Numerals.{add-one}
use native.Mathlib.Omega.{arith}
use lib.ListN.{length, get_or, set, length-append, take, drop}
use Rattle.lists.specs.Entries.{tab}
use Rattle.text.specs.Decimal.{decimal_text}
use Rattle.tokens.specs.Token.{token}
use Rattle.tokens.specs.Lines.{end_at, between, token_at, line_at}
use Rattle.rows.specs.Lists.{Lists}
use Rattle.rows.specs.Rows.{is_addressed, indent_of, row_at}
use Rattle.csv_rows.specs.Format.{token_text, tokens_text, address_text, row_text, rows_text}
use Rattle.csv_rows.specs.Writing.{Wrote, head_text, tokens_from, line_text, rows_from}
use Rattle.csv_rows.proofs.Wrote.{wrote_one, wrote_byte, wrote_then, wrote_to, wrote_length}
use Rattle.csv_rows.proofs.Going.{Going, go_room, go_turn}

-- the text between two ends, where they do not rise
pub between_none : (s : List ℕ) (x y : ℕ) → y ≤ x → take 0 (drop x s) ≡ between x y s
between_none s x y h = let d : y - x ≡ 0 = omega arith in rw d

-- ---- tokens
module _ (text ends kinds : List ℕ) (m j : ℕ) where
  pub tokens_more : {x y k : ℕ} {s : List ℕ} → j < m → x ≡ end_at ends j → y ≡ end_at ends (j + 1) → s ≡ between x y text → k ≡ get_or kinds j 0
      → tokens_from text ends kinds m j ≡ token_text (token k s) ++ tokens_from text ends kinds m (j + 1)
  unfolding tokens_from tokens_text token_at
  tokens_more h p q r t = let d : m - j ≡ suc (m - suc j) = omega arith in rw (r, p, q, t, d, add-one)

  pub token_room : {x y k n at₀ at : ℕ} {s e₀ e : List ℕ} → Going (tokens_from text ends kinds m) n at₀ e₀ j at e → j < m → x ≡ end_at ends j → y ≡ end_at ends (j + 1)
      → s ≡ between x y text → k ≡ get_or kinds j 0 → at₀ + length (tokens_from text ends kinds m n) ≤ length e₀ → at + length (token_text (token k s)) ≤ length e
  token_room {k = k} {s = s} z h p q r t room = go_room z (token_text (token k s)) (tokens_more h p q r t) room

  pub tokens_none : m ≤ j → tokens_from text ends kinds m j ≡ []
  unfolding tokens_from tokens_text
  tokens_none h = let d : m - j ≡ 0 = omega arith in rw d

-- ---- the end of a row
pub line_length : (text ends kinds : List ℕ) (m n : ℕ) → length (line_text text ends kinds m n) ≡ length (tokens_from text ends kinds m n) + 2
unfolding line_text
line_length text ends kinds m n = length-append (tokens_from text ends kinds m n) (13 ∷ 10 ∷ [])

pub line_wrote : (text ends kinds : List ℕ) (m n : ℕ) {at p : ℕ} {e e₁ e₂ e₃ : List ℕ} → Wrote at (tokens_from text ends kinds m n) e e₁ p
    → e₂ ≡ set e₁ p 13 → e₃ ≡ set e₂ (p + 1) 10 → Wrote at (line_text text ends kinds m n) e e₃ (p + 2)
unfolding line_text
line_wrote text ends kinds m n {p = p} w a b = wrote_then w (wrote_to (omega arith) (wrote_byte a (wrote_one b)))

-- ---- rows
module _ (l : Lists) (m i : ℕ) where
  row_parts : row_text (row_at l i)
      ≡ head_text (get_or l.marks i 0) (get_or l.addresses i 0) (get_or l.places i 0) ++ line_text l.text l.ends l.kinds (end_at l.lines (suc i)) (end_at l.lines i)
  unfolding row_text row_at line_at head_text line_text tokens_from
  row_parts =
      let a = address_text (is_addressed (get_or l.marks i 0)) (get_or l.addresses i 0) in
      let d = decimal_text (indent_of (get_or l.marks i 0)) in
      let p = decimal_text (get_or l.places i 0) in
      let t = line_text l.text l.ends l.kinds (end_at l.lines (suc i)) (end_at l.lines i) in
      sym (append_assoc a (44 ∷ (d ++ (44 ∷ p))) t ∙ ap (λ (u : List ℕ). a ++ (44 ∷ u)) (append_assoc d (44 ∷ p) t))

  pub rows_more : {mark address place n e : ℕ} → i < m → mark ≡ get_or l.marks i 0 → address ≡ get_or l.addresses i 0 → place ≡ get_or l.places i 0
      → n ≡ end_at l.lines i → e ≡ end_at l.lines (i + 1)
      → rows_from l m i ≡ (head_text mark address place ++ line_text l.text l.ends l.kinds e n) ++ rows_from l m (i + 1)
  unfolding rows_from rows_text
  rows_more h a b c p q = let d : m - i ≡ suc (m - suc i) = omega arith in rw (a, b, c, p, q, d, add-one) (ap (λ (t : List ℕ). t ++ rows_text (tab (row_at l) (suc i) (m - suc i))) row_parts)

  -- there is room for the head, and behind it for the line
  module _ {mark address place n e at₀ at : ℕ} {o₀ o : List ℕ} (z : Going (rows_from l m) 0 at₀ o₀ i at o) (h : i < m) (a : mark ≡ get_or l.marks i 0)
      (b : address ≡ get_or l.addresses i 0) (c : place ≡ get_or l.places i 0) (p : n ≡ end_at l.lines i) (q : e ≡ end_at l.lines (i + 1)) (room : at₀ + length (rows_from l m 0) ≤ length o₀) where
    row_room : at + length (head_text mark address place) + length (line_text l.text l.ends l.kinds e n) ≤ length o
    row_room =
        omega (arith, go_room z (head_text mark address place ++ line_text l.text l.ends l.kinds e n) (rows_more h a b c p q) room, length-append (head_text mark address place) (line_text l.text l.ends l.kinds e n))

    pub head_room : at + length (head_text mark address place) ≤ length o
    head_room = omega (arith, row_room)

    pub line_room : {r : ℕ} {o₁ : List ℕ} → Wrote at (head_text mark address place) o o₁ r → r + length (line_text l.text l.ends l.kinds e n) ≤ length o₁
    line_room w = omega (arith, row_room, w.end, wrote_length w)

    pub rows_turn : {r r' : ℕ} {o₁ o₂ : List ℕ} → Wrote at (head_text mark address place) o o₁ r → Wrote r (line_text l.text l.ends l.kinds e n) o₁ o₂ r'
        → Going (rows_from l m) 0 at₀ o₀ (i + 1) r' o₂
    rows_turn w v = go_turn z (rows_more h a b c p q) (wrote_then w v)

  pub rows_none : m ≤ i → rows_from l m i ≡ []
  unfolding rows_from rows_text
  rows_none h = let d : m - i ≡ 0 = omega arith in rw d
