-- The pieces of a table's text: a byte's pair, a row's value, its line, and all lines one behind the other.
-- Each is what its stores leave; a loop's rest is one piece and what is left behind it.
use mathlib.Core.Path.{◌≡◌, refl, sym, ap, ◌∙◌}
use mathlib.Core.Bool.{true}
use mathlib.Core.List.{List, [], ◌∷◌, ◌++◌}
use Prim.Native.Nat.{ℕ, suc, ◌+◌, ◌-◌, ◌/◌, ◌%◌, ◌≤◌, ◌<◌}
use native.Mathlib.Numerals.{add-one}
use native.Mathlib.Omega.{arith}
use lib.ListN.{length, set, drop, get_or, length-append, drop_of_length-le}
use lib.Seq.{drop-cons}
use borrow.Author.Tests.{eq-eqb, ne_eqb}
use Rattle.lists.specs.Put.{put}
use Rattle.text.specs.Number.{digit, hex_digits}
use Rattle.text.specs.NumberLaws.{hex_digits_length}
use Rattle.tokens.specs.Lines.{between}
use Rattle.csv_rows.specs.Writing.{Wrote}
use Rattle.csv_rows.proofs.Wrote.{wrote_one, wrote_byte, wrote_then, wrote_to}
use Rattle.csv_rows.proofs.Going.{Going, go_room}
use Rattle.commands.specs.Table.{Table}
use Rattle.commands.specs.Called.{byte_end}
use Rattle.commands.specs.Printed.{pairs, value_text, row_line, row_lines}

-- ---- a pair
pub wrote_pair : (b : ℕ) {at c d : ℕ} {e e₁ e₂ : List ℕ} → c ≡ digit true (b / 16 % 16) → e₁ ≡ set e at c → d ≡ digit true (b % 16) → e₂ ≡ set e₁ (at + 1) d
    → Wrote at (hex_digits true 2 b) e e₂ (at + 2)
unfolding hex_digits
wrote_pair b hc p hd q = wrote_to (omega arith) (wrote_byte (p ∙ rw hc) (wrote_one (q ∙ rw hd)))

-- ---- the pairs of a text
unfoldable pub pairs_from : List ℕ → ℕ → List ℕ
pairs_from s i = pairs (drop i s)

pub pairs_more : (s : List ℕ) (i : ℕ) → i < length s → pairs_from s i ≡ hex_digits true 2 (get_or s i 0) ++ pairs_from s (i + 1)
unfolding pairs_from pairs
pairs_more s i h = ap pairs (drop-cons s i 0 h) ∙ rw add-one

pub pairs_none : (s : List ℕ) (i : ℕ) → length s ≤ i → pairs_from s i ≡ []
unfolding pairs_from pairs
pairs_none s i h = rw (drop_of_length-le s {i = i} h)

pub pairs_all : (s : List ℕ) → pairs_from s 0 ≡ pairs s
unfolding pairs_from
pairs_all s = refl

pub pairs_room : (s : List ℕ) {at₀ : ℕ} {e₀ : List ℕ} {i at : ℕ} {e : List ℕ} → Going (pairs_from s) 0 at₀ e₀ i at e → i < length s
    → at₀ + length (pairs s) ≤ length e₀ → at + 2 ≤ length e
unfolding pairs_from
pairs_room s {at₀} {e₀} {i} {at} {e} z h k =
    let room : at + length (hex_digits true 2 (get_or s i 0)) ≤ length e = go_room z (hex_digits true 2 (get_or s i 0)) (pairs_more s i h) k in
    omega (arith, room, hex_digits_length true 2 (get_or s i 0))

-- ---- a value
module _ (bytes rows : List ℕ) (j : ℕ) where
  pub none_text : {row : ℕ} → row ≡ get_or rows j 0 → row % 2 ≡ 1 → value_text bytes rows j ≡ 45 ∷ []
  unfolding value_text
  none_text {row} h q = rw (eq-eqb (get_or rows j 0 % 2) 1 (ap (λ (n : ℕ). n % 2) (sym h) ∙ q))

  pub some_text : {row x : ℕ} {s : List ℕ} → row ≡ get_or rows j 0 → (row % 2 ≡ 1 → ⊥) → x ≡ byte_end rows j → s ≡ between x (row / 2) bytes → value_text bytes rows j ≡ pairs s
  unfolding value_text
  some_text {row} h q e k = rw (ne_eqb (get_or rows j 0 % 2) 1 (λ r. q (ap (λ (n : ℕ). n % 2) h ∙ r))) (ap pairs (sym (k ∙ rw (h, e))))

-- ---- a line
pub sixteen_end : (v : ℕ) {at r : ℕ} {e e' : List ℕ} → Wrote at (hex_digits true 16 v) e e' r → r ≡ at + 16
sixteen_end v q = omega (arith, q.end, hex_digits_length true 16 v)

module _ (t : Table) (j : ℕ) where
  pub line_length : length (row_line t j) ≡ 16 + 1 + length (value_text t.bytes t.rows j) + 1
  unfolding row_line
  line_length =
      let a = hex_digits true 16 (get_or t.addresses j 0) in
      let v = value_text t.bytes t.rows j in
      omega (arith, length-append a (32 ∷ (v ++ (10 ∷ []))), length-append v (10 ∷ []), hex_digits_length true 16 (get_or t.addresses j 0))

  pub wrote_line : {at p q a : ℕ} {e e₁ e₂ e₃ e₄ : List ℕ} → a ≡ get_or t.addresses j 0 → Wrote at (hex_digits true 16 a) e e₁ p → e₂ ≡ set e₁ p 32
      → Wrote (p + 1) (value_text t.bytes t.rows j) e₂ e₃ q → e₄ ≡ set e₃ q 10 → Wrote at (row_line t j) e e₄ (q + 1)
  unfolding row_line
  wrote_line h w p v q = rw (← h) (wrote_then w (wrote_byte p (wrote_then v (wrote_one q))))

-- ---- all lines
unfoldable pub lines_from : Table → ℕ → ℕ → List ℕ
lines_from t n j = row_lines t j (n - j)

module _ (t : Table) (n j : ℕ) where
  pub lines_more : j < n → lines_from t n j ≡ row_line t j ++ lines_from t n (j + 1)
  unfolding lines_from row_lines
  lines_more h =
      let d : n - j ≡ suc (n - suc j) = omega arith in
      ap (row_lines t j) d ∙ rw add-one

  pub lines_none : n ≤ j → lines_from t n j ≡ []
  unfolding lines_from row_lines
  lines_none h = let d : n - j ≡ 0 = omega arith in ap (row_lines t j) d

lines_all : (t : Table) (n : ℕ) → lines_from t n 0 ≡ row_lines t 0 n
unfolding lines_from
lines_all t n = let d : n - 0 ≡ n = omega arith in ap (row_lines t 0) d

pub lines_room : (t : Table) (n : ℕ) {e₀ : List ℕ} {j at : ℕ} {e : List ℕ} → Going (lines_from t n) 0 0 e₀ j at e → j < n → length (row_lines t 0 n) ≤ length e₀
    → at + length (row_line t j) ≤ length e
lines_room t n {e₀} {j = j} z h k = go_room z (row_line t j) (lines_more t n j h) (omega (arith, k, ap length (lines_all t n)))

pub lines_whole : (t : Table) (n : ℕ) {e e' : List ℕ} {r : ℕ} → Wrote 0 (lines_from t n 0) e e' r → (r ≡ length (row_lines t 0 n)) × (e' ≡ put 0 (row_lines t 0 n) e)
lines_whole t n {e} w = (omega (arith, w.end, ap length (lines_all t n)), w.text ∙ ap (λ (u : List ℕ). put 0 u e) (lines_all t n))
