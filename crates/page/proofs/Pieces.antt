-- What the writers of the page store, one piece behind the other, is the text of its definition.
-- A text from where another ends is their concatenation (`puts_then`); the rest is lengths.
use mathlib.Core.Path.{◌≡◌, refl, sym, ap, ◌∙◌}
use mathlib.Core.Bool.{true}
use mathlib.Core.List.{List, [], ◌∷◌, ◌++◌, append_assoc}
use Prim.Native.Nat.{ℕ, zero, suc, ◌+◌, ◌-◌, ◌*◌, ◌%◌, ◌^◌, ◌≤◌, ◌<◌, min}
use native.Mathlib.Nat.{add-zero, zero-add}
use native.Mathlib.Decide.{dec_lt, dec_le}
use native.Mathlib.Omega.{arith}
use borrow.Author.Tests.{lt-ltb, le-ltb}
use lib.ListN.{length, get_or, take, drop, set, replicate, length-append, length-replicate, length-take, length-drop, take-append-drop}
use lib.Seq.{slice, take-append_seam, drop-drop}
use borrow.Rule.Slice.PartMut.{mid_of, put_mid}
use Rattle.std.proofs.lemmas.List.{replicate-append-replicate}
use Rattle.lists.specs.Put.{put}
use Rattle.lists.specs.PutLaws.{put_append, put_cons, put_none, put_fits, put_length, put_past}
use Rattle.text.specs.Number.{hex_text}
use Rattle.text.specs.NumberLaws.{hex_64}
use Rattle.text.specs.Decimal.{decimal_text}
use Rattle.rows.specs.Lists.{Lists}
use Rattle.page.specs.Page.{lf, numbered, address_text, line_of, count_line, tokens_end, lines_end, line_bytes, line_text, lines_text, page_text}

-- what is stored from `at` on, and where it ends
pub record Puts (at : ℕ) (t : List ℕ) (k : ℕ) (e e' : List ℕ) : Type 0 where
  pub text : e' ≡ put at t e
  pub end : k ≡ at + length t

-- a text, and another from where it ends
pub puts_then : (at k k' : ℕ) (s t e e₁ e₂ : List ℕ) → Puts at s k e e₁ → e₂ ≡ put k t e₁ → k' ≡ k + length t → Puts at (s ++ t) k' e e₂
puts_then at k k' s t e e₁ e₂ p q h =
    record {
      text = q ∙ rw (p.end, p.text, put_append);
      end = omega (arith, p.end, length-append s t);
    }

-- a text that was stored where there is room for it stands there whole
pub stands_whole : (t e e' : List ℕ) (r : ℕ) → r ≡ length t → e' ≡ put 0 t e → r ≤ length e → take r e' ≡ t
stands_whole t e e' r p q h =
    let is : e' ≡ t ++ drop (0 + length t) e = q ∙ put_fits 0 t e (omega arith) in
    rw (is, p) (take-append_seam t (drop (0 + length t) e))

pub put_one : (at x : ℕ) (e e₁ : List ℕ) → e₁ ≡ set e at x → e₁ ≡ put at (x ∷ []) e
put_one at x e e₁ q = rw (put_cons, put_none) q

pub numbered_puts : (word e e₁ e₂ e₃ : List ℕ) (n w end : ℕ) → w ≡ length word → e₁ ≡ put 0 word e → end ≡ w + length (decimal_text n) → e₂ ≡ put w (decimal_text n) e₁
    → e₃ ≡ set e₂ end 10 → Puts 0 (numbered word n) (end + 1) e e₃
unfolding numbered
numbered_puts word e e₁ e₂ e₃ n w end h p k q r =
    let first : Puts 0 word w e e₁ = record { text = p; end = omega arith } in
    puts_then 0 end (end + 1) (word ++ decimal_text n) lf e e₂ e₃ (puts_then 0 w end word (decimal_text n) e e₁ e₂ first q k) (put_one end 10 e₂ e₃ r) refl

-- ---- the same byte n times
-- the part of a list that is filled: from m, which is `at` kept within the list, to k, which is at + n kept within it
module _ (at n b m k : ℕ) (e : List ℕ) (p : m ≡ min at (length e)) (q : k ≡ min (at + n) (length e)) where
  abbrev run : ℕ → List ℕ
  run j = replicate j b

  -- what is past the list is not stored
  cut : put at (run n) e ≡ put at (run (k - m)) e
  cut =
      let s : k - m + (n - (k - m)) ≡ n = omega (arith, p, q) in
      let parts : run n ≡ run (k - m) ++ run (n - (k - m)) = sym (replicate-append-replicate (k - m) (n - (k - m)) b ∙ ap run s) in
      ap (λ (t : List ℕ). put at t e) parts ∙ put_append at (run (k - m)) (run (n - (k - m))) e
      ∙ elim (dec_le (at + n) (length e)) [
        | yes a ↦ let z : n - (k - m) ≡ 0 = omega (arith, p, q) in rw z (put_none _ _)
        | no a ↦ put_past (at + length (run (k - m))) (run (n - (k - m))) (put at (run (k - m)) e) (omega (arith, p, q, put_length at (run (k - m)) e, length-replicate {A = ℕ} (k - m) b))
      ]

  stored : put_mid m (k - m) e (run (k - m)) ≡ put at (run (k - m)) e
  stored =
      elim (dec_le at (length e)) [
        | yes a ↦
            let same : m ≡ at = omega (arith, p) in
            rw same (sym (put_fits at (run (k - at)) e (omega (arith, p, q, length-replicate {A = ℕ} (k - at) b))
            ∙ rw (length-replicate {A = ℕ} (k - at) b, ← drop-drop (k - at) at e, append_assoc (take at e) (run (k - at)) (drop (k - at) (drop at e)))))
        | no a ↦
            let none : k - m ≡ 0 = omega (arith, p, q) in
            rw (none, put_none, take-append-drop)
      ]

  pub filled : (r : List ℕ) → r ≡ run (length (mid_of m (k - m) e)) → put_mid m (k - m) e r ≡ put at (run n) e
  filled r f =
      let all : length (mid_of m (k - m) e) ≡ k - m = omega (arith, p, q, length-take (k - m) (drop m e), length-drop m e) in
      rw (f, all) (stored ∙ sym cut)

-- ---- a line
module _ (mark address : ℕ) where
  pub address_length : address < 2 ^ 64 → length (address_text mark address) ≡ 16
  unfolding address_text
  address_length h =
      elim (dec_lt mark 256) [
        | yes a ↦ rw (lt-ltb mark 256 a)
        | no a ↦ rw (le-ltb mark 256 (omega arith), length-append, length-replicate) (omega (arith, hex_64 true address h))
      ]

  pub dashes : mark < 256 → replicate 16 45 ≡ address_text mark address
  unfolding address_text
  dashes h = rw (lt-ltb mark 256 h)

  pub digits_put : (at k z : ℕ) (e e₁ e₂ : List ℕ) → 256 ≤ mark → z ≡ 16 - length (hex_text true address) → e₁ ≡ put at (replicate z 48) e → k ≡ at + z → e₂ ≡ put k (hex_text true address) e₁
      → e₂ ≡ put at (address_text mark address) e
  unfolding address_text
  digits_put at k z e e₁ e₂ h l p m q =
      rw (le-ltb mark 256 h, ← l)
      (puts_then at k _ (replicate z 48) (hex_text true address) e e₁ e₂ (record { text = p; end = omega (arith, length-replicate {A = ℕ} z 48) }) q refl).text

  module _ (s : List ℕ) (n : ℕ) (indent : n ≡ 2 * (mark % 256)) (fits : address < 2 ^ 64) where
    spaced : address_text mark address ++ replicate (1 + n) 32 ++ s ++ lf ≡ line_of mark address s
    unfolding line_of
    spaced =
        let k : 1 + n ≡ suc (2 * (mark % 256)) = omega arith in
        ap (λ (t : List ℕ). t ++ s ++ lf) (ap (λ (j : ℕ). address_text mark address ++ replicate j 32) k ∙ sym (append_assoc (address_text mark address) (32 ∷ []) (replicate (2 * (mark % 256)) 32)))

    pub line_puts : (at at₁ at₂ at₃ : ℕ) (e e₁ e₂ e₃ e₄ : List ℕ) → e₁ ≡ put at (address_text mark address) e → at₁ ≡ at + 16 → e₂ ≡ put at₁ (replicate (1 + n) 32) e₁
        → at₂ ≡ at₁ + (1 + n) → e₃ ≡ put at₂ s e₂ → at₃ ≡ at₂ + length s → e₄ ≡ set e₃ at₃ 10 → Puts at (line_of mark address s) (at₃ + 1) e e₄
    line_puts at at₁ at₂ at₃ e e₁ e₂ e₃ e₄ p a q b r c t =
        let A = address_text mark address in
        let R = replicate {A = ℕ} (1 + n) 32 in
        let first : Puts at A at₁ e e₁ = record { text = p; end = omega (arith, address_length fits) } in
        let second = puts_then at at₁ at₂ A R e e₁ e₂ first q (omega (arith, length-replicate {A = ℕ} (1 + n) 32)) in
        let third = puts_then at at₂ at₃ (A ++ R) s e e₂ e₃ second r c in
        rw (← spaced) (puts_then at at₃ (at₃ + 1) (A ++ R ++ s) lf e e₃ e₄ third (put_one at₃ 10 e₃ e₄ t) refl)

-- ---- where tokens end, and the bytes between
pub token_end : (ends : List ℕ) (k w x r : ℕ) → (k ≡ 0 → ⊥) → w ≡ k → x ≡ get_or ends (w - 1) 0 → r ≡ x → r ≡ tokens_end ends k
token_end ends zero w x r h p q e = absurd (h refl)
token_end ends (suc k) w x r h p q e =
    let d : w - 1 ≡ k = omega arith in
    e ∙ q ∙ ap (λ (j : ℕ). get_or ends j 0) d

pub between_is : (text s r : List ℕ) (start end : ℕ) → s ≡ take end text → r ≡ drop start s → r ≡ slice start end text
between_is text s r start end p q = q ∙ ap (drop start) p

pub between_short : (text s : List ℕ) (n start end : ℕ) → s ≡ take end text → n ≡ length s - start → n ≤ length text
between_short text s n start end p q = omega (arith, ap length p, length-take end text)

-- ---- where lines end
module _ (ends lines : List ℕ) where
  pub lines_end_lem : (j end k : ℕ) → k ≡ get_or lines j 0 → end ≡ tokens_end ends k → end ≡ lines_end ends lines (j + 1)
  lines_end_lem j end k b c =
      let w : j + 1 ≡ suc j = omega arith in
      rw (w, c, b)

  pub first_end : (i end k : ℕ) → (i ≡ 0 → ⊥) → k ≡ get_or lines (i - 1) 0 → end ≡ tokens_end ends k → end ≡ lines_end ends lines i
  first_end i end k h b c =
      let w : i - 1 + 1 ≡ i = omega arith in
      rw w at (lines_end_lem (i - 1) end k b c)

-- ---- lines
-- what is left to store of a text that is stored from at₀ on, from where the loop stands, and where that ends
pub record Left (at₀ : ℕ) (all e : List ℕ) (at : ℕ) (t out : List ℕ) : Type 0 where
  pub text : put at t out ≡ put at₀ all e
  pub end : at + length t ≡ at₀ + length all

left_turn : (at₀ : ℕ) (all e s t out out' : List ℕ) (at at' : ℕ) → Left at₀ all e at (s ++ t) out → out' ≡ put at s out → at' ≡ at + length s → Left at₀ all e at' t out'
left_turn at₀ all e s t out out' at at' l p h =
    record {
      text = rw (h, p, ← put_append) l.text;
      end = omega (arith, l.end, length-append s t);
    }

module _ (l : Lists) where
  abbrev lines_from : ℕ → ℕ → List ℕ
  lines_from = lines_text l

  -- lines, and those behind them
  pub lines_append : (i a b : ℕ) → lines_from i (a + b) ≡ lines_from i a ++ lines_from (i + a) b
  unfolding lines_text
  lines_append i zero b = rw (zero-add, add-zero)
  lines_append i (suc a) b =
      let d : suc a + b ≡ suc (a + b) = omega arith in
      let k : suc i + a ≡ i + suc a = omega arith in
      let first = line_text l i in
      rw d (ap (λ (t : List ℕ). first ++ t) (lines_append (suc i) a b ∙ rw k) ∙ sym (append_assoc first (lines_from (suc i) a) (lines_from (i + suc a) b)))

  -- of the lines from i up to last those from j on, when the list is as `out` and the text so far ends at `at`
  abbrev pub Ahead : ℕ → ℕ → ℕ → List ℕ → ℕ → ℕ → List ℕ → Type 0
  Ahead i last at₀ e j at out = Left at₀ (lines_from i (last - i)) e at (lines_from j (last - j)) out

  module _ (i last : ℕ) where
    pub lines_start : (at : ℕ) (e : List ℕ) → Ahead i last at e i at e
    lines_start at e = record { text = refl; end = refl }

    -- x is the same listing, as its lists were lent
    pub lines_turn : (x : Lists) → x ≡ l → (at₀ : ℕ) (e : List ℕ) (j start k end mark address at at' : ℕ) (s out out' : List ℕ) → j < last → start ≡ lines_end l.ends l.lines j → k ≡ get_or x.lines j 0 → end ≡ tokens_end x.ends k
        → s ≡ slice start end x.text → mark ≡ get_or x.marks j 0 → address ≡ get_or x.addresses j 0 → at' ≡ at + length (line_of mark address s) → out' ≡ put at (line_of mark address s) out
        → Ahead i last at₀ e j at out → Ahead i last at₀ e (j + 1) at' out'
    unfolding lines_text
    lines_turn x is at₀ e j start k end mark address at at' s out out' h a b c d f g m p q =
        let v : last - j ≡ suc (last - suc j) = omega arith in
        let w : suc j ≡ j + 1 = omega arith in
        let bytes : s ≡ line_bytes l j = d ∙ rw (is, c, b, a, is) in
        let here : Left at₀ (lines_from i (last - i)) e at (line_of mark address s ++ lines_from (j + 1) (last - (j + 1))) out = rw (f, g, is, bytes, ← w) (rw v at q) in
        left_turn at₀ (lines_from i (last - i)) e (line_of mark address s) (lines_from (j + 1) (last - (j + 1))) out out' at at' here p m

    pub lines_done : (at₀ : ℕ) (e : List ℕ) (k j at : ℕ) (out : List ℕ) → last ≡ i + k → last ≤ j → Ahead i last at₀ e j at out → Puts at₀ (lines_from i k) at e out
    unfolding lines_text
    lines_done at₀ e k j at out q h r =
        let d : last - j ≡ 0 = omega arith in
        let n : last - i ≡ k = omega arith in
        let all : Left at₀ (lines_from i k) e at [] out = rw (d, n) at r in
        record { text = sym (put_none at out) ∙ all.text; end = omega (arith, all.end) }

  -- ---- the page
  pub page_puts : (n at r : ℕ) (e e₁ e₂ : List ℕ) → at ≡ length (count_line n) → e₁ ≡ put 0 (count_line n) e → r ≡ at + length (lines_from 0 n) → e₂ ≡ put at (lines_from 0 n) e₁
      → Puts 0 (page_text l n) r e e₂
  unfolding page_text
  page_puts n at r e e₁ e₂ k p h q = puts_then 0 at r (count_line n) (lines_from 0 n) e e₁ e₂ (record { text = p; end = omega arith }) q h
