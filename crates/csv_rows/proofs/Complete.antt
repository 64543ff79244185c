-- The file of good rows is accepted and read back as those rows; so no other good rows have that file.
-- Along the rows, their tokens and their bytes; a number by its digits.
use mathlib.Core.Path.{◌≡◌, refl, sym, ap, ◌∙◌}
use mathlib.Core.Bool.{Bool, true, false, ◌&&◌, ◌||◌}
use mathlib.Core.List.{List, [], ◌∷◌, ◌++◌, append_assoc, append-nil}
use Prim.Native.Nat.{ℕ, zero, suc, ◌+◌, ◌-◌, ◌*◌, ◌/◌, ◌%◌, ◌^◌, ◌≤◌, ◌<◌}
use native.Mathlib.Omega.{arith}
use native.Mathlib.Numerals.{add-one}
use native.Mathlib.Decide.{dec_le}
use lib.Dec.{eqb, ltb, leb, eqb→eq, leb→le}
use borrow.Author.Tests.{eqb-true, ltb-true, leb-true, le-leb, lt-leb, lt-ltb, le-ltb, ne_eqb}
use Rattle.lists.specs.Every.{every, both_yes}
use Rattle.lists.specs.Below.{below_at}
use Rattle.text.specs.Decimal.{decimal_of, decimal_text}
use Rattle.text.specs.Number.{digit, hex_digits}
use Rattle.tokens.specs.Token.{Token, token}
use Rattle.rows.specs.Rows.{Row, row}
use Rattle.lists.proofs.Tests.{split, never}
use Rattle.csv_rows.specs.Format.{letter, doubled, token_text, tokens_text, address_text, row_text, rows_text, some, good_token, good_row, good_rows}
use Rattle.csv_rows.specs.Reading.{is_digit, goes_on, is_hex, hex_value, kind_of, Rest, ahead, add, rest, is_rows, rows_read}
use Rattle.csv_rows.specs.declared.machine.At.{At}
use Rattle.csv_rows.specs.declared.machine.At.TheVariants.{Start, Hex, IndentStart, Indent, PlaceStart, Place, Open, Text, TextQuote}
use Rattle.text.proofs.DecimalLaws.{below}

-- ---- text in quotes
abbrev more : List ℕ → Rest → Rest
more t r = ahead r.ok (t ++ r.bytes) r.tokens r.rows

text_read : (t s : List ℕ) → rest Text (doubled t ++ s) ≡ more t (rest Text s)
unfolding doubled rest add
text_read [] s = refl
text_read (b ∷ t) s =
    split (eqb b 34) (λ e. rw (e, text_read t s, eqb-true b 34 e)) (λ e. rw (e, e, text_read t s))

open_read : (b : ℕ) (t s : List ℕ) → rest Open (doubled (b ∷ t) ++ s) ≡ more (b ∷ t) (rest Text s)
unfolding doubled rest add
open_read b t s =
    split (eqb b 34) (λ e. rw (e, text_read t s, eqb-true b 34 e)) (λ e. rw (e, e, text_read t s))

-- ---- tokens
-- a kind's letter is read as that kind
letter_kind : (k : ℕ) → k < 8 → kind_of (letter k) ≡ k
letter_kind k h = eqb→eq (kind_of (letter k)) k (below_at (λ i. eqb (kind_of (letter i)) i) 8 tt k h)

-- a token behind another, and what is behind it
token_read : (k : ℕ) (t s : List ℕ) → ltb k 8 ≡ true → some t ≡ true
    → rest TextQuote (token_text (token k t) ++ s) ≡ ahead (rest TextQuote s).ok [] (token k (t ++ (rest TextQuote s).bytes) ∷ (rest TextQuote s).tokens) (rest TextQuote s).rows
unfolding token_text rest add
token_read k [] s h g = never g
token_read k (b ∷ t) s h g =
    rw (letter_kind k (ltb-true k 8 h), h, append_assoc (doubled (b ∷ t)) (34 ∷ []) s, open_read b t (34 ∷ s))

-- tokens behind one another, and the row's end
tokens_read : (ts : List Token) (s : List ℕ) → every good_token ts ≡ true
    → rest TextQuote (tokens_text ts ++ (13 ∷ 10 ∷ s)) ≡ ahead (rest Start s).ok [] ts (rest Start s).rows
unfolding tokens_text rest add good_token
tokens_read [] s h = refl
tokens_read (t ∷ ts) s h =
    let f = both_yes (good_token t) (every good_token ts) h in
    let g = both_yes (ltb t.kind 8) (some t.bytes) f.0 in
    let u = tokens_text ts ++ (13 ∷ 10 ∷ s) in
    ap (rest TextQuote) (append_assoc (token_text t) (tokens_text ts) (13 ∷ 10 ∷ s))
    ∙ token_read t.kind t.bytes u g.0 g.1
    ∙ rw (tokens_read ts s f.1, append-nil)

-- ---- a number: to read its digits in the state `start` leads to the state that carries it
abbrev Firsts : At → (ℕ → At) → Type 0
Firsts start at = (n : ℕ) (s : List ℕ) → n < 10 → rest start ((48 + n) ∷ s) ≡ rest (at n) s

abbrev Furthers : ℕ → (ℕ → At) → Type 0
Furthers most at = (n : ℕ) (s : List ℕ) → 10 ≤ n → n ≤ most → rest (at (n / 10)) ((48 + n % 10) ∷ s) ≡ rest (at n) s

module _ (most : ℕ) (start : At) (at : ℕ → At) (one : Firsts start at) (further : Furthers most at) where
  digits_read : (k n : ℕ) (s : List ℕ) → n ≤ most → n < below k → rest start (decimal_of (suc k) n ++ s) ≡ rest (at n) s
  unfolding decimal_of below
  digits_read zero n s h b = rw (lt-ltb n 10 b) (one n s b)
  digits_read (suc k) n s h b =
      elim (dec_le 10 n) [
        | no a ↦ rw (lt-ltb n 10 (omega arith)) (one n s (omega arith))
        | yes a ↦
            let c = (48 + n % 10) ∷ [] in
            rw (le-ltb n 10 a)
            (ap (rest start) (append_assoc (decimal_of (suc k) (n / 10)) c s) ∙ digits_read k (n / 10) (c ++ s) (omega arith) (omega arith) ∙ further n s a h)
      ]

  number_read : (n : ℕ) (s : List ℕ) → most ≤ 65535 → n ≤ most → rest start (decimal_text n ++ s) ≡ rest (at n) s
  unfolding below
  number_read n s m h = digits_read 19 n s h (omega arith)

-- a digit is read as its number
a_digit : (n : ℕ) → n < 10 → is_digit (48 + n) ≡ true
a_digit n h = rw (le-leb 48 (48 + n) (omega arith), le-leb (48 + n) 57 (omega arith))

goes_on_lem : (most n : ℕ) → 10 ≤ n → n ≤ most → goes_on most (n / 10) (48 + n % 10) ≡ true
goes_on_lem most n a h =
    let e : n / 10 * 10 + (48 + n % 10 - 48) ≡ n = omega arith in
    rw (a_digit (n % 10) (omega arith), lt-ltb 0 (n / 10) (omega arith), e, le-leb n most h)

module _ (h : Bool) (a : ℕ) where
  indent_one : Firsts (IndentStart h a) (Indent h a)
  unfolding rest add
  indent_one n s l = let e : 48 + n - 48 ≡ n = omega arith in rw (a_digit n l, e)

  indent_further : Furthers 254 (Indent h a)
  unfolding rest add
  indent_further n s b l =
      let e : n / 10 * 10 + (48 + n % 10 - 48) ≡ n = omega arith in
      rw (ne_eqb (48 + n % 10) 44 (λ q. omega arith), goes_on_lem 254 n b l, e)

  place_one : (x : ℕ) → Firsts (PlaceStart h a x) (Place h a x)
  unfolding rest add
  place_one x n s l = let e : 48 + n - 48 ≡ n = omega arith in rw (a_digit n l, e)

  place_further : (x : ℕ) → Furthers 65535 (Place h a x)
  unfolding rest add
  place_further x n s b l =
      let e : n / 10 * 10 + (48 + n % 10 - 48) ≡ n = omega arith in
      rw (ne_eqb (48 + n % 10) 44 (λ q. omega arith), goes_on_lem 65535 n b l, e)

-- ---- an address
hex_read : (d : ℕ) → d < 16 → (is_hex (digit true d) ≡ true) × (hex_value (digit true d) ≡ d) × (eqb (digit true d) 44 ≡ false)
unfolding digit
hex_read d h =
    elim (dec_le 10 d) [
      | no a ↦
          let e : (48 + d - 48) % 16 ≡ d = omega arith in
          rw (lt-ltb d 10 (omega arith), le-leb (48 + d) 57 (omega arith)) (rw (le-leb 48 (48 + d) (omega arith)), e, ne_eqb (48 + d) 44 (λ q. omega arith))
      | yes a ↦
          let e : (65 + (d - 10) - 55) % 16 ≡ d = omega arith in
          rw (le-ltb d 10 a, lt-leb (65 + (d - 10)) 57 (omega arith))
          (rw (le-leb 48 (65 + (d - 10)) (omega arith), le-leb 65 (65 + (d - 10)) (omega arith), le-leb (65 + (d - 10)) 70 (omega arith)), e, ne_eqb (65 + (d - 10)) 44 (λ q. omega arith))
    ]

-- the first k digits of sixteen leave room for one more
room : (k : ℕ) → k < 16 → 16 ^ k ≤ 2 ^ 60
room k h = leb→le (16 ^ k) (2 ^ 60) (below_at (λ i. leb (16 ^ i) (2 ^ 60)) 16 tt k h)

hexes_read : (k v : ℕ) (s : List ℕ) → k ≤ 16 → v < 16 ^ k → rest (Hex 0 0) (hex_digits true k v ++ s) ≡ rest (Hex k v) s
unfolding hex_digits rest add
hexes_read zero v s h b = let e : v ≡ 0 = omega arith in rw e
hexes_read (suc k) v s h b =
    let d = v % 16 in
    let z = hex_read d (omega arith) in
    let e : v / 16 * 16 + v % 16 ≡ v = omega arith in
    let w : v / 16 < 16 ^ k = omega arith in
    ap (rest (Hex 0 0)) (append_assoc (hex_digits true k (v / 16)) (digit true d ∷ []) s)
    ∙ hexes_read k (v / 16) (digit true d ∷ s) (omega arith) w
    ∙ rw (lt-ltb k 16 h, z.0, lt-ltb (v / 16) (2 ^ 60) (omega (arith, w, room k h)), z.1, e, add-one)

-- an address begins as a row does
start_read : (k v : ℕ) (s : List ℕ) → rest Start (hex_digits true (suc k) v ++ s) ≡ rest (Hex 0 0) (hex_digits true (suc k) v ++ s)
unfolding hex_digits rest add
start_read zero v s = rw (hex_read (v % 16) (omega arith)).2
start_read (suc k) v s =
    let c = digit true (v % 16) ∷ [] in
    let e = append_assoc (hex_digits true (suc k) (v / 16)) c s in
    ap (rest Start) e ∙ start_read k (v / 16) (c ++ s) ∙ sym (ap (rest (Hex 0 0)) e)

address_read : (h : Bool) (a : ℕ) (s : List ℕ) → a < 2 ^ 64 → (h || eqb a 0) ≡ true → rest Start (address_text h a ++ (44 ∷ s)) ≡ rest (IndentStart h a) s
unfolding rest add
address_read true a s l e = start_read 15 a (44 ∷ s) ∙ hexes_read 16 a (44 ∷ s) (omega arith) l
address_read false a s l e = rw (eqb-true a 0 e)

-- ---- rows
-- a comma leads from the place to the first token as from a token to the next
first_read : (h : Bool) (a x p : ℕ) (ts : List Token) (s : List ℕ) → some ts ≡ true → every good_token ts ≡ true
    → rest (Place h a x p) (tokens_text ts ++ (13 ∷ 10 ∷ s)) ≡ ahead (rest Start s).ok [] [] (row h a x p ts ∷ (rest Start s).rows)
unfolding rest tokens_text token_text add
first_read h a x p [] s g e = never g
first_read h a x p (t ∷ ts) s g e = ap (λ (r : Rest). ahead r.ok [] [] (row h a x p r.tokens ∷ r.rows)) (tokens_read (t ∷ ts) s e)

comma_read : (h : Bool) (a x : ℕ) (s : List ℕ) → rest (Indent h a x) (44 ∷ s) ≡ rest (PlaceStart h a x) s
unfolding rest add
comma_read h a x s = refl

module _ (h : Bool) (a x p : ℕ) (ts : List Token) (s : List ℕ) where
  row_read : good_row (row h a x p ts) ≡ true → rest Start (row_text (row h a x p ts) ++ s) ≡ ahead (rest Start s).ok [] [] (row h a x p ts ∷ (rest Start s).rows)
  unfolding row_text good_row
  row_read g =
      let headed = ltb a (2 ^ 64) && (h || eqb a 0) in
      let g1 = both_yes (headed && leb x 254 && leb p 65535 && some ts) (every good_token ts) g in
      let g2 = both_yes (headed && leb x 254 && leb p 65535) (some ts) g1.0 in
      let g3 = both_yes (headed && leb x 254) (leb p 65535) g2.0 in
      let g4 = both_yes headed (leb x 254) g3.0 in
      let g5 = both_yes (ltb a (2 ^ 64)) (h || eqb a 0) g4.0 in
      let e = tokens_text ts ++ (13 ∷ 10 ∷ []) in
      let d : List ℕ = 44 ∷ (decimal_text p ++ e) in
      ap (rest Start) (append_assoc (address_text h a) (44 ∷ (decimal_text x ++ d)) s)
      ∙ address_read h a ((decimal_text x ++ d) ++ s) (ltb-true a (2 ^ 64) g5.0) g5.1
      ∙ ap (rest (IndentStart h a)) (append_assoc (decimal_text x) d s)
      ∙ number_read 254 (IndentStart h a) (Indent h a) (indent_one h a) (indent_further h a) x (d ++ s) (omega arith) (leb-true x 254 g4.1)
      ∙ comma_read h a x ((decimal_text p ++ e) ++ s)
      ∙ ap (rest (PlaceStart h a x)) (append_assoc (decimal_text p) e s)
      ∙ number_read 65535 (PlaceStart h a x) (Place h a x) (place_one h a x) (place_further h a x) p (e ++ s) (omega arith) (leb-true p 65535 g3.1)
      ∙ ap (rest (Place h a x p)) (append_assoc (tokens_text ts) (13 ∷ 10 ∷ []) s)
      ∙ first_read h a x p ts s g2.1 g1.1

rows_read_lem : (rs : List Row) → good_rows rs ≡ true → rest Start (rows_text rs) ≡ ahead true [] [] rs
unfolding rows_text rest
rows_read_lem [] h = refl
rows_read_lem (r ∷ rs) h =
    let f = both_yes (good_row r) (good_rows rs) h in
    row_read r.addressed r.address r.indent r.place r.tokens (rows_text rs) f.0 ∙ rw (rows_read_lem rs f.1)

-- the file of good rows is accepted, and read back
pub written : (rs : List Row) → good_rows rs ≡ true → is_rows (rows_text rs) ≡ true
written rs h = ap (λ (r : Rest). r.ok) (rows_read_lem rs h)

pub read_back : (rs : List Row) → good_rows rs ≡ true → rows_read (rows_text rs) ≡ rs
read_back rs h = ap (λ (r : Rest). r.rows) (rows_read_lem rs h)
