-- Accepted bytes are the file of the rows that were read, and those rows are good.
-- Along the bytes, by the state: what was read of the row, in front of the bytes ahead, is the text of what lies ahead.
use mathlib.Core.Path.{◌≡◌, refl, sym, ap, ◌∙◌}
use mathlib.Core.Bool.{Bool, true, false, ◌&&◌, ◌||◌}
use mathlib.Core.List.{List, [], ◌∷◌, ◌++◌, append_assoc}
use Prim.Native.Nat.{ℕ, ◌+◌, ◌-◌, ◌*◌, ◌^◌, ◌<◌}
use native.Mathlib.Omega.{arith}
use lib.Dec.{eqb, ltb, leb}
use borrow.Author.Tests.{eqb-true, ltb-true, leb-true, ltb-false, le-leb, lt-ltb}
use Rattle.lists.specs.Choice.{pick}
use Rattle.lists.specs.Every.{every, both_yes}
use Rattle.text.specs.Decimal.{decimal_text}
use Rattle.text.specs.Number.{hex_digits}
use Rattle.tokens.specs.Token.{Token, token}
use Rattle.rows.specs.Rows.{Row, row}
use Rattle.tokens.proofs.Fit.{both}
use Rattle.lists.proofs.Tests.{split, never}
use Rattle.csv_rows.specs.Format.{letter, doubled, token_text, tokens_text, address_text, row_text, rows_text, some, good_token, good_row, good_rows}
use Rattle.csv_rows.specs.Reading.{is_digit, longer, goes_on, is_hex, hex_value, kind_of, after_hex, next, is_start, effect, Rest, add, rest, is_rows, rows_read}
use Rattle.csv_rows.specs.declared.machine.At.{At}
use Rattle.csv_rows.specs.declared.machine.At.TheVariants.{Start, Hex, IndentStart, Indent, PlaceStart, Place, Letter, Comma, Quote, Open, OpenQuote, Text, TextQuote, Cr, Bad}
use Rattle.csv_rows.specs.declared.machine.Effect.TheVariants.{Byte}
use Rattle.csv_rows.proofs.ReadDigits.{is_digit_lem, first_says, digit_says, hex_says}

-- the text of what lies ahead: behind a token, and in one
abbrev line_rest : Rest → List ℕ
line_rest r = tokens_text r.tokens ++ (13 ∷ 10 ∷ rows_text r.rows)

abbrev text_rest : Rest → List ℕ
text_rest r = doubled r.bytes ++ (34 ∷ line_rest r)

-- what the bytes s ahead of a state are, with what of the row was read before them
abbrev Says : At → List ℕ → Rest → Type 0
Says Start s r = s ≡ rows_text r.rows
Says (Hex n v) s r = hex_digits true n v ++ s ≡ rows_text r.rows
Says (IndentStart h a) s r = address_text h a ++ (44 ∷ s) ≡ rows_text r.rows
Says (Indent h a x) s r = address_text h a ++ (44 ∷ (decimal_text x ++ s)) ≡ rows_text r.rows
Says (PlaceStart h a x) s r = address_text h a ++ (44 ∷ (decimal_text x ++ (44 ∷ s))) ≡ rows_text r.rows
Says (Place h a x p) s r = address_text h a ++ (44 ∷ (decimal_text x ++ (44 ∷ (decimal_text p ++ s)))) ≡ rows_text r.rows
Says Letter s r = 44 ∷ s ≡ line_rest r
Says Comma s r = s ≡ 44 ∷ 34 ∷ text_rest r
Says Quote s r = s ≡ 34 ∷ text_rest r
Says Open s r = s ≡ text_rest r
Says OpenQuote s r = 34 ∷ s ≡ text_rest r
Says Text s r = s ≡ text_rest r
Says TextQuote s r = 34 ∷ s ≡ text_rest r
Says Cr s r = 13 ∷ s ≡ line_rest r
Says Bad s r = ℕ

abbrev good_tokens : Rest → Bool
good_tokens r = every good_token r.tokens && good_rows r.rows

-- what is good of what lies ahead
abbrev fine : At → Rest → Bool
fine Start r = good_rows r.rows
fine (Hex n v) r = good_rows r.rows
fine (IndentStart h a) r = good_rows r.rows
fine (Indent h a x) r = good_rows r.rows
fine (PlaceStart h a x) r = good_rows r.rows
fine (Place h a x p) r = good_rows r.rows
fine Letter r = some r.tokens && good_tokens r
fine Comma r = some r.bytes && good_tokens r
fine Quote r = some r.bytes && good_tokens r
fine Open r = some r.bytes && good_tokens r
fine OpenQuote r = some r.bytes && good_tokens r
fine Text r = good_tokens r
fine TextQuote r = good_tokens r
fine Cr r = good_tokens r
fine Bad r = true

-- what was read of a row is good
abbrev headed : Bool → ℕ → Bool
headed h a = ltb a (2 ^ 64) && (h || eqb a 0)

abbrev met : At → Bool
met Start = true
met (Hex n v) = leb n 16 && ltb v (2 ^ 64)
met (IndentStart h a) = headed h a
met (Indent h a x) = headed h a && leb x 254
met (PlaceStart h a x) = headed h a && leb x 254
met (Place h a x p) = headed h a && leb x 254 && leb p 65535
met Letter = true
met Comma = true
met Quote = true
met Open = true
met OpenQuote = true
met Text = true
met TextQuote = true
met Cr = true
met Bad = true

record Sound (t : At) (s : List ℕ) (r : Rest) : Type 0 where
  pub says : Says t s r
  pub right : fine t r ≡ true

-- no state is reached from Bad but Bad
bad_no : (s : List ℕ) → (rest Bad s).ok ≡ false
unfolding rest add
bad_no [] = refl
bad_no (b ∷ s) = bad_no s

pub is_bad : {A : Type 0} (s : List ℕ) → (rest Bad s).ok ≡ true → A
is_bad s h = never (sym (bad_no s) ∙ h)

-- a letter is its kind's
found : (b c k r : ℕ) → c ≡ letter k → (ltb r 8 ≡ true → b ≡ letter r) → ltb (pick (eqb b c) k r) 8 ≡ true → b ≡ letter (pick (eqb b c) k r)
found b c k r q f h = go (eqb b c) refl h
  where
    go : (t : Bool) → eqb b c ≡ t → ltb (pick t k r) 8 ≡ true → b ≡ letter (pick t k r)
    go true e h = eqb-true b c e ∙ q
    go false e h = f h

kind_letter : (b : ℕ) → ltb (kind_of b) 8 ≡ true → b ≡ letter (kind_of b)
kind_letter b =
    found b 88 0 _ refl (found b 82 1 _ refl (found b 78 2 _ refl (found b 75 3 _ refl
    (found b 83 4 _ refl (found b 65 5 _ refl (found b 80 6 _ refl (found b 70 7 8 refl never)))))))

-- a row and a token, put together from what was read and what lies ahead
module _ (h : Bool) (a x p : ℕ) (ts : List Token) (rs : List Row) where
  row_says : (s : List ℕ) → s ≡ tokens_text ts ++ (13 ∷ 10 ∷ rows_text rs)
      → address_text h a ++ (44 ∷ (decimal_text x ++ (44 ∷ (decimal_text p ++ s)))) ≡ rows_text (row h a x p ts ∷ rs)
  unfolding row_text rows_text
  row_says s q =
      let e = tokens_text ts ++ (13 ∷ 10 ∷ []) in
      let u = rows_text rs in
      let d : List ℕ = 44 ∷ (decimal_text p ++ e) in
      rw q (sym (
      append_assoc (address_text h a) (44 ∷ (decimal_text x ++ d)) u
      ∙ ap (λ (l : List ℕ). address_text h a ++ (44 ∷ l)) (append_assoc (decimal_text x) d u)
      ∙ ap (λ (l : List ℕ). address_text h a ++ (44 ∷ (decimal_text x ++ (44 ∷ l)))) (append_assoc (decimal_text p) e u)
      ∙ ap (λ (l : List ℕ). address_text h a ++ (44 ∷ (decimal_text x ++ (44 ∷ (decimal_text p ++ l))))) (append_assoc (tokens_text ts) (13 ∷ 10 ∷ []) u)))

  row_good : (headed h a && leb x 254 && leb p 65535) ≡ true → (some ts && (every good_token ts && good_rows rs)) ≡ true → good_rows (row h a x p ts ∷ rs) ≡ true
  unfolding good_row
  row_good m q =
      let m1 = both_yes (headed h a && leb x 254) (leb p 65535) m in
      let m2 = both_yes (headed h a) (leb x 254) m1.0 in
      let m3 = both_yes (ltb a (2 ^ 64)) (h || eqb a 0) m2.0 in
      let q1 = both_yes (some ts) (every good_token ts && good_rows rs) q in
      let q2 = both_yes (every good_token ts) (good_rows rs) q1.1 in
      rw (m3.0, m3.1, m2.1, m1.1, q1.0, q2.0, q2.1)

token_says : (b k : ℕ) (s t u : List ℕ) (ts : List Token) → b ≡ letter k → s ≡ 44 ∷ 34 ∷ (doubled t ++ (34 ∷ (tokens_text ts ++ u)))
    → 44 ∷ b ∷ s ≡ tokens_text (token k t ∷ ts) ++ u
unfolding token_text tokens_text
token_says b k s t u ts p q = rw (p, q, append_assoc (doubled t), append_assoc (doubled t))

token_good : (k : ℕ) (t : List ℕ) (ts : List Token) (rs : List Row) → ltb k 8 ≡ true → (some t && (every good_token ts && good_rows rs)) ≡ true
    → (every good_token (token k t ∷ ts) && good_rows rs) ≡ true
unfolding good_token
token_good k t ts rs e q =
    let q1 = both_yes (some t) (every good_token ts && good_rows rs) q in
    let q2 = both_yes (every good_token ts) (good_rows rs) q1.1 in
    rw (e, q1.0, q2.0, q2.1)

-- one step, from what is so of the next state's rest
module _ (c : ℕ) (s : List ℕ) where
  -- a byte of text, and a doubled quote
  plain : (r : Rest) → eqb c 34 ≡ false → s ≡ text_rest r → c ∷ s ≡ text_rest (add Byte c r)
  unfolding doubled add
  plain r e q = rw e (ap {B = List ℕ} (λ l. c ∷ l) q)

  quote : (r : Rest) → eqb c 34 ≡ true → s ≡ text_rest r → 34 ∷ c ∷ s ≡ text_rest (add Byte c r)
  unfolding doubled add
  quote r e q = rw (e, eqb-true c 34 e) (ap {B = List ℕ} (λ l. 34 ∷ 34 ∷ l) q)

  abbrev After : At → Type 0
  After t = met t ≡ true → (rest t s).ok ≡ true → Sound t s (rest t s)

  abbrev Stepped : At → Type 0
  Stepped t = let r = add (effect t c) c (rest (next t c) s) in r.ok ≡ true → Sound t (c ∷ s) r

  address_step : (n v : ℕ) → (leb n 16 && ltb v (2 ^ 64)) ≡ true → ((t : At) → After t) → let r = rest (after_hex n v c) s in
      r.ok ≡ true → (hex_digits true n v ++ (c ∷ s) ≡ rows_text r.rows) × (good_rows r.rows ≡ true)
  address_step n v m ih o =
      let f = both_yes (leb n 16) (ltb v (2 ^ 64)) m in
      split (ltb n 16)
      (λ e. split (is_hex c && ltb v (2 ^ 60))
      (λ g.
      let g' = both_yes (is_hex c) (ltb v (2 ^ 60)) g in
      let l : v < 2 ^ 60 = ltb-true v (2 ^ 60) g'.1 in
      let k : n < 16 = ltb-true n 16 e in
      let d : hex_value c < 16 = omega arith in
      let w = v * 16 + hex_value c in
      let m' = both (leb (n + 1) 16) (ltb w (2 ^ 64)) (le-leb (n + 1) 16 (omega arith)) (lt-ltb w (2 ^ 64) (omega arith)) in
      let q = ih (Hex (n + 1) w) m' (rw (e, g) at o) in
      rw (e, g) (hex_says n v c s _ g'.0 q.says, q.right))
      (λ g. is_bad s (rw (e, g) at o)))
      (λ e. split (eqb c 44)
      (λ g.
      let q = ih (IndentStart true v) (both (ltb v (2 ^ 64)) true f.1 refl) (rw (e, g) at o) in
      let k : n ≡ 16 = omega (arith, leb-true n 16 f.0, ltb-false n 16 e) in
      rw (e, g, k, eqb-true c 44 g) (q.says, q.right))
      (λ g. is_bad s (rw (e, g) at o)))

  step : (t : At) → met t ≡ true → ((t' : At) → After t') → Stepped t
  unfolding add hex_digits doubled tokens_text
  step Start m ih o =
      split (eqb c 44)
      (λ e. let q = ih (IndentStart false 0) refl (rw e at o) in rw (e, eqb-true c 44 e) (record { says = q.says; right = q.right }))
      (λ e. let q = address_step 0 0 refl ih (rw e at o) in rw e (record { says = q.0; right = q.1 }))
  step (Hex n v) m ih o = let q = address_step n v m ih o in record { says = q.0; right = q.1 }
  step (IndentStart h a) m ih o =
      split (is_digit c)
      (λ e.
      let q = ih (Indent h a (c - 48)) (both (headed h a) (leb (c - 48) 254) m (le-leb (c - 48) 254 (omega (arith, (is_digit_lem c e).low)))) (rw e at o) in
      rw e (record { says = ap (λ (l : List ℕ). address_text h a ++ (44 ∷ l)) (first_says c s _ e refl) ∙ q.says; right = q.right }))
      (λ e. is_bad s (rw e at o))
  step (Indent h a x) m ih o =
      split (eqb c 44)
      (λ e. let q = ih (PlaceStart h a x) m (rw e at o) in rw (e, eqb-true c 44 e) (record { says = q.says; right = q.right }))
      (λ e. split (goes_on 254 x c)
      (λ g.
      let f = both_yes (headed h a) (leb x 254) m in
      let m' = both (headed h a) (leb (longer x c) 254) f.0 (both_yes (is_digit c && ltb 0 x) (leb (longer x c) 254) g).1 in
      let q = ih (Indent h a (longer x c)) m' (rw (e, g) at o) in
      let d = digit_says 254 x c s _ (omega arith) g refl in
      rw (e, g) (record { says = ap (λ (l : List ℕ). address_text h a ++ (44 ∷ l)) d ∙ q.says; right = q.right }))
      (λ g. is_bad s (rw (e, g) at o)))
  step (PlaceStart h a x) m ih o =
      split (is_digit c)
      (λ e.
      let q = ih (Place h a x (c - 48)) (both (headed h a && leb x 254) (leb (c - 48) 65535) m (le-leb (c - 48) 65535 (omega (arith, (is_digit_lem c e).low)))) (rw e at o) in
      rw e (record { says = ap (λ (l : List ℕ). address_text h a ++ (44 ∷ (decimal_text x ++ (44 ∷ l)))) (first_says c s _ e refl) ∙ q.says; right = q.right }))
      (λ e. is_bad s (rw e at o))
  step (Place h a x p) m ih o =
      split (eqb c 44)
      (λ e.
      let q = ih Letter refl (rw e at o) in
      let r = rest Letter s in
      rw e (record { says = row_says h a x p r.tokens r.rows (c ∷ s) (rw (eqb-true c 44 e) q.says); right = row_good h a x p r.tokens r.rows m q.right }))
      (λ e. split (goes_on 65535 p c)
      (λ g.
      let f = both_yes (headed h a && leb x 254) (leb p 65535) m in
      let m' = both (headed h a && leb x 254) (leb (longer p c) 65535) f.0 (both_yes (is_digit c && ltb 0 p) (leb (longer p c) 65535) g).1 in
      let q = ih (Place h a x (longer p c)) m' (rw (e, g) at o) in
      let d = digit_says 65535 p c s _ (omega arith) g refl in
      rw (e, g) (record { says = ap (λ (l : List ℕ). address_text h a ++ (44 ∷ (decimal_text x ++ (44 ∷ l)))) d ∙ q.says; right = q.right }))
      (λ g. is_bad s (rw (e, g) at o)))
  step Letter m ih o =
      split (ltb (kind_of c) 8)
      (λ e.
      let q = ih Comma refl (rw e at o) in
      let r = rest Comma s in
      rw e (record {
        says = token_says c (kind_of c) s r.bytes (13 ∷ 10 ∷ rows_text r.rows) r.tokens (kind_letter c e) q.says;
        right = token_good (kind_of c) r.bytes r.tokens r.rows e q.right;
      }))
      (λ e. is_bad s (rw e at o))
  step Comma m ih o =
      split (eqb c 44)
      (λ e. let q = ih Quote refl (rw e at o) in rw (e, eqb-true c 44 e) (record { says = ap {B = List ℕ} (λ l. 44 ∷ l) q.says; right = q.right }))
      (λ e. is_bad s (rw e at o))
  step Quote m ih o =
      split (eqb c 34)
      (λ e. let q = ih Open refl (rw e at o) in rw (e, eqb-true c 34 e) (record { says = ap {B = List ℕ} (λ l. 34 ∷ l) q.says; right = q.right }))
      (λ e. is_bad s (rw e at o))
  step Open m ih o =
      split (eqb c 34)
      (λ e. let q = ih OpenQuote refl (rw e at o) in rw (e, eqb-true c 34 e) (record { says = q.says; right = q.right }))
      (λ e. let q = ih Text refl (rw e at o) in rw e (record { says = plain (rest Text s) e q.says; right = q.right }))
  step OpenQuote m ih o =
      split (eqb c 34)
      (λ e. let q = ih Text refl (rw e at o) in rw e (record { says = quote (rest Text s) e q.says; right = q.right }))
      (λ e. is_bad s (rw e at o))
  step Text m ih o =
      split (eqb c 34)
      (λ e. let q = ih TextQuote refl (rw e at o) in rw (e, eqb-true c 34 e) (record { says = q.says; right = q.right }))
      (λ e. let q = ih Text refl (rw e at o) in rw e (record { says = plain (rest Text s) e q.says; right = q.right }))
  step TextQuote m ih o =
      split (eqb c 34)
      (λ e. let q = ih Text refl (rw e at o) in rw e (record { says = quote (rest Text s) e q.says; right = q.right }))
      (λ e. split (eqb c 44)
      (λ f.
      let q = ih Letter refl (rw (e, f) at o) in
      let r = rest Letter s in
      rw (e, f) (record { says = rw (eqb-true c 44 f) (ap {B = List ℕ} (λ l. 34 ∷ l) q.says); right = (both_yes (some r.tokens) (good_tokens r) q.right).1 }))
      (λ f. split (eqb c 13)
      (λ g. let q = ih Cr refl (rw (e, f, g) at o) in rw (e, f, g) (record { says = rw (eqb-true c 13 g) (ap {B = List ℕ} (λ l. 34 ∷ l) q.says); right = q.right }))
      (λ g. is_bad s (rw (e, f, g) at o))))
  step Cr m ih o =
      split (eqb c 10)
      (λ e. let q = ih Start refl (rw e at o) in rw (e, eqb-true c 10 e) (record { says = ap {B = List ℕ} (λ l. 13 ∷ 10 ∷ l) q.says; right = q.right }))
      (λ e. is_bad s (rw e at o))
  step Bad m ih o = is_bad s o

-- a file ends between rows
pub only_start : (t : At) → is_start t ≡ true → t ≡ Start
only_start Start h = refl
only_start (Hex n v) h = never h
only_start (IndentStart b a) h = never h
only_start (Indent b a x) h = never h
only_start (PlaceStart b a x) h = never h
only_start (Place b a x p) h = never h
only_start Letter h = never h
only_start Comma h = never h
only_start Quote h = never h
only_start Open h = never h
only_start OpenQuote h = never h
only_start Text h = never h
only_start TextQuote h = never h
only_start Cr h = never h
only_start Bad h = never h

sound : (s : List ℕ) (t : At) → met t ≡ true → (rest t s).ok ≡ true → Sound t s (rest t s)
unfolding rest rows_text
sound [] t m h = let e = only_start t h in rw e (record { says = refl; right = refl })
sound (c ∷ s) t m h = step c s t m (sound s) h

-- accepted bytes are the file of good rows
pub accepted : (s : List ℕ) → is_rows s ≡ true → rows_text (rows_read s) ≡ s
accepted s h = sym (sound s Start refl h).says

pub accepted_good : (s : List ℕ) → is_rows s ≡ true → good_rows (rows_read s) ≡ true
accepted_good s h = (sound s Start refl h).right
