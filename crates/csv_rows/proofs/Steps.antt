-- One byte stores its part of what is left to store.
-- One law for each effect, over the stage before and behind it; then by the state, and by the test that decides the next one.
use mathlib.Core.Path.{◌≡◌, refl}
use mathlib.Core.Bool.{Bool, true, ◌&&◌, ◌||◌}
use mathlib.Core.List.{List, [], ◌∷◌, ◌++◌, map}
use Prim.Native.Nat.{ℕ, suc, ◌+◌, ◌^◌}
use native.Mathlib.Nat.{add-zero}
use native.Mathlib.Omega.{arith}
use lib.Dec.{eqb, ltb}
use lib.ListN.{length}
use Rattle.lists.specs.Choice.{pick}
use Rattle.tokens.specs.Token.{Token}
use Rattle.tokens.specs.Listing.{text_of, ends_from, kinds_of}
use Rattle.rows.specs.Rows.{Row, all_tokens, token_counts, mark_of}
use Rattle.lists.proofs.Tests.{split, never}
use Rattle.csv_rows.specs.Reading.{is_digit, is_hex, goes_on, kind_of, after_hex, next, stage, effect, Rest, add, rest}
use Rattle.csv_rows.specs.Filling.{number, address_in, mark_in, place_in, one}
use Rattle.csv_rows.specs.declared.machine.At.{At}
use Rattle.csv_rows.specs.declared.machine.At.TheVariants.{Start, Hex, IndentStart, Indent, PlaceStart, Place, Letter, Comma, Quote, Open, OpenQuote, Text, TextQuote, Cr, Bad}
use Rattle.csv_rows.specs.declared.machine.Effect.{Effect}
use Rattle.csv_rows.specs.declared.machine.Effect.TheVariants.{Silent, Byte, Kind, TokenEnd, Head, RowEnd}
use Rattle.csv_rows.proofs.Sound.{is_bad}

-- ---- what is left to store from a stage on
-- a token's kind is stored and its end is not
abbrev pub in_token : ℕ → Bool
in_token q = eqb q 3

-- tokens of a row that has begun may follow
abbrev in_row : ℕ → Bool
in_row q = eqb q 3 || eqb q 2

-- a row's first fields are stored and its end is not
abbrev pub begun : ℕ → Bool
begun q = in_row q || eqb q 4

abbrev tokens_left : ℕ → Rest → List Token
tokens_left q r = pick (in_row q) r.tokens [] ++ all_tokens r.rows

abbrev pub text_left : ℕ → Rest → List ℕ
text_left q r = pick (in_token q) r.bytes [] ++ text_of (tokens_left q r)

-- x bytes are stored
abbrev pub ends_left : ℕ → ℕ → Rest → List ℕ
ends_left q x r =
    let y = x + length r.bytes in
    pick (in_token q) (y ∷ ends_from y (tokens_left q r)) (ends_from x (tokens_left q r))

abbrev pub kinds_left : ℕ → Rest → List ℕ
kinds_left q r = kinds_of (tokens_left q r)

abbrev pub addresses_left : Rest → List ℕ
addresses_left r = map (λ (w : Row). w.address) r.rows

abbrev pub marks_left : Rest → List ℕ
marks_left r = map mark_of r.rows

abbrev pub places_left : Rest → List ℕ
places_left r = map (λ (w : Row). w.place) r.rows

-- n tokens are stored
abbrev row_end : ℕ → ℕ → Rest → ℕ
row_end q n r = n + one (in_token q) + length (pick (in_row q) r.tokens [])

abbrev pub lines_left : ℕ → ℕ → Rest → List ℕ
lines_left q n r = pick (begun q) (row_end q n r ∷ token_counts (row_end q n r) r.rows) (token_counts n r.rows)

-- ---- one byte c with effect e, from stage q with the rest r to stage q' with the rest r'
pub record Steps (q q' : ℕ) (e : Effect) (c : ℕ) (r r' : Rest) : Type 0 where
  pub text : text_left q r ≡ pick (eqb (number e) 1) (c ∷ text_left q' r') (text_left q' r')
  pub ends : (x : ℕ) → let u = ends_left q' (x + one (eqb (number e) 1)) r' in ends_left q x r ≡ pick (eqb (number e) 3) (x ∷ u) u
  pub kinds : kinds_left q r ≡ pick (eqb (number e) 2) (kind_of c ∷ kinds_left q' r') (kinds_left q' r')
  pub addresses : addresses_left r ≡ pick (eqb (number e) 4) (address_in e ∷ addresses_left r') (addresses_left r')
  pub marks : marks_left r ≡ pick (eqb (number e) 4) (mark_in e ∷ marks_left r') (marks_left r')
  pub places : places_left r ≡ pick (eqb (number e) 4) (place_in e ∷ places_left r') (places_left r')
  pub lines : (n : ℕ) → let u = lines_left q' (n + one (eqb (number e) 3)) r' in lines_left q n r ≡ pick (eqb (number e) 5) (n ∷ u) u
  -- where a kind and a row's first fields are stored
  pub kind_at : one (in_token q) + one (eqb (number e) 2) ≡ one (eqb (number e) 3) + one (in_token q')
  pub head_at : one (begun q) + one (eqb (number e) 4) ≡ one (eqb (number e) 5) + one (begun q')
  pub kind_free : eqb (number e) 2 ≡ true → one (in_token q) ≡ 0
  pub head_free : eqb (number e) 4 ≡ true → one (begun q) ≡ 0

same_ends : (k l : ℕ) (ts : List Token) → k ≡ l → k ∷ ends_from k ts ≡ l ∷ ends_from l ts
same_ends k l ts e = rw e

same_counts : (k l : ℕ) (rs : List Row) → k ≡ l → k ∷ token_counts k rs ≡ l ∷ token_counts l rs
same_counts k l rs e = rw e

module _ (c : ℕ) (r : Rest) where
  -- within a stage, and from between rows into one
  silent : (q : ℕ) → Steps q q Silent c (add Silent c r) r
  unfolding add
  silent q =
      record {
        text = refl;
        ends = λ x. rw add-zero;
        kinds = refl;
        addresses = refl;
        marks = refl;
        places = refl;
        lines = λ n. rw add-zero;
        kind_at = omega arith;
        head_at = omega arith;
        kind_free = λ h. never h;
        head_free = λ h. never h;
      }

  enter : Steps 0 1 Silent c (add Silent c r) r
  unfolding add
  enter =
      record {
        text = refl;
        ends = λ x. rw add-zero;
        kinds = refl;
        addresses = refl;
        marks = refl;
        places = refl;
        lines = λ n. rw add-zero;
        kind_at = refl;
        head_at = refl;
        kind_free = λ h. never h;
        head_free = λ h. never h;
      }

  byte : Steps 3 3 Byte c (add Byte c r) r
  unfolding add
  byte =
      record {
        text = refl;
        ends = λ x. same_ends (x + suc (length r.bytes)) (x + 1 + length r.bytes) (tokens_left 3 r) (omega arith);
        kinds = refl;
        addresses = refl;
        marks = refl;
        places = refl;
        lines = λ n. rw add-zero;
        kind_at = refl;
        head_at = refl;
        kind_free = λ h. never h;
        head_free = λ h. never h;
      }

  kind : Steps 2 3 Kind c (add Kind c r) r
  unfolding add text_of ends_from kinds_of
  kind =
      record {
        text = refl;
        ends = λ x. rw add-zero;
        kinds = refl;
        addresses = refl;
        marks = refl;
        places = refl;
        lines = λ n. same_counts (n + 0 + suc (length r.tokens)) (n + 0 + 1 + length r.tokens) r.rows (omega arith);
        kind_at = refl;
        head_at = refl;
        kind_free = λ h. refl;
        head_free = λ h. never h;
      }

  -- a token's end, with another behind it, or as the row's last
  token_end : Steps 3 2 TokenEnd c (add TokenEnd c r) r
  unfolding add
  token_end =
      record {
        text = refl;
        ends = λ x. rw add-zero;
        kinds = refl;
        addresses = refl;
        marks = refl;
        places = refl;
        lines = λ n. rw add-zero;
        kind_at = refl;
        head_at = refl;
        kind_free = λ h. never h;
        head_free = λ h. never h;
      }

  token_last : r.tokens ≡ [] → Steps 3 4 TokenEnd c (add TokenEnd c r) r
  unfolding add
  token_last e =
      record {
        text = rw e;
        ends = λ x. rw (add-zero, e);
        kinds = rw e;
        addresses = refl;
        marks = refl;
        places = refl;
        lines = λ n. rw e (same_counts (n + 1 + 0) (n + 1 + 0 + 0) r.rows (omega arith));
        kind_at = refl;
        head_at = refl;
        kind_free = λ h. never h;
        head_free = λ h. never h;
      }

  head : (h : Bool) (a x p : ℕ) → Steps 1 2 (Head h a x p) c (add (Head h a x p) c r) r
  unfolding add all_tokens token_counts
  head h a x p =
      record {
        text = refl;
        ends = λ y. rw add-zero;
        kinds = refl;
        addresses = refl;
        marks = refl;
        places = refl;
        lines = λ n. rw (add-zero, add-zero);
        kind_at = refl;
        head_at = refl;
        kind_free = λ h. never h;
        head_free = λ h. refl;
      }

  row_end_lem : Steps 4 0 RowEnd c (add RowEnd c r) r
  unfolding add
  row_end_lem =
      record {
        text = refl;
        ends = λ x. rw add-zero;
        kinds = refl;
        addresses = refl;
        marks = refl;
        places = refl;
        lines = λ n. rw (add-zero, add-zero);
        kind_at = refl;
        head_at = refl;
        kind_free = λ h. never h;
        head_free = λ h. never h;
      }

-- behind a row's last token there is no token of it
cr_none : (s : List ℕ) → (rest Cr s).tokens ≡ []
unfolding rest add
cr_none [] = refl
cr_none (c ∷ s) = refl

module _ (c : ℕ) (s : List ℕ) where
  abbrev Stepped : At → Type 0
  Stepped t = let r = rest (next t c) s in (add (effect t c) c r).ok ≡ true → Steps (stage t) (stage (next t c)) (effect t c) c (add (effect t c) c r) r

  address_steps : (n v q : ℕ) → ((t : At) → Steps q 1 Silent c (add Silent c (rest t s)) (rest t s)) → let t = after_hex n v c in
      (add Silent c (rest t s)).ok ≡ true → Steps q (stage t) Silent c (add Silent c (rest t s)) (rest t s)
  unfolding add
  address_steps n v q f o =
      split (ltb n 16)
      (λ e. split (is_hex c && ltb v (2 ^ 60)) (λ g. rw (e, g) (f _)) (λ g. is_bad s (rw (e, g) at o)))
      (λ e. split (eqb c 44) (λ g. rw (e, g) (f _)) (λ g. is_bad s (rw (e, g) at o)))

  pub steps : (t : At) → Stepped t
  unfolding add
  steps Start o = split (eqb c 44) (λ e. rw e (enter c _)) (λ e. rw e (address_steps 0 0 0 (λ t. enter c (rest t s)) (rw e at o)))
  steps (Hex n v) o = address_steps n v 1 (λ t. silent c (rest t s) 1) o
  steps (IndentStart h a) o = split (is_digit c) (λ e. rw e (silent c _ 1)) (λ e. is_bad s (rw e at o))
  steps (Indent h a x) o =
      split (eqb c 44)
      (λ e. rw e (silent c _ 1))
      (λ e. split (goes_on 254 x c) (λ g. rw (e, g) (silent c _ 1)) (λ g. is_bad s (rw (e, g) at o)))
  steps (PlaceStart h a x) o = split (is_digit c) (λ e. rw e (silent c _ 1)) (λ e. is_bad s (rw e at o))
  steps (Place h a x p) o =
      split (eqb c 44)
      (λ e. rw e (head c (rest Letter s) h a x p))
      (λ e. split (goes_on 65535 p c) (λ g. rw (e, g) (silent c _ 1)) (λ g. is_bad s (rw (e, g) at o)))
  steps Letter o = split (ltb (kind_of c) 8) (λ e. rw e (kind c (rest Comma s))) (λ e. is_bad s (rw e at o))
  steps Comma o = split (eqb c 44) (λ e. rw e (silent c _ 3)) (λ e. is_bad s (rw e at o))
  steps Quote o = split (eqb c 34) (λ e. rw e (silent c _ 3)) (λ e. is_bad s (rw e at o))
  steps Open o = split (eqb c 34) (λ e. rw e (silent c _ 3)) (λ e. rw e (byte c (rest Text s)))
  steps OpenQuote o = split (eqb c 34) (λ e. rw e (byte c (rest Text s))) (λ e. is_bad s (rw e at o))
  steps Text o = split (eqb c 34) (λ e. rw e (silent c _ 3)) (λ e. rw e (byte c (rest Text s)))
  steps TextQuote o =
      split (eqb c 34)
      (λ e. rw e (byte c (rest Text s)))
      (λ e. split (eqb c 44)
      (λ f. rw (e, f) (token_end c (rest Letter s)))
      (λ f. split (eqb c 13) (λ g. rw (e, f, g) (token_last c (rest Cr s) (cr_none s))) (λ g. is_bad s (rw (e, f, g) at o))))
  steps Cr o = split (eqb c 10) (λ e. rw e (row_end_lem c (rest Start s))) (λ e. is_bad s (rw e at o))
  steps Bad o = is_bad s o

-- a byte does not change whether it ends well
add_ok : (e : Effect) (c : ℕ) (r : Rest) → (add e c r).ok ≡ r.ok
unfolding add
add_ok Silent c r = refl
add_ok Byte c r = refl
add_ok Kind c r = refl
add_ok TokenEnd c r = refl
add_ok (Head h a x p) c r = refl
add_ok RowEnd c r = refl

pub ok_step : (t : At) (c : ℕ) (s : List ℕ) → (rest t (c ∷ s)).ok ≡ (rest (next t c) s).ok
unfolding rest
ok_step t c s = add_ok (effect t c) c (rest (next t c) s)
