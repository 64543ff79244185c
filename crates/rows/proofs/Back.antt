-- Lists that begin with those of rows hold these rows.
-- By induction along the tokens and along the rows; a list is known by what is left of it from an index on.
use mathlib.Core.Path.{◌≡◌, refl, sym, ap, ◌∙◌}
use mathlib.Core.Bool.{Bool, true, false, ◌&&◌, ◌||◌}
use mathlib.Core.List.{List, [], ◌∷◌, ◌++◌, map, append-nil}
use Prim.Native.Nat.{ℕ, zero, suc, ◌+◌, ◌≤◌, ◌<◌}
use native.Mathlib.Nat.{add-zero, zero-add}
use native.Mathlib.Omega.{arith}
use lib.Dec.{eqb, ltb, leb}
use lib.ListN.{length, drop, get_or, length-append, length-map}
use borrow.Author.Tests.{eq-eqb, ltb-true, lt-ltb, leb-true, le-leb, lt-leb}
use Rattle.lists.specs.Choice.{pick}
use Rattle.lists.specs.Every.{every, both_yes}
use Rattle.lists.specs.Below.{all_below_lem}
use Rattle.lists.specs.Entries.{tab}
use Rattle.tokens.specs.Token.{Token}
use Rattle.tokens.specs.Listing.{text_of, ends_from, kinds_of}
use Rattle.tokens.specs.Lines.{end_at, token_at}
use Rattle.tokens.proofs.Lines.{first, behind, tokens_back, line_first}
use Rattle.tokens.proofs.ListingLaws.{ends_length, kinds_length}
use Rattle.tokens.proofs.Fit.{fit_token, Fit, none, behind as fit-behind}
use Rattle.rows.specs.Lists.{Lists, lists_of, values_of, Leaves}
use Rattle.std.specs.declared.result.Result.{Result}
use Rattle.lists.specs.declared.question.Question.{Question}
use Rattle.rows.specs.declared.answer.Sizes.{Sizes}
use Rattle.rows.proofs.Listed.{values_are}
use Rattle.rows.specs.Rows.{Row, is_addressed, indent_of, row_at, rows_in, all_tokens, token_counts, mark_of, row_lists, token_held, row_held, sizes_within, holds_rows}

-- as many as there are rows
pub counts_length : (n : ℕ) (rs : List Row) → length (token_counts n rs) ≡ length rs
unfolding token_counts
counts_length n [] = refl
counts_length n (r ∷ rs) = ap suc (counts_length (n + length r.tokens) rs)

-- ---- the rows that lists can hold: a token is not empty and of a kind below 8, a row has tokens, an indent up to 254, and address 0 if none
abbrev pub fit_row : Row → Bool
fit_row r = ltb 0 (length r.tokens) && leb r.indent 254 && (r.addressed || eqb r.address 0) && every fit_token r.tokens

record FitRow (r : Row) : Type 0 where
  pub tokens : 0 < length r.tokens
  pub indent : leb r.indent 254 ≡ true
  pub address : (r.addressed || eqb r.address 0) ≡ true
  pub each : Fit r.tokens

fit : (r : Row) → fit_row r ≡ true → FitRow r
fit r h =
    let t = ltb 0 (length r.tokens) in
    let d = leb r.indent 254 in
    let a = r.addressed || eqb r.address 0 in
    let f = both_yes (t && d && a) (every fit_token r.tokens) h in
    let g = both_yes (t && d) a f.0 in
    let k = both_yes t d g.0 in
    record { tokens = ltb-true 0 (length r.tokens) k.0; indent = k.1; address = g.1; each = record { each = f.1 } }

all_fit : (rs : List Row) → every fit_row rs ≡ true → Fit (all_tokens rs)
unfolding all_tokens
all_fit [] h = none
all_fit (r ∷ rs) h =
    let f = both_yes (fit_row r) (every fit_row rs) h in
    fit-behind (fit r f.0).each (all_fit rs f.1)

-- ---- a mark is told apart
mark_back : (h : Bool) (d : ℕ) → d ≤ 254 → let m = pick h (d + 256) d in (is_addressed m ≡ h) × (indent_of m ≡ d) × (m < 512)
mark_back true d l = (le-leb 256 (d + 256) (omega arith), omega arith, omega arith)
mark_back false d l = (lt-leb 256 d (omega arith), omega arith, omega arith)

-- ---- lists whose first entries are those of rows
pub record Begins (rs : List Row) (l : Lists) : Type 0 where
  pub past : Lists
  pub text : l.text ≡ (row_lists rs).text ++ past.text
  pub ends : l.ends ≡ (row_lists rs).ends ++ past.ends
  pub kinds : l.kinds ≡ (row_lists rs).kinds ++ past.kinds
  pub addresses : l.addresses ≡ (row_lists rs).addresses ++ past.addresses
  pub marks : l.marks ≡ (row_lists rs).marks ++ past.marks
  pub places : l.places ≡ (row_lists rs).places ++ past.places
  pub lines : l.lines ≡ (row_lists rs).lines ++ past.lines

-- nothing lies past the lists of the rows themselves
pub begins_alone : (rs : List Row) → Begins rs (row_lists rs)
begins_alone rs =
    let l = row_lists rs in
    record {
      past = lists_of [] [] [] [] [] [] [];
      text = sym (append-nil l.text);
      ends = sym (append-nil l.ends);
      kinds = sym (append-nil l.kinds);
      addresses = sym (append-nil l.addresses);
      marks = sym (append-nil l.marks);
      places = sym (append-nil l.places);
      lines = sym (append-nil l.lines);
    }

module _ (l : Lists) where
  abbrev token_at_lem : ℕ → Token
  token_at_lem = token_at l.text l.ends l.kinds

  -- the rows from index i on, n tokens before them; p is what lies past them
  record From (rs : List Row) (i n : ℕ) (p : Lists) : Type 0 where
    pub at : end_at l.lines i ≡ n
    pub addresses : drop i l.addresses ≡ map (λ (r : Row). r.address) rs ++ p.addresses
    pub marks : drop i l.marks ≡ map mark_of rs ++ p.marks
    pub places : drop i l.places ≡ map (λ (r : Row). r.place) rs ++ p.places
    pub lines : drop i l.lines ≡ token_counts n rs ++ p.lines

  module _ (r : Row) (rs : List Row) (i n : ℕ) (p : Lists) (f : From (r ∷ rs) i n p) where
    abbrev k : ℕ
    k = n + length r.tokens

    line_at : get_or l.lines i 0 ≡ k
    unfolding token_counts
    line_at = first l.lines i k (token_counts k rs ++ p.lines) f.lines

    mark_at : get_or l.marks i 0 ≡ mark_of r
    mark_at = first l.marks i (mark_of r) (map mark_of rs ++ p.marks) f.marks

    address_at_lem : get_or l.addresses i 0 ≡ r.address
    address_at_lem = first l.addresses i r.address _ f.addresses

    place_at : get_or l.places i 0 ≡ r.place
    place_at = first l.places i r.place _ f.places

    from_next : From rs (suc i) k p
    unfolding token_counts
    from_next =
        record {
          at = line_at;
          addresses = behind l.addresses i r.address _ f.addresses;
          marks = behind l.marks i (mark_of r) _ f.marks;
          places = behind l.places i r.place _ f.places;
          lines = behind l.lines i k _ f.lines;
        }

  rows_left : (rs : List Row) (i n : ℕ) (p : Lists) → every fit_row rs ≡ true → From rs i n p → tab token_at_lem n (length (all_tokens rs)) ≡ all_tokens rs
      → tab (row_at l) i (length rs) ≡ rs
  unfolding all_tokens row_at
  rows_left [] i n p g f t = refl
  rows_left (r ∷ rs) i n p g f t =
      let b = both_yes (fit_row r) (every fit_row rs) g in
      let h = line_first l.text l.ends l.kinds l.lines r.tokens (all_tokens rs) i n f.at (line_at r rs i n p f) t in
      let m = mark_back r.addressed r.indent (leb-true r.indent 254 (fit r b.0).indent) in
      let e : row_at l i ≡ r = rw (mark_at r rs i n p f, address_at_lem r rs i n p f, place_at r rs i n p f, h.0, m.0, m.1) in
      rw (e, rows_left rs (suc i) (n + length r.tokens) p b.1 (from_next r rs i n p f) h.1)

  row_held_lem : (rs : List Row) (i n : ℕ) (p : Lists) → every fit_row rs ≡ true → From rs i n p → (j : ℕ) → j < length rs → row_held l (i + j) ≡ true
  unfolding row_held
  row_held_lem [] i n p g f j b = absurd (omega arith)
  row_held_lem (r ∷ rs) i n p g f zero b =
      let z = fit r (both_yes (fit_row r) (every fit_row rs) g).0 in
      let k = n + length r.tokens in
      let m = mark_back r.addressed r.indent (leb-true r.indent 254 z.indent) in
      rw (add-zero, f.at, line_at r rs i n p f, mark_at r rs i n p f, address_at_lem r rs i n p f, lt-ltb n k (omega (arith, z.tokens)), m.0, m.1, lt-ltb (mark_of r) 512 m.2, z.indent, z.address)
  row_held_lem (r ∷ rs) i n p g f (suc j) b =
      let d : suc i + j ≡ i + suc j = omega arith in
      rw d at (row_held_lem rs (suc i) (n + length r.tokens) p (both_yes (fit_row r) (every fit_row rs) g).1 (from_next r rs i n p f) j (omega arith))

  line_last : (rs : List Row) (i n : ℕ) (p : Lists) → From rs i n p → end_at l.lines (i + length rs) ≡ n + length (all_tokens rs)
  unfolding all_tokens
  line_last [] i n p f = rw (add-zero, add-zero, f.at)
  line_last (r ∷ rs) i n p f =
      let d : suc i + length rs ≡ i + suc (length rs) = omega arith in
      rw d at (line_last rs (suc i) (n + length r.tokens) p (from_next r rs i n p f)) ∙ rw length-append (omega arith)

  token_held_lem : (ts : List Token) (j x : ℕ) (v w : List ℕ) → end_at l.ends j ≡ x → drop j l.ends ≡ ends_from x ts ++ v → drop j l.kinds ≡ kinds_of ts ++ w
      → every fit_token ts ≡ true → (i : ℕ) → i < length ts → token_held l (j + i) ≡ true
  unfolding ends_from kinds_of token_held
  token_held_lem [] j x v w e q r g i b = absurd (omega arith)
  token_held_lem (t ∷ ts) j x v w e q r g zero b =
      let y = x + length t.bytes in
      let f = both_yes (fit_token t) (every fit_token ts) g in
      let f' = both_yes (ltb 0 (length t.bytes)) (ltb t.kind 8) f.0 in
      let a : get_or l.ends j 0 ≡ y = first l.ends j y (ends_from y ts ++ v) q in
      let k : get_or l.kinds j 0 ≡ t.kind = first l.kinds j t.kind (kinds_of ts ++ w) r in
      rw (add-zero, a, k, e, lt-ltb x y (omega (arith, ltb-true 0 (length t.bytes) f'.0)), f'.1)
  token_held_lem (t ∷ ts) j x v w e q r g (suc i) b =
      let y = x + length t.bytes in
      let d : suc j + i ≡ j + suc i = omega arith in
      let f = both_yes (fit_token t) (every fit_token ts) g in
      rw d at (token_held_lem ts (suc j) y v w (first l.ends j y (ends_from y ts ++ v) q) (behind l.ends j y (ends_from y ts ++ v) q) (behind l.kinds j t.kind (kinds_of ts ++ w) r) f.1 i (omega arith))

  token_last : (ts : List Token) (j x : ℕ) (v : List ℕ) → end_at l.ends j ≡ x → drop j l.ends ≡ ends_from x ts ++ v → end_at l.ends (j + length ts) ≡ x + length (text_of ts)
  unfolding ends_from text_of
  token_last [] j x v e q = rw (add-zero, add-zero, e)
  token_last (t ∷ ts) j x v e q =
      let y = x + length t.bytes in
      let d : suc j + length ts ≡ j + suc (length ts) = omega arith in
      rw d at (token_last ts (suc j) y v (first l.ends j y (ends_from y ts ++ v) q) (behind l.ends j y (ends_from y ts ++ v) q)) ∙ rw length-append (omega arith)

-- ---- the whole
module _ (rs : List Row) (l : Lists) (b : Begins rs l) (g : every fit_row rs ≡ true) where
  from_first : From l rs 0 0 b.past
  unfolding row_lists
  from_first = record { at = refl; addresses = b.addresses; marks = b.marks; places = b.places; lines = b.lines }

  pub rows_back : rows_in l (length rs) ≡ rs
  unfolding rows_in row_lists
  rows_back =
      rows_left l rs 0 0 b.past g from_first
      (tokens_back l.text l.ends l.kinds (all_tokens rs) 0 0 b.past.text b.past.ends b.past.kinds refl b.text b.ends b.kinds)

  pub rows_hold : holds_rows l (length (text_of (all_tokens rs))) (length (all_tokens rs)) (length rs) ≡ true
  unfolding holds_rows sizes_within row_lists
  rows_hold =
      let ts = all_tokens rs in
      let x = length (text_of ts) in
      let n = length ts in
      let m = length rs in
      rw (
        le-leb x (length l.text) (rw (b.text, length-append) (omega arith)),
        le-leb n (length l.ends) (rw (b.ends, length-append, ends_length) (omega arith)),
        le-leb n (length l.kinds) (rw (b.kinds, length-append, kinds_length) (omega arith)),
        le-leb m (length l.addresses) (rw (b.addresses, length-append, length-map) (omega arith)),
        le-leb m (length l.marks) (rw (b.marks, length-append, length-map) (omega arith)),
        le-leb m (length l.places) (rw (b.places, length-append, length-map) (omega arith)),
        le-leb m (length l.lines) (rw (b.lines, length-append, counts_length) (omega arith)),
        eq-eqb (end_at l.ends n) x (rw zero-add at (token_last l ts 0 0 b.past.ends refl b.ends) ∙ zero-add x),
        eq-eqb (end_at l.lines m) n (rw zero-add at (line_last l rs 0 0 b.past from_first) ∙ zero-add n),
        all_below_lem (token_held l) n (λ j h. rw zero-add at (token_held_lem l ts 0 0 b.past.ends b.past.kinds refl b.ends b.kinds (all_fit rs g).each j h)),
        all_below_lem (row_held l) m (λ i h. rw zero-add at (row_held_lem l rs 0 0 b.past g from_first i h)),
      )

-- what a call leaves that answers 0: the lists hold the rows whose lists they got
begins : (rs : List Row) (b a : Lists) (r : Result Sizes Question) → Leaves 0 (row_lists rs) b a r → Begins rs a
begins rs b a r v =
    let n = row_lists rs in
    record {
      past = lists_of (drop (length n.text) b.text) (drop (length n.ends) b.ends) (drop (length n.kinds) b.kinds)
          (drop (length n.addresses) b.addresses) (drop (length n.marks) b.marks) (drop (length n.places) b.places) (drop (length n.lines) b.lines);
      text = v.text;
      ends = v.ends;
      kinds = v.kinds;
      addresses = v.addresses;
      marks = v.marks;
      places = v.places;
      lines = v.lines;
    }

pub leaves_rows : (rs : List Row) (b a : Lists) (r : Result Sizes Question) → Leaves 0 (row_lists rs) b a r → every fit_row rs ≡ true
    → (holds_rows a (values_of r).text (values_of r).tokens (values_of r).lines ≡ true) × (rows_in a (values_of r).lines ≡ rs)
unfolding row_lists
leaves_rows rs b a r v g =
    let begun = begins rs b a r v in
    rw (values_are _ r v.answer, ends_length, length-map) (rows_hold rs a begun g, rows_back rs a begun g)
