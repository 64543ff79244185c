-- The reader's two passes: what holds at index i, and one turn of their loops.
-- What is counted or stored, and what is left, is what will be counted or stored in the end.
use mathlib.Core.Path.{◌≡◌, refl, sym, ap, ◌∙◌}
use mathlib.Core.Bool.{Bool, true, false}
use mathlib.Core.List.{List, [], ◌∷◌}
use Prim.Native.Nat.{ℕ, suc, ◌+◌, ◌≤◌, ◌<◌}
use native.Mathlib.Nat.{add-zero, zero-add}
use native.Mathlib.Numerals.{add-one}
use native.Mathlib.Omega.{arith}
use lib.Dec.{eqb}
use lib.ListN.{length, drop, get_or, set, drop_of_length-le, length-map}
use lib.Seq.{drop-cons}
use Rattle.lists.specs.Choice.{pick}
use Rattle.lists.specs.Put.{put}
use Rattle.lists.specs.PutLaws.{put_cons, put_none, put_length}
use Rattle.tokens.specs.Listing.{text_of, ends_from, kinds_of}
use Rattle.rows.specs.Lists.{Lists, lists_of, Stands}
use Rattle.rows.specs.Rows.{Row, all_tokens, token_counts, row_lists}
use Rattle.rows.specs.declared.answer.Sizes.{Sizes}
use Rattle.std.specs.Prelude.{Some, None}
use Rattle.rows.proofs.Back.{counts_length}
use Rattle.csv_rows.specs.Reading.{kind_of, next, stage, is_start, effect, rest, is_rows, rows_read}
use Rattle.csv_rows.specs.Filling.{number, address_in, mark_in, place_in, one, sizes_read, counted}
use Rattle.csv_rows.specs.declared.machine.At.{At}
use Rattle.csv_rows.specs.declared.machine.At.TheVariants.{Start}
use Rattle.csv_rows.specs.declared.machine.Effect.{Effect}
use Rattle.csv_rows.specs.declared.machine.Effect.TheVariants.{Silent, Byte, Kind, TokenEnd, Head, RowEnd}
use Rattle.csv_rows.proofs.Sound.{only_start}
use Rattle.csv_rows.proofs.Steps.{in_token, begun, text_left, ends_left, kinds_left, addresses_left, marks_left, places_left, lines_left, steps, ok_step}

-- ---- a store by a test: o is left to store before it, u behind it, and r is what the list l will be
put_if : (f : Bool) (x v : ℕ) (o u l r : List ℕ) → o ≡ pick f (v ∷ u) u → put x o l ≡ r → put (x + one f) u (pick f (set l x v) l) ≡ r
put_if true x v o u l r e h = sym (put_cons x v u l) ∙ rw e at h
put_if false x v o u l r e h = rw add-zero (rw e at h)

-- the same where d more may be stored already, but not if the test passes
put_at : (f : Bool) (i d j v : ℕ) (o u l r : List ℕ) → (f ≡ true → d ≡ 0) → j ≡ i + d + one f → o ≡ pick f (v ∷ u) u → put (i + d) o l ≡ r
    → put j u (pick f (set l i v) l) ≡ r
put_at true i d j v o u l r z q e h = let y = z refl in rw (q, y, add-zero) (sym (put_cons i v u l) ∙ rw (e, y, add-zero) at h)
put_at false i d j v o u l r z q e h = rw (q, add-zero) (rw e at h)

-- and of a count
length_if : (f : Bool) (x v r : ℕ) (o u : List ℕ) → o ≡ pick f (v ∷ u) u → x + length o ≡ r → x + one f + length u ≡ r
length_if true x v r o u e h = omega (arith, ap length e, h)
length_if false x v r o u e h = omega (arith, ap length e, h)

one_le : (t : Bool) → one t ≤ 1
one_le true = omega arith
one_le false = omega arith

-- ---- how much there will be: x bytes, n tokens and l rows are there
pub record Sized (t : At) (s : List ℕ) (x n l : ℕ) (z : Sizes) : Type 0 where
  pub text : x + length (text_left (stage t) (rest t s)) ≡ z.text
  pub tokens : n + length (ends_left (stage t) x (rest t s)) ≡ z.tokens
  pub lines : l + length (lines_left (stage t) n (rest t s)) ≡ z.lines

-- ---- what the lists b will be
pub record Left (t : At) (s : List ℕ) (x n l : ℕ) (b a : Lists) : Type 0 where
  pub text : put x (text_left (stage t) (rest t s)) b.text ≡ a.text
  pub ends : put n (ends_left (stage t) x (rest t s)) b.ends ≡ a.ends
  pub kinds : put (n + one (in_token (stage t))) (kinds_left (stage t) (rest t s)) b.kinds ≡ a.kinds
  pub addresses : put (l + one (begun (stage t))) (addresses_left (rest t s)) b.addresses ≡ a.addresses
  pub marks : put (l + one (begun (stage t))) (marks_left (rest t s)) b.marks ≡ a.marks
  pub places : put (l + one (begun (stage t))) (places_left (rest t s)) b.places ≡ a.places
  pub lines : put l (lines_left (stage t) n (rest t s)) b.lines ≡ a.lines

-- what a byte c with effect e leaves of the lists b
abbrev stored : Effect → (c x n l : ℕ) → Lists → Lists
stored e c x n l b =
    lists_of (pick (eqb (number e) 1) (set b.text x c) b.text) (pick (eqb (number e) 3) (set b.ends n x) b.ends)
    (pick (eqb (number e) 2) (set b.kinds n (kind_of c)) b.kinds) (pick (eqb (number e) 4) (set b.addresses l (address_in e)) b.addresses)
    (pick (eqb (number e) 4) (set b.marks l (mark_in e)) b.marks) (pick (eqb (number e) 4) (set b.places l (place_in e)) b.places)
    (pick (eqb (number e) 5) (set b.lines l n) b.lines)

module _ (t : At) (c : ℕ) (s : List ℕ) (x n l : ℕ) (o : (rest t (c ∷ s)).ok ≡ true) where
  abbrev is : ℕ → Bool
  is k = eqb (number (effect t c)) k

  sized_turn : (z : Sizes) → Sized t (c ∷ s) x n l z → Sized (next t c) s (x + one (is 1)) (n + one (is 3)) (l + one (is 5)) z
  unfolding rest
  sized_turn z w =
      let st = steps c s t o in
      record {
        text = length_if (is 1) x c _ _ _ st.text w.text;
        tokens = length_if (is 3) n x _ _ _ (st.ends x) w.tokens;
        lines = length_if (is 5) l n _ _ _ (st.lines n) w.lines;
      }

  left_turn : (b a : Lists) → Left t (c ∷ s) x n l b a → Left (next t c) s (x + one (is 1)) (n + one (is 3)) (l + one (is 5)) (stored (effect t c) c x n l b) a
  unfolding rest
  left_turn b a w =
      let st = steps c s t o in
      let e = effect t c in
      let k : n + one (is 3) + one (in_token (stage (next t c))) ≡ n + one (in_token (stage t)) + one (is 2) = omega (arith, st.kind_at) in
      let d : l + one (is 5) + one (begun (stage (next t c))) ≡ l + one (begun (stage t)) + one (is 4) = omega (arith, st.head_at) in
      record {
        text = put_if (is 1) x c _ _ _ _ st.text w.text;
        ends = put_if (is 3) n x _ _ _ _ (st.ends x) w.ends;
        kinds = put_at (is 2) n _ _ (kind_of c) _ _ _ _ st.kind_free k st.kinds w.kinds;
        addresses = put_at (is 4) l _ _ (address_in e) _ _ _ _ st.head_free d st.addresses w.addresses;
        marks = put_at (is 4) l _ _ (mark_in e) _ _ _ _ st.head_free d st.marks w.marks;
        places = put_at (is 4) l _ _ (place_in e) _ _ _ _ st.head_free d st.places w.places;
        lines = put_if (is 5) l n _ _ _ _ (st.lines n) w.lines;
      }

-- ---- from the first byte to the last
sized_end : (t : At) (x n l : ℕ) (z : Sizes) → is_start t ≡ true → Sized t [] x n l z → record { text = x; tokens = n; lines = l } ≡ z
unfolding rest text_of ends_from all_tokens token_counts
sized_end t x n l z h w =
    let v : Sized Start [] x n l z = rw (only_start t h) at w in
    let a : x ≡ z.text = sym (add-zero x) ∙ v.text in
    let b : n ≡ z.tokens = sym (add-zero n) ∙ v.tokens in
    let c : l ≡ z.lines = sym (add-zero l) ∙ v.lines in
    rw (a, b, c)

-- the lists b with those of rows stored in them
abbrev pub filled : List Row → Lists → Lists
filled rs b =
    let n = row_lists rs in
    lists_of (put 0 n.text b.text) (put 0 n.ends b.ends) (put 0 n.kinds b.kinds)
    (put 0 n.addresses b.addresses) (put 0 n.marks b.marks) (put 0 n.places b.places) (put 0 n.lines b.lines)

left_end : (t : At) (x n l : ℕ) (rs : List Row) (b₀ b : Lists) → is_start t ≡ true → Left t [] x n l b (filled rs b₀) → Stands (row_lists rs) b₀ b
unfolding rest text_of ends_from kinds_of all_tokens token_counts
left_end t x n l rs b₀ b h w =
    let v : Left Start [] x n l b (filled rs b₀) = rw (only_start t h) at w in
    record {
      text = sym (put_none x b.text) ∙ v.text;
      ends = sym (put_none n b.ends) ∙ v.ends;
      kinds = sym (put_none (n + 0) b.kinds) ∙ v.kinds;
      addresses = sym (put_none (l + 0) b.addresses) ∙ v.addresses;
      marks = sym (put_none (l + 0) b.marks) ∙ v.marks;
      places = sym (put_none (l + 0) b.places) ∙ v.places;
      lines = sym (put_none l b.lines) ∙ v.lines;
    }

-- ---- the pass that counts
pub record Scan (s : List ℕ) (i : ℕ) (t : At) (x n l : ℕ) : Type 0 where
  pub within : i ≤ length s
  pub text_low : x ≤ i
  pub tokens_low : n ≤ i
  pub lines_low : l ≤ i
  pub ok : (rest t (drop i s)).ok ≡ is_rows s
  pub sized : is_rows s ≡ true → Sized t (drop i s) x n l (sizes_read s)

pub scan_start : (s : List ℕ) → Scan s 0 Start 0 0 0
unfolding row_lists
scan_start s =
    record {
      within = omega arith;
      text_low = omega arith;
      tokens_low = omega arith;
      lines_low = omega arith;
      ok = refl;
      sized = λ h. record { text = zero-add _; tokens = zero-add _; lines = zero-add _ ∙ counts_length 0 (rows_read s) ∙ sym (length-map (rows_read s) (λ (w : Row). w.address)) };
    }

module _ {s : List ℕ} {i : ℕ} {t : At} {x n l : ℕ} (z : Scan s i t x n l) where
  abbrev c : ℕ
  c = get_or s i 0

  abbrev k : ℕ
  k = number (effect t c)

  scan_turn : i < length s → Scan s (i + 1) (next t c) (x + one (eqb k 1)) (n + one (eqb k 3)) (l + one (eqb k 5))
  scan_turn h =
      let d : drop i s ≡ c ∷ drop (suc i) s = drop-cons s i 0 h in
      let o : (rest t (c ∷ drop (suc i) s)).ok ≡ is_rows s = rw d at z.ok in
      record {
        within = omega arith;
        text_low = omega (arith, z.text_low, one_le (eqb k 1));
        tokens_low = omega (arith, z.tokens_low, one_le (eqb k 3));
        lines_low = omega (arith, z.lines_low, one_le (eqb k 5));
        ok = rw add-one (sym (ok_step t c (drop (suc i) s)) ∙ o);
        sized = λ r. rw add-one (sized_turn t c (drop (suc i) s) x n l (o ∙ r) (sizes_read s) (rw d at (z.sized r)));
      }

  module _ (h : length s ≤ i) where
    ends_as : is_start t ≡ is_rows s
    unfolding rest
    ends_as = let d : drop i s ≡ [] = drop_of_length-le s h in rw d at z.ok

    pub scan_end : is_start t ≡ true → Some (record { text = x; tokens = n; lines = l }) ≡ counted s
    unfolding rest
    scan_end e =
        let d : drop i s ≡ [] = drop_of_length-le s h in
        let o : is_rows s ≡ true = sym ends_as ∙ e in
        rw (o, ← sized_end t x n l (sizes_read s) e (rw d at (z.sized o)))

    pub scan_none : is_start t ≡ false → None ≡ counted s
    scan_none e = rw (sym ends_as ∙ e)

-- ---- the pass that stores
-- to store what is left in the lists b is to store all in the lists b₀
pub record Storing (s : List ℕ) (i : ℕ) (t : At) (x n l : ℕ) (b₀ b : Lists) : Type 0 where
  pub all : Left t (drop i s) x n l b (filled (rows_read s) b₀)

pub storing_start : (s : List ℕ) (b : Lists) → Storing s 0 Start 0 0 0 b b
unfolding row_lists
storing_start s b = record { all = record { text = refl; ends = refl; kinds = refl; addresses = refl; marks = refl; places = refl; lines = refl } }

module _ {s : List ℕ} {i : ℕ} {t : At} {x n l : ℕ} {b₀ b : Lists} (r : is_rows s ≡ true) (z : Scan s i t x n l) (y : Storing s i t x n l b₀ b) where
  storing_turn : i < length s → let c = get_or s i 0 in let k = number (effect t c) in
      Left (next t c) (drop (i + 1) s) (x + one (eqb k 1)) (n + one (eqb k 3)) (l + one (eqb k 5)) (stored (effect t c) c x n l b) (filled (rows_read s) b₀)
  storing_turn h =
      let c = get_or s i 0 in
      let d : drop i s ≡ c ∷ drop (suc i) s = drop-cons s i 0 h in
      let o : (rest t (c ∷ drop (suc i) s)).ok ≡ is_rows s = rw d at z.ok in
      rw add-one (left_turn t c (drop (suc i) s) x n l (o ∙ r) b _ (rw d at y.all))

  pub storing_end : length s ≤ i → Stands (row_lists (rows_read s)) b₀ b
  unfolding rest
  storing_end h =
      let d : drop i s ≡ [] = drop_of_length-le s h in
      let o : is_start t ≡ is_rows s = rw d at z.ok in
      left_end t x n l (rows_read s) b₀ b (o ∙ r) (rw d at y.all)

-- no list changes its length
pub record SameLengths (b a : Lists) : Type 0 where
  pub text : length a.text ≡ length b.text
  pub ends : length a.ends ≡ length b.ends
  pub kinds : length a.kinds ≡ length b.kinds
  pub addresses : length a.addresses ≡ length b.addresses
  pub marks : length a.marks ≡ length b.marks
  pub places : length a.places ≡ length b.places
  pub lines : length a.lines ≡ length b.lines

pub same_lengths : {new b a : Lists} → Stands new b a → SameLengths b a
same_lengths f =
    record {
      text = ap length f.text ∙ put_length _ _ _;
      ends = ap length f.ends ∙ put_length _ _ _;
      kinds = ap length f.kinds ∙ put_length _ _ _;
      addresses = ap length f.addresses ∙ put_length _ _ _;
      marks = ap length f.marks ∙ put_length _ _ _;
      places = ap length f.places ∙ put_length _ _ _;
      lines = ap length f.lines ∙ put_length _ _ _;
    }

pub same_lists : (a b : Lists) → a.text ≡ b.text → a.ends ≡ b.ends → a.kinds ≡ b.kinds → a.addresses ≡ b.addresses → a.marks ≡ b.marks
    → a.places ≡ b.places → a.lines ≡ b.lines → a ≡ b
same_lists a b x e k d m p l =
    let z : lists_of a.text a.ends a.kinds a.addresses a.marks a.places a.lines
    ≡ lists_of b.text b.ends b.kinds b.addresses b.marks b.places b.lines = rw (x, e, k, d, m, p, l) in
    z

-- ---- a turn as the code makes it, by the effect: each call's answer as a variable, with what the call ensures of it
module _ {s : List ℕ} {i : ℕ} {t t' : At} {x n l x' n' l' : ℕ} (z : Scan s i t x n l) (h : i < length s) (e : Effect) (pe : e ≡ effect t (get_or s i 0))
    (px : x' ≡ x + one (eqb (number e) 1)) (pn : n' ≡ n + one (eqb (number e) 3)) (pl : l' ≡ l + one (eqb (number e) 5)) (pt : t' ≡ next t (get_or s i 0)) where
  pub count_turn : Scan s (i + 1) t' x' n' l'
  count_turn = rw (pt, pl, pn, px, pe) (scan_turn z h)

  store_turn : {b₀ b b' : Lists} → is_rows s ≡ true → Storing s i t x n l b₀ b → b' ≡ stored e (get_or s i 0) x n l b → Storing s (i + 1) t' x' n' l' b₀ b'
  store_turn r y p = rw (pt, pl, pn, px, p, pe) (record { all = storing_turn r z y h })

  -- with each list by itself
  pub lists_turn : {b₀ b b' : Lists} → is_rows s ≡ true → Storing s i t x n l b₀ b → let w = stored e (get_or s i 0) x n l b in
      b'.text ≡ w.text → b'.ends ≡ w.ends → b'.kinds ≡ w.kinds → b'.addresses ≡ w.addresses → b'.marks ≡ w.marks → b'.places ≡ w.places → b'.lines ≡ w.lines
      → Scan s (i + 1) t' x' n' l' × Storing s (i + 1) t' x' n' l' b₀ b'
  lists_turn {b = b} {b' = b'} r y d f k a m p q = (count_turn, store_turn r y (same_lists b' (stored e (get_or s i 0) x n l b) d f k a m p q))

-- an effect that counts nothing
uncounted : (e : Effect) → (e ≡ Byte → ⊥) → (e ≡ TokenEnd → ⊥) → (e ≡ RowEnd → ⊥)
    → (one (eqb (number e) 1) ≡ 0) × (one (eqb (number e) 3) ≡ 0) × (one (eqb (number e) 5) ≡ 0)
uncounted Silent a b c = (refl, refl, refl)
uncounted Byte a b c = absurd (a refl)
uncounted Kind a b c = (refl, refl, refl)
uncounted TokenEnd a b c = absurd (b refl)
uncounted (Head h x d p) a b c = (refl, refl, refl)
uncounted RowEnd a b c = absurd (c refl)

pub other_turn : {s : List ℕ} {i : ℕ} {t t' : At} {x n l x' n' l' : ℕ} → Scan s i t x n l → i < length s → (e : Effect) → e ≡ effect t (get_or s i 0)
    → (e ≡ Byte → ⊥) → (e ≡ TokenEnd → ⊥) → (e ≡ RowEnd → ⊥) → x' ≡ x → n' ≡ n → l' ≡ l → t' ≡ next t (get_or s i 0) → Scan s (i + 1) t' x' n' l'
other_turn z h e pe a b c px pn pl pt =
    let u = uncounted e a b c in
    count_turn z h e pe (omega (arith, px, u.0)) (omega (arith, pn, u.1)) (omega (arith, pl, u.2)) pt
