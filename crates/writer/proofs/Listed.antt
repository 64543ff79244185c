-- Lines of tokens written from the start are their listing, and there is room for them where there is room for the listing.
-- What events leave is told by equations of lists and places (`Wrote`), which compose; a joined token is as one with the token before.
use mathlib.Core.Path.{◌≡◌, refl, sym, ap, ◌∙◌}
use mathlib.Core.Bool.{Bool, true, false}
use mathlib.Core.List.{List, [], ◌∷◌, ◌++◌, append-nil}
use mathlib.Core.Logic.{⊎_elim}
use Prim.Native.Nat.{ℕ, suc, ◌+◌, ◌-◌, ◌≤◌, ◌<◌}
use native.Mathlib.Numerals.{add-one}
use native.Mathlib.Nat.{add-zero, zero-add}
use native.Mathlib.Omega.{arith}
use lib.ListN.{length, length-append}
use lib.Seq.{set-set}
use Rattle.lists.specs.Choice.{pick}
use Rattle.lists.specs.Put.{put}
use Rattle.lists.specs.PutLaws.{put_append, put_none, put_cons}
use Rattle.tokens.specs.Token.{Token}
use Rattle.tokens.specs.Listing.{text_of, ends_from, kinds_of, glued, glue, run, join, all, counts_from, listing, bytes_of}
use Rattle.tokens.proofs.ListingLaws.{text_append, ends_append, kinds_append, ends_length, kinds_length, glued_kind, run_glued, run_apart, cases, all_bytes, lines_length}
use Rattle.codes.specs.Code.{Event, decode}
use Rattle.codes.specs.Code.Event.{tok, end}
use Rattle.codes.specs.Coded.{joins_last, fresh, marked}
use Rattle.codes.specs.Lines.{of_lines}
use Rattle.codes.proofs.LineFresh.{first_apart, join_fresh}
use Rattle.writer.specs.Written.{Page, page, start, behind, written, on_page, Room, Listed, Ready}
use Rattle.writer.specs.declared.write.Cursor.{Cursor}

-- what a page P has become, P': the tokens ts and the line ends ns more
pub record Wrote (P P' : Page) (ts : List Token) (ns : List ℕ) : Type 0 where
  pub text : P'.text ≡ put P.at.text (text_of ts) P.text
  pub ends : P'.ends ≡ put P.at.tokens (ends_from P.at.text ts) P.ends
  pub kinds : P'.kinds ≡ put P.at.tokens (kinds_of ts) P.kinds
  pub lines : P'.lines ≡ put P.at.lines ns P.lines
  pub bytes : P'.at.text ≡ P.at.text + length (text_of ts)
  pub count : P'.at.tokens ≡ P.at.tokens + length ts
  pub next : P'.at.lines ≡ P.at.lines + length ns

wrote_none : (P : Page) → Wrote P P [] []
unfolding text_of ends_from kinds_of
wrote_none P =
    record {
      text = sym (put_none _ _);
      ends = sym (put_none _ _);
      kinds = sym (put_none _ _);
      lines = sym (put_none _ _);
      bytes = sym (add-zero _);
      count = sym (add-zero _);
      next = sym (add-zero _);
    }

wrote_more : (P P₁ P₂ : Page) (s t : List Token) (m n : List ℕ) → Wrote P P₁ s m → Wrote P₁ P₂ t n → Wrote P P₂ (s ++ t) (m ++ n)
wrote_more P P₁ P₂ s t m n p q =
    record {
      text = q.text ∙ rw (p.bytes, p.text, text_append, put_append);
      ends = q.ends ∙ rw (p.bytes, p.count, p.ends, ends_append, put_append, ends_length);
      kinds = q.kinds ∙ rw (p.count, p.kinds, kinds_append, put_append, kinds_length);
      lines = q.lines ∙ rw (p.next, p.lines, put_append);
      bytes = q.bytes ∙ rw (p.bytes, text_append, length-append) (omega arith);
      count = q.count ∙ rw (p.count, length-append) (omega arith);
      next = q.next ∙ rw (p.next, length-append) (omega arith);
    }

-- a token that joins nothing, and the end of a line
wrote_one : (P : Page) (t : Token) → Wrote P (written P (tok false t)) (t ∷ []) []
unfolding written behind text_of ends_from kinds_of
wrote_one P t =
    record {
      text = rw append-nil;
      ends = rw (put_cons, put_none);
      kinds = rw (put_cons, put_none);
      lines = sym (put_none _ _);
      bytes = rw append-nil;
      count = sym (add-one _);
      next = sym (add-zero _);
    }

wrote_end : (P : Page) → Wrote P (written P end) [] (P.at.tokens ∷ [])
unfolding written behind text_of ends_from kinds_of
wrote_end P =
    record {
      text = sym (put_none _ _);
      ends = sym (put_none _ _);
      kinds = sym (put_none _ _);
      lines = rw (put_cons, put_none);
      bytes = sym (add-zero _);
      count = sym (add-zero _);
      next = sym (add-one _);
    }

-- a joined token is as one with the token before
written_glued : (P : Page) (t u : Token) → u.kind ≡ t.kind → written (written P (tok false t)) (tok true u) ≡ written P (tok false (glue t u))
unfolding written behind
written_glued P t u h =
    let n = P.at.tokens in
    let e : suc n - 1 ≡ n = omega arith in
    let d : P.at.text + length t.bytes + length u.bytes ≡ P.at.text + (length t.bytes + length u.bytes) = omega arith in
    rw (e, d, set-set, set-set, put_append, length-append, h)

page_none : (P : Page) → on_page P [] ≡ P
unfolding on_page
page_none P = refl

page_cons : (P : Page) (e : Event) (es : List Event) → on_page P (e ∷ es) ≡ on_page (written P e) es
unfolding on_page
page_cons P e es = refl

marked_cons : (k : ℕ) (j : Bool) (u : Token) (us : List Token) → joins_last k u.kind ≡ j → marked k (u ∷ us) ≡ tok j u ∷ marked u.kind us
unfolding marked
marked_cons k j u us h = rw h

-- the page of a line from its first token on, where the second is joined to it
page_glued : (P : Page) (t u : Token) (us : List Token) → glued t u ≡ true
    → on_page (written P (tok false t)) (marked t.kind (u ∷ us)) ≡ on_page (written P (tok false (glue t u))) (marked t.kind us)
page_glued P t u us h =
    ap (on_page (written P (tok false t))) (marked_cons t.kind true u us h) ∙ page_cons (written P (tok false t)) (tok true u) (marked u.kind us)
    ∙ ap (λ (Q : Page). on_page Q (marked u.kind us)) (written_glued P t u (glued_kind t u h))
    ∙ ap (λ (k : ℕ). on_page (written P (tok false (glue t u))) (marked k us)) (glued_kind t u h)

-- a line from its first token on
run_wrote : (P : Page) (t : Token) (ts : List Token) → Wrote P (on_page (written P (tok false t)) (marked t.kind ts)) (run t ts) []
unfolding on_page marked run
run_wrote P t [] = wrote_one P t
run_wrote P t (u ∷ us) =
    let Q = written P (tok false t) in
    ⊎_elim
    (λ h. rw (page_glued P t u us h, run_glued t u us h) (run_wrote P (glue t u) us))
    (λ h. rw (marked_cons t.kind false u us h, run_apart t u us h) (wrote_more P Q (on_page (written Q (tok false u)) (marked u.kind us)) (t ∷ []) (run u us) [] [] (wrote_one P t) (run_wrote Q u us)))
    (cases (glued t u))

line_wrote : (P : Page) (ts : List Token) → Wrote P (on_page P (marked 255 ts)) (join ts) []
unfolding on_page marked join
line_wrote P [] = wrote_none P
line_wrote P (t ∷ ts) = rw (marked_cons 255 false t ts (first_apart t.kind)) (run_wrote P t ts)

pub page_append : (P : Page) (a b : List Event) → on_page P (a ++ b) ≡ on_page (on_page P a) b
unfolding on_page
page_append P [] b = refl
page_append P (e ∷ a) b = page_append (written P e) a b

pub lines_wrote : (P : Page) (ls : List (List Token)) → Wrote P (on_page P (of_lines ls)) (all ls) (counts_from P.at.tokens ls)
unfolding of_lines all counts_from written behind
lines_wrote P [] = rw page_none (wrote_none P)
lines_wrote P (l ∷ ls) =
    let Q = on_page P (marked 255 l) in
    let w = line_wrote P l in
    let m = wrote_more Q (written Q end) (on_page (written Q end) (of_lines ls)) [] (all ls) (Q.at.tokens ∷ []) (counts_from Q.at.tokens ls) (wrote_end Q) (lines_wrote (written Q end) ls) in
    rw (page_append P (marked 255 l) (end ∷ of_lines ls), page_cons Q end (of_lines ls), ← w.count)
    (wrote_more P Q (on_page (written Q end) (of_lines ls)) (join l) (all ls) [] (Q.at.tokens ∷ counts_from Q.at.tokens ls) w m)

pub listed : (ls : List (List Token)) (x e k l : List ℕ) → Listed ls (page x e k l start) (on_page (page x e k l start) (of_lines ls))
unfolding listing
listed ls x e k l =
    let w = lines_wrote (page x e k l start) ls in
    record {
      text = w.text;
      ends = w.ends;
      kinds = w.kinds;
      lines = w.lines;
      bytes = w.bytes ∙ zero-add _;
      count = w.count ∙ zero-add _ ∙ sym (ends_length 0 (all ls));
      next = w.next ∙ zero-add _;
    }

one_at_most : (j : Bool) → pick j 1 0 ≤ 1
one_at_most true = omega arith
one_at_most false = omega arith

one_at_least : (j : Bool) (n : ℕ) → pick j 1 0 ≤ n → 1 ≤ n + pick j 0 1
one_at_least true n h = omega arith
one_at_least false n h = omega arith

-- room for x bytes, e and k tokens and l lines
module _ (x e k l : ℕ) where
  room_one : (j : Bool) (t : Token) (es : List Event) (p : Cursor) (n : ℕ) → pick j 1 0 ≤ p.tokens → n ≡ p.tokens + pick j 0 1
      → p.text + length t.bytes ≤ x → p.text + length t.bytes < 4294967296 → n ≤ e → n ≤ k
      → Room x e k l (record { text = p.text + length t.bytes; tokens = n; lines = p.lines }) es → Room x e k l p (tok j t ∷ es)
  unfolding behind
  room_one true t es p n a h b c d f r = let z : suc (p.tokens - 1) ≡ n = omega arith in ((b, c, omega arith, omega arith, a), rw z r)
  room_one false t es p n a h b c d f r = let z : suc p.tokens ≡ n = omega arith in ((b, c, omega arith, omega arith, a), rw z r)

  -- the tokens of a line, with X bytes and T tokens behind them
  room_marked : (last : ℕ) (ts : List Token) (es : List Event) (p : Cursor) (X T : ℕ) → ((i : ℕ) → pick (joins_last last i) 1 0 ≤ p.tokens)
      → X ≡ p.text + length (text_of ts) → T ≡ p.tokens + fresh last ts → X ≤ x → X < 4294967296 → T ≤ e → T ≤ k
      → Room x e k l (record { text = X; tokens = T; lines = p.lines }) es → Room x e k l p (marked last ts ++ es)
  unfolding marked fresh text_of
  room_marked last [] es p X T a u v b c d f r =
      let y : X ≡ p.text = omega arith in
      let z : T ≡ p.tokens = omega arith in
      rw (y, z) at r
  room_marked last (t ∷ ts) es p X T a u v b c d f r =
      let j = joins_last last t.kind in
      let m = length-append t.bytes (text_of ts) in
      let g = one_at_least j p.tokens (a t.kind) in
      let q : Cursor = record { text = p.text + length t.bytes; tokens = p.tokens + pick j 0 1; lines = p.lines } in
      room_one j t (marked t.kind ts ++ es) p (p.tokens + pick j 0 1) (a t.kind) refl (omega (arith, m)) (omega (arith, m)) (omega arith) (omega arith)
      (room_marked t.kind ts es q X T (λ i. omega (arith, g, one_at_most (joins_last t.kind i))) (omega (arith, m)) (omega arith) b c d f r)

  room_lines : (ls : List (List Token)) (p : Cursor) → p.text + bytes_of ls ≤ x → p.text + bytes_of ls < 4294967296
      → p.tokens + length (all ls) ≤ e → p.tokens + length (all ls) ≤ k → p.tokens + length (all ls) < 4294967296 → p.lines + length ls ≤ l
      → Room x e k l p (of_lines ls)
  unfolding of_lines bytes_of all behind
  room_lines [] p a b c d f g = tt
  room_lines (m ∷ ms) p a b c d f g =
      let h = join_fresh m in
      let u = length-append (join m) (all ms) in
      let q : Cursor = record { text = p.text + length (text_of m); tokens = p.tokens + fresh 255 m; lines = suc p.lines } in
      room_marked 255 m (end ∷ of_lines ms) p (p.text + length (text_of m)) (p.tokens + fresh 255 m) (λ i. rw (first_apart i) (omega arith)) refl refl
      (omega arith) (omega arith) (omega (arith, h, u)) (omega (arith, h, u))
      ((omega arith, omega (arith, h, u)), room_lines ms q (omega arith) (omega arith) (omega (arith, h, u)) (omega (arith, h, u)) (omega (arith, h, u)) (omega arith))

-- where the lists are as long as the listing's, there is room for its lines
pub room_listed : (ls : List (List Token)) (x e k l : List ℕ) → length (listing ls).text ≤ length x → length (listing ls).ends ≤ length e
    → length (listing ls).kinds ≤ length k → length (listing ls).lines ≤ length l → length (listing ls).text < 4294967296 → length (listing ls).ends < 4294967296
    → Room (length x) (length e) (length k) (length l) start (of_lines ls)
unfolding listing
room_listed ls x e k l a b c d f g =
    let m = all_bytes ls in
    let n = ends_length 0 (all ls) in
    let o = kinds_length (all ls) in
    let q = lines_length ls in
    room_lines (length x) (length e) (length k) (length l) ls start (omega (arith, m)) (omega (arith, m)) (omega (arith, n)) (omega (arith, o)) (omega (arith, n)) (omega (arith, q))

-- codes of lines that the lists have room for
pub ready_room : (t s c x e k l : List ℕ) → Ready t s c (length x) (length e) (length k) (length l) → Room (length x) (length e) (length k) (length l) start (decode t s c)
ready_room t s c x e k l r = rw r.codes (room_listed r.of x e k l r.text r.ends r.kinds r.lines r.small_text r.small_tokens)

pub codes_listed : (t s c x x' e e' k k' l l' : List ℕ) (r : Cursor) → page x' e' k' l' r ≡ on_page (page x e k l start) (decode t s c)
    → (ls : List (List Token)) → decode t s c ≡ of_lines ls → Listed ls (page x e k l start) (page x' e' k' l' r)
codes_listed t s c x x' e e' k k' l l' r p ls q = rw (p, q) (listed ls x e k l)
