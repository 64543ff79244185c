-- The laws by which coders of lines compose: no line, one line with its end, and lines behind lines.
-- At the start of a line no token counts as Text and none joins what is before; what lines count, and the codes they have, are sums along the list.
use Rattle.std.proofs.Common.{◌≡◌, ℕ, ◌+◌, ◌*◌, ◌<◌, ◌≤◌, true, false, List, [], ◌∷◌, ◌++◌, length, get_or, take, sym, refl, ap, ◌∙◌, append_assoc, append-nil, arith, length-append, length-drop, take_at, w64, Fits}
use Rattle.lists.specs.Put.{put}
use Rattle.lists.specs.PutLaws.{put_none, put_append, put_fits}
use Rattle.tokens.specs.Token.{Token}
use Rattle.tokens.specs.Listing.{text_of, join, all, bytes_of, pushes_of}
use Rattle.codes.specs.Code.{Event, code_of, line_end, all_in_table, decode}
use Rattle.codes.specs.Code.Event.{end}
use Rattle.codes.specs.Coded.{counted, fresh, marked, count_in, is_plain, codes_in, Coded, Ended, Started}
use Rattle.codes.specs.Lines.{of_lines, AtLine, CodedLines}
use Rattle.codes.proofs.Coding.{wrap_more}
use Rattle.codes.proofs.Decoded.{first, event_end, one_in}
use Rattle.codes.proofs.LineFresh.{join_fresh}

-- tokens that do not count as Text count as they are
counted_same : (ts : List Token) → counted false ts ≡ ts
unfolding counted
counted_same [] = refl
counted_same (t ∷ ts) = ap {B = List Token} (λ l. t ∷ l) (counted_same ts)

-- what lines have, in parts
bytes_append : (a b : List (List Token)) → bytes_of (a ++ b) ≡ bytes_of a + bytes_of b
unfolding bytes_of
bytes_append [] b = omega arith
bytes_append (l ∷ a) b = omega (arith, bytes_append a b)

pushes_append : (a b : List (List Token)) → pushes_of (a ++ b) ≡ pushes_of a + pushes_of b
unfolding pushes_of
pushes_append [] b = omega arith
pushes_append (l ∷ a) b = omega (arith, pushes_append a b)

all_append : (a b : List (List Token)) → all (a ++ b) ≡ all a ++ all b
unfolding all
all_append [] b = refl
all_append (l ∷ a) b = rw (all_append a b) (sym (append_assoc (join l) (all a) (all b)))

pub lines_append : (a b : List (List Token)) → of_lines (a ++ b) ≡ of_lines a ++ of_lines b
unfolding of_lines
lines_append [] b = refl
lines_append (l ∷ a) b = rw (lines_append a b) (sym (append_assoc (marked 255 l) (end ∷ of_lines a) (of_lines b)))

-- one line
line_bytes_lem : (l : List Token) → bytes_of (l ∷ []) ≡ length (text_of l)
unfolding bytes_of
line_bytes_lem l = omega arith

line_pushes : (l : List Token) → pushes_of (l ∷ []) ≡ length l
unfolding pushes_of
line_pushes l = omega arith

line_tokens_lem : (l : List Token) → length (all (l ∷ [])) ≡ fresh 255 l
unfolding all
line_tokens_lem l = rw append-nil (join_fresh l)

line_events : (l : List Token) (es : List Event) → of_lines (l ∷ []) ++ es ≡ marked 255 l ++ (end ∷ es)
unfolding of_lines
line_events l es = append_assoc (marked 255 l) (end ∷ []) es

end_reads : (t s r : List ℕ) → decode t s (code_of 0 false line_end 0 0 ∷ r) ≡ end ∷ decode t s r
end_reads t s r = first t s (code_of 0 false line_end 0 0) r ∙ ap (λ (e : Event). e ∷ decode t s r) (event_end t s (code_of 0 false line_end 0 0) (get_or r 0 0) (omega arith))

module _ (t s : List ℕ) where
  pub lines_none : (c : List ℕ) → AtLine c → ((i : ℕ) → Fits w64 (get_or c i 0)) → CodedLines t s c c []
  unfolding bytes_of all of_lines pushes_of
  lines_none c a h =
      record {
        cells = [];
        bytes = omega (arith, h 0);
        tokens = omega (arith, h 1);
        count = omega (arith, h 2);
        next = a;
        codes = λ l. sym (put_none _ _);
        reads = λ r. refl;
        within = λ r. refl;
        few = omega arith;
      }

  pub line_coded : {c c₁ c₂ : List ℕ} {l : List Token} → AtLine c → Coded t s c c₁ l → Ended c₁ c₂ → CodedLines t s c c₂ (l ∷ [])
  line_coded {c} {c₁} {c₂} {l} a f e =
      let E = code_of 0 false line_end 0 0 in
      let n = length-append f.cells (E ∷ []) in
      let same : counted (is_plain c) l ≡ l = rw a.plain (counted_same l) in
      record {
        cells = f.cells ++ (E ∷ []);
        bytes = rw line_bytes_lem (e.same_bytes ∙ f.bytes);
        tokens = e.same_tokens ∙ f.tokens ∙ rw (same, a.last, line_tokens_lem l);
        count = omega (arith, f.count, e.counted_codes, n);
        next = record { last = e.last; plain = e.plain ∙ f.plain ∙ a.plain };
        codes = λ h.
            let d : count_in c₁ ≡ count_in c + length f.cells = omega (arith, f.count, h, n) in
            e.codes ∙ rw (put_append, d, f.codes (omega (arith, h, n)));
        reads = λ r.
            ap (decode t s) (append_assoc f.cells (E ∷ []) r) ∙ f.reads (E ∷ r) ∙ rw (same, a.last, end_reads t s r) (sym (line_events l (decode t s r)));
        within = λ r. ap (all_in_table (length t)) (append_assoc f.cells (E ∷ []) r) ∙ f.within (E ∷ r) ∙ one_in (length t) E r refl refl;
        few = omega (arith, f.few, n, line_pushes l);
      }

  pub lines_more : {c c₁ c₂ : List ℕ} {a b : List (List Token)} → CodedLines t s c c₁ a → CodedLines t s c₁ c₂ b → CodedLines t s c c₂ (a ++ b)
  lines_more {c} {c₁} {c₂} {a} {b} f g =
      record {
        cells = f.cells ++ g.cells;
        bytes = rw (bytes_append a b) (wrap_more _ _ _ f.bytes g.bytes);
        tokens = rw (all_append a b, length-append) (wrap_more _ _ _ f.tokens g.tokens);
        count = rw length-append (wrap_more _ _ _ f.count g.count);
        next = g.next;
        codes = λ h.
            let m : count_in c + (length f.cells + length g.cells) < 18446744073709551616 = omega (arith, h, length-append f.cells g.cells) in
            let d : count_in c₁ ≡ count_in c + length f.cells = omega (arith, f.count, m) in
            g.codes (omega (arith, d, m)) ∙ rw (put_append, d, f.codes (omega (arith, m)));
        reads = λ r.
            ap (decode t s) (append_assoc f.cells g.cells r) ∙ f.reads (g.cells ++ r) ∙ ap (λ (l : List Event). of_lines a ++ l) (g.reads r)
            ∙ sym (append_assoc (of_lines a) (of_lines b) (decode t s r)) ∙ ap (λ (l : List Event). l ++ decode t s r) (sym (lines_append a b));
        within = λ r. ap (all_in_table (length t)) (append_assoc f.cells g.cells r) ∙ f.within (g.cells ++ r) ∙ g.within r;
        few = omega (arith, f.few, g.few, length-append f.cells g.cells, pushes_append a b, length-append a b);
      }

  -- lines coded from the first code on
  module _ (c c' : List ℕ) (ls : List (List Token)) (a : Started c) (f : CodedLines t s c c' ls) (small : 2 * pushes_of ls + length ls < 18446744073709551616) where
    count_is : count_in c' ≡ length f.cells
    count_is = omega (arith, f.count, a.no_codes, f.few, small)

    pub count_few : count_in c' ≤ 2 * pushes_of ls + length ls
    count_few = omega (arith, count_is, f.few)

    cells_read : decode t s f.cells ≡ of_lines ls
    unfolding decode
    cells_read = ap (decode t s) (sym (append-nil f.cells)) ∙ f.reads [] ∙ append-nil (of_lines ls)

    cells_within : all_in_table (length t) f.cells ≡ true
    unfolding all_in_table
    cells_within = ap (all_in_table (length t)) (sym (append-nil f.cells)) ∙ f.within []

    -- where the list holds all codes they read back as the lines, and lie within the table
    module _ (room : 5 + count_in c' ≤ length c) where
      front : take (count_in c') (codes_in c') ≡ f.cells
      front =
          let n = count_is in
          let z : count_in c ≡ 0 = a.no_codes in
          let fits : 0 + length f.cells ≤ length (codes_in c) = omega (arith, length-drop 5 c, n, room) in
          let codes : codes_in c' ≡ put 0 f.cells (codes_in c) = f.codes (omega (arith, z, f.few, small)) ∙ ap (λ (k : ℕ). put k f.cells (codes_in c)) z in
          rw (codes, put_fits 0 f.cells (codes_in c) fits) (take_at f.cells _ (count_in c') (sym n))

      pub read_back : decode t s (take (count_in c') (codes_in c')) ≡ of_lines ls
      read_back = ap (decode t s) front ∙ cells_read

      pub within_back : all_in_table (length t) (take (count_in c') (codes_in c')) ≡ true
      within_back = ap (all_in_table (length t)) front ∙ cells_within

pub started_line : {c : List ℕ} → Started c → AtLine c
started_line a = record { last = a.last; plain = a.plain }
