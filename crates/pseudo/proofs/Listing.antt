-- What the codes of a plan's lines tell, and what is written from them: the sizes, the codes read back, one turn, and the lists behind all.
-- No sum wraps, because the lines are few and short; lines written in turns are the lines left, written from where the cursor stands.
use mathlib.Core.Path.{◌≡◌, refl, ap, ◌∙◌}
use mathlib.Core.Bool.{true}
use mathlib.Core.List.{List, [], ◌∷◌, map}
use Prim.Native.Nat.{ℕ, ◌+◌, ◌*◌, ◌≤◌, ◌<◌}
use native.Mathlib.Omega.{arith}
use lib.ListN.{length, get_or, take, drop, length-map}
use lib.Seq.{drop-cons}
use Rattle.lists.specs.Put.{put}
use Rattle.tokens.specs.Token.{Token}
use Rattle.tokens.specs.Listing.{all, Listing, listing, bytes_of, pushes_of}
use Rattle.tokens.proofs.ListingLaws.{ends_length, all_bytes, all_count}
use Rattle.codes.specs.Code.{all_in_table, decode}
use Rattle.codes.specs.Coded.{bytes_in, tokens_in, count_in, codes_in, Started}
use Rattle.codes.specs.Lines.{of_lines, CodedLines}
use Rattle.codes.proofs.CodedLines.{count_few, read_back, within_back}
use Rattle.writer.specs.Written.{page, start, on_page, Room, Listed, Ready}
use Rattle.writer.specs.declared.write.Cursor.{Cursor}
use Rattle.writer.proofs.Listed.{room_listed}
use Rattle.writer.proofs.Turns.{lines_room, turn_page, turn_room, turns_done}
use Rattle.rows.specs.Lists.{Lists, lists_of, sizes_of, Stands}
use Rattle.record.specs.declared.header.Header.{Header}
use Rattle.line.specs.Fits.{Short, Fits}
use Rattle.line.specs.Lines.{line_in}
use Rattle.line.specs.Print.{line_tokens, mask_after, printed}
use Rattle.line.proofs.CodedTurns.{printed_step}
use Rattle.pseudo.specs.Listed.{line_address, lists_for}
use Rattle.pseudo.specs.Coded.{HoldsLines, Holds, Printed}

-- ---- the sizes of a listing, by what its lines have
text_length : (ls : List (List Token)) → length (listing ls).text ≡ bytes_of ls
unfolding listing
text_length ls = all_bytes ls

tokens_length : (ls : List (List Token)) → length (listing ls).ends ≡ length (all ls)
unfolding listing
tokens_length ls = ends_length 0 (all ls)

-- ---- lines coded in a list where nothing was coded before
module _ (t s c c' : List ℕ) (ls : List (List Token)) (a : Started c) (g : CodedLines t s c c' ls) where
  pub sizes_are : Fits ls → (h : Header) (plan : List ℕ) → record { text = bytes_in c'; tokens = tokens_in c'; lines = length plan } ≡ sizes_of (lists_for h s ls (map line_in plan))
  sizes_are f h plan =
      let x : bytes_in c' ≡ length (listing ls).text = omega (arith, g.bytes, a.no_bytes, f.bytes, text_length ls) in
      let n : tokens_in c' ≡ length (listing ls).ends = omega (arith, g.tokens, a.no_tokens, f.tokens, all_count ls, tokens_length ls) in
      rw (x, n, length-map (map line_in plan) (line_address h s), length-map plan line_in)

  pub holds_lines : Fits ls → length c' ≡ length c → HoldsLines t s c' ls
  holds_lines f e = λ room.
      let small : 2 * pushes_of ls + length ls < 18446744073709551616 = omega (arith, f.tokens, f.lines) in
      let fits : 5 + count_in c' ≤ length c = omega (arith, room, e) in
      (read_back t s c c' ls a g small fits, within_back t s c c' ls a g small fits)

  -- a list with room for so many codes as the lines can have
  module _ (m : ℕ) (room : 5 + (2 * pushes_of ls + m) ≤ length c) (e : length c' ≡ length c) (n : m ≡ length ls) (small : length c < 18446744073709551616) where
    pub part_counted : 5 + count_in c' ≤ length c'
    part_counted = omega (arith, room, e, n, count_few t s c c' ls a g (omega (arith, room, n, small)))

    pub part_holds : (p : List ℕ) → p ≡ take (count_in c') (codes_in c') → (decode t s p ≡ of_lines ls) × (all_in_table (length t) p ≡ true)
    part_holds p q =
        let few : 2 * pushes_of ls + length ls < 18446744073709551616 = omega (arith, room, n, small) in
        let fits : 5 + count_in c' ≤ length c = omega (arith, part_counted, e) in
        (ap (decode t s) q ∙ read_back t s c c' ls a g few fits, ap (all_in_table (length t)) q ∙ within_back t s c c' ls a g few fits)

-- codes that read back as lines by a table do so by the same table
pub of_table : (t u s p : List ℕ) (ls : List (List Token)) → t ≡ u → (decode u s p ≡ of_lines ls) × (all_in_table (length u) p ≡ true)
    → (decode t s p ≡ of_lines ls) × (all_in_table (length t) p ≡ true)
of_table t u s p ls e h = rw e h

-- ---- lines that lists have room for
module _ (ls : List (List Token)) (f : Fits ls) (x e k l : List ℕ) (h : Holds (listing ls) x e k l) where
  small_text : length (listing ls).text < 4294967296
  small_text = omega (arith, f.bytes, text_length ls)

  small_tokens : length (listing ls).ends < 4294967296
  small_tokens = omega (arith, f.tokens, all_count ls, tokens_length ls)

  pub ready : (t s c : List ℕ) → decode t s c ≡ of_lines ls → all_in_table (length t) c ≡ true → Ready t s c (length x) (length e) (length k) (length l)
  ready t s c d w =
      record {
        of = ls;
        codes = d;
        within = w;
        text = h.text;
        ends = h.ends;
        kinds = h.kinds;
        lines = h.lines;
        small_text = small_text;
        small_tokens = small_tokens;
      }

  room_whole : Room (length x) (length e) (length k) (length l) start (of_lines ls)
  room_whole = room_listed ls x e k l h.text h.ends h.kinds h.lines small_text small_tokens

pub printed_is : (ls : List (List Token)) (x x' e e' k k' l l' : List ℕ) (q : Cursor) → Listed ls (page x e k l start) (page x' e' k' l' q)
    → Printed (listing ls) x x' e e' k k' l l'
printed_is ls x x' e e' k k' l l' q w = record { text = w.text; ends = w.ends; kinds = w.kinds; lines = w.lines }

-- ---- turns: of the lines ls those in `left` are not written yet
pub record Left (x₀ e₀ k₀ l₀ : List ℕ) (ls : List (List Token)) (x e k l : List ℕ) (p : Cursor) (left : List (List Token)) : Type 0 where
  pub whole : on_page (page x e k l p) (of_lines left) ≡ on_page (page x₀ e₀ k₀ l₀ start) (of_lines ls)
  pub room : Room (length x) (length e) (length k) (length l) p (of_lines left)
  pub short : Short 8189 left

pub left_all : (ls : List (List Token)) (x e k l : List ℕ) → Fits ls → Holds (listing ls) x e k l → Left x e k l ls x e k l start ls
left_all ls x e k l f h = record { whole = refl; room = room_whole ls f x e k l h; short = f.each }

module _ {x₀ e₀ k₀ l₀ : List ℕ} {ls : List (List Token)} {x e k l : List ℕ} {p : Cursor} {left : List (List Token)} (h : Left x₀ e₀ k₀ l₀ ls x e k l p left) where
  pub left_none : left ≡ [] → Printed (listing ls) x₀ x e₀ e k₀ k l₀ l
  left_none n = printed_is ls x₀ x e₀ e k₀ k l₀ l p (turns_done ls x₀ x e₀ e k₀ k l₀ l p (rw n at h).whole)

  -- one line is in front
  module _ (one : List Token) (rest : List (List Token)) (q : left ≡ one ∷ rest) where
    first_short : length one ≤ 8189
    first_short = (rw q at h).short.0

    pub first_codes : (m n : ℕ) → m ≡ 1 → n ≡ 16384 → 5 + (2 * pushes_of (one ∷ []) + m) ≤ n
    unfolding pushes_of
    first_codes m n a b = omega (arith, first_short)

    pub first_room : Room (length x) (length e) (length k) (length l) p (of_lines (one ∷ []))
    first_room = (lines_room p (one ∷ []) rest (length x) (length e) (length k) (length l) (rw q at h).room).0

    pub left_turn : (x' e' k' l' : List ℕ) (r : Cursor) → length x' ≡ length x → length e' ≡ length e → length k' ≡ length k → length l' ≡ length l
        → page x' e' k' l' r ≡ on_page (page x e k l p) (of_lines (one ∷ [])) → Left x₀ e₀ k₀ l₀ ls x' e' k' l' r rest
    left_turn x' e' k' l' r a b c d w =
        record {
          whole = turn_page p (one ∷ []) rest x x' e e' k k' l l' r w ∙ (rw q at h).whole;
          room = turn_room p (one ∷ []) rest x x' e e' k k' l l' r w a b c d (rw q at h).room;
          short = (rw q at h).short.1;
        }

-- one turn of a plan's lines: the codes of the next line are those from i on, n of them, which is 1
module _ (h : Header) (s : List ℕ) (range mask i n : ℕ) (cs : List ℕ) (below : i < length cs) (single : n ≡ 1) where
  abbrev part : List ℕ
  part = take n (drop i cs)

  abbrev next : List Token
  next = line_tokens h s range mask (line_in (get_or cs i 0))

  part_is : printed h s range mask (map line_in part) ≡ next ∷ []
  unfolding printed
  part_is = rw (single, drop-cons cs i 0 below)

  part_length : length part ≡ 1
  part_length = rw (single, drop-cons cs i 0 below)

  module _ {x₀ e₀ k₀ l₀ : List ℕ} {ls : List (List Token)} {x e k l : List ℕ} {p : Cursor} (v : Left x₀ e₀ k₀ l₀ ls x e k l p (printed h s range mask (map line_in (drop i cs)))) where
    pub part_codes : (m : ℕ) → m ≡ 16384 → 5 + (2 * pushes_of (printed h s range mask (map line_in part)) + length part) ≤ m
    part_codes m r = rw part_is (first_codes v next _ (printed_step h s range cs i mask _ below refl) (length part) m part_length r)

    pub part_room : Room (length x) (length e) (length k) (length l) p (of_lines (printed h s range mask (map line_in part)))
    part_room = rw part_is (first_room v next _ (printed_step h s range cs i mask _ below refl))

    pub part_turn : (m : ℕ) (x' e' k' l' : List ℕ) (r : Cursor) → m ≡ mask_after h s mask (line_in (get_or cs i 0)).what (line_in (get_or cs i 0)).at
        → length x' ≡ length x → length e' ≡ length e → length k' ≡ length k → length l' ≡ length l
        → page x' e' k' l' r ≡ on_page (page x e k l p) (of_lines (printed h s range mask (map line_in part)))
        → Left x₀ e₀ k₀ l₀ ls x' e' k' l' r (printed h s range m (map line_in (drop (i + 1) cs)))
    part_turn m x' e' k' l' r d a b c f w = left_turn v next _ (printed_step h s range cs i mask m below d) x' e' k' l' r a b c f (rw part_is at w)

-- ---- all seven lists
pub stands : (t : Listing) (va mk pl : List ℕ) (b a : Lists) → Printed t b.text a.text b.ends a.ends b.kinds a.kinds b.lines a.lines
    → a.addresses ≡ put 0 va b.addresses → a.marks ≡ put 0 mk b.marks → a.places ≡ put 0 pl b.places
    → Stands (lists_of t.text t.ends t.kinds va mk pl t.lines) b a
stands t va mk pl b a q y z w = record { text = q.text; ends = q.ends; kinds = q.kinds; addresses = y; marks = z; places = w; lines = q.lines }
