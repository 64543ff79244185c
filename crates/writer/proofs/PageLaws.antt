-- What a code is on the page: the room that it needs, and what its writer leaves.
-- Each is the definition at the event that the code stands for.
use mathlib.Core.Path.{◌≡◌, refl, sym, ap, ◌∙◌}
use mathlib.Core.Bool.{true}
use mathlib.Core.List.{List, []}
use Prim.Native.Nat.{ℕ, zero, suc, ◌+◌, ◌-◌, ◌≤◌, ◌<◌}
use native.Mathlib.Numerals.{add-one}
use native.Mathlib.Omega.{arith}
use lib.Dec.{eqb}
use lib.ListN.{length, set, get_or, drop, drop_of_length-le}
use borrow.Author.Tests.{le-leb, lt-leb, leb-true}
use Rattle.lists.specs.Choice.{pick}
use Rattle.lists.specs.Every.{both_yes}
use Rattle.lists.specs.Put.{put}
use Rattle.tokens.specs.Token.{token}
use Rattle.codes.specs.Code.{Event, kind_in, joins_in, what_in, size_in, place_in, of_table, has_value, in_table, all_in_table, text_in, event, decode}
use Rattle.codes.specs.Code.Event.{tok, end}
use Rattle.codes.proofs.Decoded.{event_token, event_end, decode_at, in_at}
use Rattle.codes.proofs.Made.{text_table}
use Rattle.writer.specs.Written.{Page, page, place_for, behind, written, on_page, Fits, Room}
use Rattle.writer.specs.declared.write.Cursor.{Cursor}

-- lists that have room for the token of a code
pub record TokenFits (t s : List ℕ) (c v : ℕ) (x e k : List ℕ) (p : Cursor) : Type 0 where
  pub text : p.text + length (text_in t s c v) ≤ length x
  pub small : p.text + length (text_in t s c v) < 4294967296
  pub end : place_for (joins_in c) p.tokens < length e
  pub kind : place_for (joins_in c) p.tokens < length k
  pub before : pick (joins_in c) 1 0 ≤ p.tokens

module _ (t s : List ℕ) (c v : ℕ) where
  module _ (x e k : List ℕ) (p : Cursor) where
    pub token_fits : what_in c < 7 → Fits (length x) (length e) (length k) 0 p (event t s c v) → TokenFits t s c v x e k p
    token_fits h f =
        let g = rw (event_token t s c v h) at f in
        record { text = g.0; small = g.1; end = g.2; kind = g.3; before = g.4 }

    -- a token needs no room for lines
    pub fits_lines : (l : ℕ) → what_in c < 7 → Fits (length x) (length e) (length k) l p (event t s c v) → Fits (length x) (length e) (length k) 0 p (event t s c v)
    fits_lines l h f = rw (event_token t s c v h) (rw (event_token t s c v h) at f)

    pub end_fits : (l : List ℕ) → 7 ≤ what_in c → Fits (length x) (length e) (length k) (length l) p (event t s c v) → (p.lines < length l) × (p.tokens < 4294967296)
    end_fits l h f = rw (event_end t s c v h) at f

    pub token_written : (x' e' k' : List ℕ) (q : Cursor) (n : ℕ) → what_in c < 7 → n ≡ length (text_in t s c v) → x' ≡ put p.text (text_in t s c v) x
        → e' ≡ set e (place_for (joins_in c) p.tokens) (p.text + n) → k' ≡ set k (place_for (joins_in c) p.tokens) (kind_in c)
        → q ≡ record { text = p.text + n; tokens = place_for (joins_in c) p.tokens + 1; lines = p.lines }
        → (l : List ℕ) → page x' e' k' l q ≡ written (page x e k l p) (event t s c v)
    unfolding written behind
    token_written x' e' k' q n h a b d f g l = rw (event_token t s c v h, b, d, f, g, a, add-one)

  pub end_written : (P P' : Page) → 7 ≤ what_in c → P' ≡ written P end → P' ≡ written P (event t s c v)
  end_written P P' h w = w ∙ ap (written P) (sym (event_end t s c v h))

-- a line more
pub line_ended : (x e k l : List ℕ) (p : Cursor)
    → page x e k (set l p.lines p.tokens) (record { text = p.text; tokens = p.tokens; lines = p.lines + 1 }) ≡ written (page x e k l p) end
unfolding written behind
line_ended x e k l p = rw add-one

-- the place for a token, by the bit that tells whether it begins: one that goes on has a token before it
module _ (n : ℕ) where
  pub place_room : (l b : ℕ) → b < 2 → place_for (eqb b 0) n < l → n + b ≤ l
  place_room l zero h p = omega (arith, p)
  place_room l (suc zero) h p = omega (arith, p)
  place_room l (suc (suc b)) h p = absurd (omega arith)

  pub place_there : (b : ℕ) → b < 2 → pick (eqb b 0) 1 0 ≤ n → 1 ≤ n + b
  place_there zero h p = omega (arith, p)
  place_there (suc b) h p = omega arith

  pub place_is : (b : ℕ) → b < 2 → n + b - 1 ≡ place_for (eqb b 0) n
  place_is zero h = omega arith
  place_is (suc zero) h = omega arith
  place_is (suc (suc b)) h = absurd (omega arith)

-- a text of the table is the same whatever the record and the next code
module _ (t s : List ℕ) (c v : ℕ) (h : what_in c ≡ of_table) where
  word_event : event t [] c 0 ≡ event t s c v
  word_event =
      event_token t [] c 0 (omega arith) ∙ ap (λ (x : List ℕ). tok (joins_in c) (token (kind_in c) x)) (text_table t [] c 0 h ∙ sym (text_table t s c v h))
      ∙ sym (event_token t s c v (omega arith))

  pub word_fits : (x e k : List ℕ) (p : Cursor) (l : ℕ) → Fits (length x) (length e) (length k) l p (event t s c v) → Fits (length x) (length e) (length k) 0 p (event t [] c 0)
  word_fits x e k p l f = rw word_event (fits_lines t s c v x e k p l (omega arith) f)

  pub word_written : (P P' : Page) → P' ≡ written P (event t [] c 0) → P' ≡ written P (event t s c v)
  word_written P P' w = w ∙ ap (written P) word_event

pub word_width : (c : ℕ) → what_in c ≡ of_table → ◌≡◌ {A = ℕ} 1 (pick (has_value c) 2 1)
word_width c h = rw h

pub end_width : (c : ℕ) → 7 ≤ what_in c → ◌≡◌ {A = ℕ} 1 (pick (has_value c) 2 1)
end_width c h = rw (le-leb 2 (what_in c) (omega arith), lt-leb (what_in c) 4 (omega arith))

-- codes from index i on that lie within a table of m bytes
module _ (m : ℕ) (cs : List ℕ) (i : ℕ) (h : i < length cs) (w : all_in_table m (drop i cs) ≡ true) where
  parted : (n : ℕ) → n ≡ pick (has_value (get_or cs i 0)) 2 1 → (in_table m (get_or cs i 0) ≡ true) × (all_in_table m (drop (i + n) cs) ≡ true)
  parted n a = both_yes (in_table m (get_or cs i 0)) (all_in_table m (drop (i + n) cs)) (sym (in_at m cs i n h a) ∙ w)

  pub word_in : what_in (get_or cs i 0) ≡ of_table → place_in (get_or cs i 0) + size_in (get_or cs i 0) ≤ m
  word_in e = leb-true (place_in (get_or cs i 0) + size_in (get_or cs i 0)) m (rw e at (parted _ refl).0)

  pub rest_in : (n : ℕ) → n ≡ pick (has_value (get_or cs i 0)) 2 1 → all_in_table m (drop (i + n) cs) ≡ true
  rest_in n a = (parted n a).1

pub written_at : (P : Page) (e : Event) → (written P e).at ≡ behind P.at e
unfolding written
written_at P (tok joins u) = refl
written_at P end = refl

module _ (t s : List ℕ) where
  module _ (cs : List ℕ) (i n v : ℕ) (h : i < length cs) (a : n ≡ pick (has_value (get_or cs i 0)) 2 1) (b : v ≡ get_or cs (i + 1) 0) where
    -- one turn of the loop
    module _ (x x₂ e e₂ k k₂ l l₂ : List ℕ) (p p₂ : Cursor) (w : page x₂ e₂ k₂ l₂ p₂ ≡ written (page x e k l p) (event t s (get_or cs i 0) v)) where
      pub turn : on_page (page x₂ e₂ k₂ l₂ p₂) (decode t s (drop (i + n) cs)) ≡ on_page (page x e k l p) (decode t s (drop i cs))
      unfolding on_page
      turn = rw (decode_at t s cs i n v h a b) (ap (λ (P : Page). on_page P (decode t s (drop (i + n) cs))) w)

      moved : p₂ ≡ behind p (event t s (get_or cs i 0) v)
      moved = ap (λ (P : Page). P.at) w ∙ written_at (page x e k l p) (event t s (get_or cs i 0) v)

      pub turn_room : length x₂ ≡ length x → length e₂ ≡ length e → length k₂ ≡ length k → length l₂ ≡ length l
          → Room (length x) (length e) (length k) (length l) p (decode t s (drop i cs)) → Room (length x₂) (length e₂) (length k₂) (length l₂) p₂ (decode t s (drop (i + n) cs))
      turn_room f g q u r = rw (f, g, q, u, moved) (rw (decode_at t s cs i n v h a b) at r).1

  -- the room for the code at index i
  pub room_at : (cs : List ℕ) (i v : ℕ) → i < length cs → v ≡ get_or cs (i + 1) 0 → (x e k l : ℕ) (p : Cursor) → Room x e k l p (decode t s (drop i cs)) → Fits x e k l p (event t s (get_or cs i 0) v)
  room_at cs i v h b x e k l p r = (rw (decode_at t s cs i _ v h refl b) at r).0

  -- the end of the loop
  pub done : (cs : List ℕ) (i : ℕ) (P : Page) → length cs ≤ i → P ≡ on_page P (decode t s (drop i cs))
  unfolding on_page decode
  done cs i P h = rw (drop_of_length-le cs h)
