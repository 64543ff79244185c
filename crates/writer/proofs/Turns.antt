-- A listing written in turns, some lines at a time, each turn from codes of its own.
-- What is left to write, written from where the cursor stands, gives the page of the whole; and there is room for it.
use mathlib.Core.Path.{◌≡◌, refl, sym, ap, ◌∙◌}
use mathlib.Core.List.{List, [], ◌∷◌, ◌++◌}
use Prim.Native.Nat.{ℕ}
use lib.ListN.{length}
use Rattle.tokens.specs.Token.{Token}
use Rattle.codes.specs.Code.{Event}
use Rattle.codes.specs.Lines.{of_lines}
use Rattle.codes.proofs.CodedLines.{lines_append}
use Rattle.writer.specs.Written.{Page, page, start, behind, written, on_page, Room, Listed}
use Rattle.writer.specs.declared.write.Cursor.{Cursor}
use Rattle.writer.proofs.PageLaws.{written_at}
use Rattle.writer.proofs.Listed.{page_append, listed}

-- where the cursor stands behind events
unfoldable pub behinds : Cursor → List Event → Cursor
behinds p [] = p
behinds p (e ∷ es) = behinds (behind p e) es

pub page_at : (P : Page) (es : List Event) → (on_page P es).at ≡ behinds P.at es
unfolding on_page behinds
page_at P [] = refl
page_at P (e ∷ es) = page_at (written P e) es ∙ ap (λ (p : Cursor). behinds p es) (written_at P e)

-- room for events, and for others behind them
module _ (x e k l : ℕ) where
  pub room_both : (p : Cursor) (a b : List Event) → Room x e k l p (a ++ b) → Room x e k l p a × Room x e k l (behinds p a) b
  unfolding behinds
  room_both p [] b r = (tt, r)
  room_both p (v ∷ a) b r = let h = room_both (behind p v) a b r.1 in ((r.0, h.0), h.1)

  pub room_append : (p : Cursor) (a b : List Event) → Room x e k l p a → Room x e k l (behinds p a) b → Room x e k l p (a ++ b)
  unfolding behinds
  room_append p [] b r q = q
  room_append p (v ∷ a) b r q = (r.0, room_append (behind p v) a b r.1 q)

-- the lines a, then the lines b
module _ (p : Cursor) (a b : List (List Token)) where
  pub lines_page : (x e k l : List ℕ) → on_page (page x e k l p) (of_lines (a ++ b)) ≡ on_page (on_page (page x e k l p) (of_lines a)) (of_lines b)
  lines_page x e k l = ap (on_page (page x e k l p)) (lines_append a b) ∙ page_append (page x e k l p) (of_lines a) (of_lines b)

  pub lines_room : (x e k l : ℕ) → Room x e k l p (of_lines (a ++ b)) → Room x e k l p (of_lines a) × Room x e k l (behinds p (of_lines a)) (of_lines b)
  lines_room x e k l r = room_both x e k l p (of_lines a) (of_lines b) (rw (lines_append a b) at r)

  -- a turn: the lines a are written
  module _ (x x' e e' k k' l l' : List ℕ) (q : Cursor) (w : page x' e' k' l' q ≡ on_page (page x e k l p) (of_lines a)) where
    pub turn_page : on_page (page x' e' k' l' q) (of_lines b) ≡ on_page (page x e k l p) (of_lines (a ++ b))
    turn_page = ap (λ (P : Page). on_page P (of_lines b)) w ∙ sym (lines_page x e k l)

    turn_at : q ≡ behinds p (of_lines a)
    turn_at = ap (λ (P : Page). P.at) w ∙ page_at (page x e k l p) (of_lines a)

    pub turn_room : length x' ≡ length x → length e' ≡ length e → length k' ≡ length k → length l' ≡ length l
        → Room (length x) (length e) (length k) (length l) p (of_lines (a ++ b)) → Room (length x') (length e') (length k') (length l') q (of_lines b)
    turn_room f g h i r = rw (f, g, h, i, turn_at) (lines_room (length x) (length e) (length k) (length l) r).1

-- the end: no line is left
pub turns_done : (ls : List (List Token)) (x x' e e' k k' l l' : List ℕ) (q : Cursor) → on_page (page x' e' k' l' q) (of_lines []) ≡ on_page (page x e k l start) (of_lines ls)
    → Listed ls (page x e k l start) (page x' e' k' l' q)
unfolding of_lines on_page
turns_done ls x x' e e' k k' l l' q h = rw h (listed ls x e k l)
