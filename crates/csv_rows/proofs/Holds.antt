-- Whether lists hold rows, asked of all: the sizes within the lists, the last ends, each token and each row.
-- The sizes are within the lists where questions 12 to 14 get a yes; the tests are then those of the definition, in turn.
use mathlib.Core.Path.{◌≡◌, refl, sym, ap, ◌∙◌}
use mathlib.Core.Bool.{Bool, true, false, ◌&&◌}
use Prim.Native.Nat.{ℕ}
use lib.Dec.{eqb, leb}
use lib.ListN.{length}
use borrow.Author.Tests.{eq-eqb, ne_eqb}
use Rattle.lists.specs.Choice.{ask, all_below}
use Rattle.lists.specs.Every.{both_yes}
use Rattle.tokens.specs.Lines.{end_at}
use Rattle.rows.specs.Lists.{Lists, room_no, rooms_of}
use Rattle.rows.specs.Rows.{token_held, row_held, sizes_within, holds_rows}
use Rattle.rows.specs.declared.answer.Sizes.{Sizes}
use Rattle.rows.specs.declared.answer.Rooms.{Rooms}
use Rattle.std.specs.Prelude.{Ok, Err}
use Rattle.std.specs.Result.{is_err}
use Rattle.std.specs.declared.result.Result.{Result}
use native.Mathlib.Omega.{arith}
use Rattle.lists.proofs.Answered.{number_some}
use Rattle.lists.proofs.Tests.{never}
use Rattle.lists.specs.Question.{Answers}
use Rattle.lists.specs.declared.question.Question.{Question}
use Rattle.rows.proofs.Held.{Within, within}

all_asked : (a b c d e f g : Bool) → eqb (ask 12 a (ask 13 (b && c) (ask 14 (d && e && f && g) 0))) 0 ≡ (a && b && c && d && e && f && g)
all_asked false b c d e f g = refl
all_asked true false c d e f g = refl
all_asked true true false d e f g = refl
all_asked true true true false e f g = refl
all_asked true true true true false f g = refl
all_asked true true true true true false g = refl
all_asked true true true true true true false = refl
all_asked true true true true true true true = refl

-- the answer to questions whose number is n
refuses : {A : Type 0} (n : ℕ) (x : A) (q : Result A Question) → Answers n x q → is_err q ≡ true → eqb n 0 ≡ false
refuses n x (Ok y) v h = never h
refuses n x (Err q) v h = ne_eqb n 0 (λ e. let k = number_some q in omega (arith, v, k))

allows : {A : Type 0} (n : ℕ) (x : A) (q : Result A Question) → Answers n x q → is_err q ≡ false → eqb n 0 ≡ true
allows n x (Ok y) v h = eq-eqb n 0 v.0
allows n x (Err q) v h = never (sym h)

module _ (l : Lists) (z : Sizes) where
  room_within : eqb (room_no z (rooms_of l)) 0 ≡ sizes_within l z.text z.tokens z.lines
  unfolding room_no sizes_within
  room_within =
      all_asked (leb z.text (length l.text)) (leb z.tokens (length l.ends)) (leb z.tokens (length l.kinds))
      (leb z.lines (length l.addresses)) (leb z.lines (length l.marks)) (leb z.lines (length l.places)) (leb z.lines (length l.lines))

  -- the sizes are not within the lists
  pub hold_rooms : {A : Type 0} (x : A) {r : Rooms} (q : Result A Question) → r ≡ rooms_of l → Answers (room_no z r) x q → is_err q ≡ true → false ≡ holds_rows l z.text z.tokens z.lines
  unfolding holds_rows
  hold_rooms x {r} q p v h =
      let w : sizes_within l z.text z.tokens z.lines ≡ false = sym room_within ∙ ap (λ (r : Rooms). eqb (room_no z r) 0) (sym p) ∙ refuses _ x q v h in
      rw w

  module _ {A : Type 0} (x : A) {r : Rooms} (q : Result A Question) (p : r ≡ rooms_of l) (v : Answers (room_no z r) x q) (h : is_err q ≡ false) where
    is_within : sizes_within l z.text z.tokens z.lines ≡ true
    is_within = sym room_within ∙ ap (λ (r : Rooms). eqb (room_no z r) 0) (sym p) ∙ allows _ x q v h

    pub rooms_within : Within l z.text z.tokens z.lines
    rooms_within = within l z.text z.tokens z.lines is_within

    -- the last ends are not the sizes
    pub hold_ends : {a b : ℕ} → a ≡ end_at l.ends z.tokens → b ≡ end_at l.lines z.lines → (eqb a z.text && eqb b z.tokens) ≡ false → false ≡ holds_rows l z.text z.tokens z.lines
    unfolding holds_rows
    hold_ends {a} {b} q r k =
        let e : (eqb (end_at l.ends z.tokens) z.text && eqb (end_at l.lines z.lines) z.tokens) ≡ false = rw (← q, ← r) k in
        rw (is_within, e)

    -- the last ends are the sizes
    pub hold_all : {a b : ℕ} {t u : Bool} → a ≡ end_at l.ends z.tokens → b ≡ end_at l.lines z.lines → (eqb a z.text && eqb b z.tokens) ≡ true
        → t ≡ all_below (token_held l) z.tokens → u ≡ all_below (row_held l) z.lines → (t && u) ≡ holds_rows l z.text z.tokens z.lines
    unfolding holds_rows
    hold_all {a} {b} q r k s v =
        let f = both_yes (eqb a z.text) (eqb b z.tokens) k in
        let e : eqb (end_at l.ends z.tokens) z.text ≡ true = rw (← q) f.0 in
        let g : eqb (end_at l.lines z.lines) z.tokens ≡ true = rw (← r) f.1 in
        rw (is_within, e, g, s, v)
