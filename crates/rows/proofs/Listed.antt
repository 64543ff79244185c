-- A call that answered a listing: the first entries of each list, as many as its size says, are its part of the new ones; and lists that
-- suffice. The answer tells the number 0 from all others, and with 0 each list begins with what is new.
use mathlib.Core.Path.{◌≡◌, refl, sym, ap, ◌∙◌}
use mathlib.Core.List.{List}
use Prim.Native.Nat.{ℕ, suc, ◌≤◌}
use native.Mathlib.Omega.{arith}
use lib.ListN.{length, take, drop}
use lib.Seq.{take-append_seam}
use borrow.Author.Tests.{le-leb}
use Rattle.rows.specs.Lists.{Lists, cut, room_no, sizes_of, values_of, left, Leaves}
use Rattle.rows.specs.declared.answer.Sizes.{Sizes}
use Rattle.rows.specs.declared.answer.Rooms.{Rooms}
use Rattle.std.specs.Prelude.{Ok, Err}
use Rattle.std.specs.declared.result.Result.{Result}
use Rattle.lists.proofs.Answered.{value_is, number_some}
use Rattle.lists.specs.Question.{Answers}
use Rattle.lists.specs.declared.question.Question.{Question}

-- with the number 0 the sizes are those of the answer
pub values_are : (z : Sizes) (r : Result Sizes Question) → Answers 0 z r → values_of r ≡ z
values_are z (Ok y) v = v.1
values_are z (Err q) v = let k = number_some q in absurd (omega (arith, v))

-- with another number they are zero
pub no_values : (n : ℕ) (z : Sizes) (r : Result Sizes Question) → Answers (suc n) z r → values_of r ≡ record { text = 0; tokens = 0; lines = 0 }
no_values n z (Ok y) v = absurd (omega (arith, v.0))
no_values n z (Err q) v = refl

-- questions 12 to 14 get a yes
pub suffice : (z : Sizes) (r : Rooms) → z.text ≤ r.text → z.tokens ≤ r.ends → z.tokens ≤ r.kinds → z.lines ≤ r.addresses → z.lines ≤ r.marks → z.lines ≤ r.places → z.lines ≤ r.lines
    → room_no z r ≡ 0
unfolding room_no
suffice z r x e k a m p l =
    rw (le-leb z.text r.text x, le-leb z.tokens r.ends e, le-leb z.tokens r.kinds k, le-leb z.lines r.addresses a, le-leb z.lines r.marks m, le-leb z.lines r.places p, le-leb z.lines r.lines l)

-- ---- the entries of a list that the sizes count
taken : (n k : ℕ) (new old l : List ℕ) → n ≡ 0 → l ≡ left n new old → k ≡ length new → take k l ≡ new
taken n k new old l z p q = rw (p, z, q) (take-append_seam new (drop (length new) old))

module _ {n : ℕ} {new b a : Lists} {g : Result Sizes Question} (v : Leaves n new b a g) (z : Sizes) (h : g ≡ Ok z) where
  pub zeroed : (n ≡ 0) × (z ≡ sizes_of new)
  zeroed = value_is n (sizes_of new) g z v.answer h

  pub text_size : z.text ≡ length new.text
  text_size = ap (λ (z : Sizes). z.text) zeroed.1

  tokens_size : z.tokens ≡ length new.ends
  tokens_size = ap (λ (z : Sizes). z.tokens) zeroed.1

  pub lines_size : z.lines ≡ length new.addresses
  lines_size = ap (λ (z : Sizes). z.lines) zeroed.1

  pub text_taken : take z.text a.text ≡ new.text
  text_taken = taken n z.text new.text b.text a.text zeroed.0 v.text text_size

  pub ends_taken : take z.tokens a.ends ≡ new.ends
  ends_taken = taken n z.tokens new.ends b.ends a.ends zeroed.0 v.ends tokens_size

  kinds_taken : length new.kinds ≡ length new.ends → take z.tokens a.kinds ≡ new.kinds
  kinds_taken e = taken n z.tokens new.kinds b.kinds a.kinds zeroed.0 v.kinds (tokens_size ∙ sym e)

  pub addresses_taken : take z.lines a.addresses ≡ new.addresses
  addresses_taken = taken n z.lines new.addresses b.addresses a.addresses zeroed.0 v.addresses lines_size

  pub marks_taken : length new.marks ≡ length new.addresses → take z.lines a.marks ≡ new.marks
  marks_taken e = taken n z.lines new.marks b.marks a.marks zeroed.0 v.marks (lines_size ∙ sym e)

  places_taken : length new.places ≡ length new.addresses → take z.lines a.places ≡ new.places
  places_taken e = taken n z.lines new.places b.places a.places zeroed.0 v.places (lines_size ∙ sym e)

  pub lines_taken : length new.lines ≡ length new.addresses → take z.lines a.lines ≡ new.lines
  lines_taken e = taken n z.lines new.lines b.lines a.lines zeroed.0 v.lines (lines_size ∙ sym e)

  -- all seven, where a kind stands for each end, and a mark, a place and an end for each address
  pub cut_new : length new.kinds ≡ length new.ends → length new.marks ≡ length new.addresses → length new.places ≡ length new.addresses
      → length new.lines ≡ length new.addresses → cut a z ≡ new
  cut_new k m p l = rw (text_taken, ends_taken, kinds_taken k, addresses_taken, marks_taken m, places_taken p, lines_taken l)
