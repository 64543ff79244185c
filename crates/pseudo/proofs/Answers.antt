-- What the call answers and leaves, by whether a question gets a no.
-- With room for the sizes, what is stored from the start of a list stands over it.
use mathlib.Core.Path.{◌≡◌, refl, sym, ap, ◌∙◌}
use mathlib.Core.Bool.{◌&&◌}
use mathlib.Core.List.{List, [], ◌∷◌, map}
use Prim.Native.Nat.{ℕ, zero, suc, ◌≤◌}
use native.Mathlib.Nat.{zero-add}
use native.Mathlib.Omega.{arith}
use borrow.Author.Tests.{leb-true}
use lib.Dec.{leb}
use lib.ListN.{length, length-map}
use Rattle.lists.specs.Put.{put}
use Rattle.lists.specs.PutLaws.{put_fits}
use Rattle.tokens.specs.Token.{Token}
use Rattle.tokens.specs.Listing.{listing}
use Rattle.tokens.proofs.ListingLaws.{lines_length, kinds_as_ends}
use Rattle.rows.specs.Lists.{Lists, room_no, rooms_of, sizes_of, over, Leaves, Stands}
use Rattle.record.specs.declared.header.Header.{Header}
use Rattle.structure.specs.Plan.{Line}
use Rattle.line.specs.Lines.{line_in}
use Rattle.line.specs.Print.{mask_after, printed}
use Rattle.pseudo.specs.Listed.{line_address, line_mark, line_place, lists_for, plan_lists}
use Rattle.lists.specs.Every.{both_yes}
use Rattle.record.proofs.AskedLaws.{passed}
use Rattle.pseudo.specs.Called.{PlanListed}
use Rattle.pseudo.specs.Coded.{Holds}
use Rattle.rows.specs.declared.answer.Sizes.{Sizes}
use Rattle.std.specs.Prelude.{Ok, Err}
use Rattle.lists.specs.Question.{number}
use Rattle.lists.specs.declared.question.Question.{Question}
use Rattle.lists.proofs.Answered.{number_some}

-- each list has room for its part
record Fit (new b : Lists) : Type 0 where
  text : length new.text ≤ length b.text
  ends : length new.ends ≤ length b.ends
  kinds : length new.kinds ≤ length b.kinds
  addresses : length new.addresses ≤ length b.addresses
  marks : length new.marks ≤ length b.marks
  places : length new.places ≤ length b.places
  lines : length new.lines ≤ length b.lines

-- of a line for each one planned
room_yes : (h : Header) (s : List ℕ) (ls : List (List Token)) (p : List Line) (b : Lists) → length ls ≡ length p
    → room_no (sizes_of (lists_for h s ls p)) (rooms_of b) ≡ 0 → Fit (lists_for h s ls p) b
unfolding room_no
room_yes h s ls p b each e =
    let new = lists_for h s ls p in
    let tokens = length new.ends in
    let count = length new.addresses in
    let x = passed 11 _ _ e in
    let y = passed 12 _ _ x.1 in
    let z = passed 13 _ 0 y.1 in
    let t = both_yes (leb tokens (length b.ends)) (leb tokens (length b.kinds)) y.0 in
    let u = both_yes (leb count (length b.addresses) && leb count (length b.marks) && leb count (length b.places)) (leb count (length b.lines)) z.0 in
    let v = both_yes (leb count (length b.addresses) && leb count (length b.marks)) (leb count (length b.places)) u.0 in
    let w = both_yes (leb count (length b.addresses)) (leb count (length b.marks)) v.0 in
    record {
      text = leb-true _ _ x.0;
      ends = leb-true _ _ t.0;
      kinds = omega (arith, leb-true tokens (length b.kinds) t.1, kinds_as_ends ls);
      addresses = leb-true _ _ w.0;
      marks = omega (arith, leb-true count (length b.marks) w.1, length-map p (line_address h s), length-map p line_mark);
      places = omega (arith, leb-true count (length b.places) v.1, length-map p (line_address h s), length-map p line_place);
      lines = omega (arith, leb-true count (length b.lines) u.1, length-map p (line_address h s), lines_length ls, each);
    }

stands_over : (new old l : List ℕ) → length new ≤ length old → l ≡ put 0 new old → l ≡ over new old
stands_over new old l h e = e ∙ put_fits 0 new old (omega arith) ∙ rw zero-add

-- a number: nothing was touched
pub refused : (n : ℕ) (new b : Lists) (q : Question) → n ≡ number q → Leaves n new b b (Err q)
refused zero new b q e = absurd (let k = number_some q in omega (arith, e))
refused (suc n) new b q e = record { answer = e; text = refl; ends = refl; kinds = refl; addresses = refl; marks = refl; places = refl; lines = refl }

-- a listing: each list holds its part
stored : (n : ℕ) (new b a : Lists) → n ≡ 0 → Fit new b → Stands new b a → Leaves n new b a (Ok (sizes_of new))
stored n new b a d y w =
    rw d
    (record {
      answer = (refl, refl);
      text = stands_over _ _ _ y.text w.text;
      ends = stands_over _ _ _ y.ends w.ends;
      kinds = stands_over _ _ _ y.kinds w.kinds;
      addresses = stands_over _ _ _ y.addresses w.addresses;
      marks = stands_over _ _ _ y.marks w.marks;
      places = stands_over _ _ _ y.places w.places;
      lines = stands_over _ _ _ y.lines w.lines;
    })

-- ---- of a plan's lines
pub printed_length : (h : Header) (s : List ℕ) (range mask : ℕ) (p : List Line) → length (printed h s range mask p) ≡ length p
unfolding printed
printed_length h s range mask [] = refl
printed_length h s range mask (l ∷ ls) = ap suc (printed_length h s range (mask_after h s mask l.what l.at) ls)

-- as many lines as codes
pub codes_length : (h : Header) (s : List ℕ) (range mask : ℕ) (codes : List ℕ) → length codes ≡ length (printed h s range mask (map line_in codes))
codes_length h s range mask codes = sym (length-map codes line_in) ∙ sym (printed_length h s range mask (map line_in codes))

-- z is the sizes
module _ (h : Header) (s : List ℕ) (range : ℕ) (codes : List ℕ) (b : Lists) (z : Sizes) (q : z ≡ sizes_of (plan_lists h s range (map line_in codes))) where
  abbrev plan : List Line
  plan = map line_in codes

  abbrev new : Lists
  new = plan_lists h s range plan

  -- what the questions of room answer
  abbrev room : ℕ
  room = room_no z (rooms_of b)

  asked : room ≡ room_no (sizes_of new) (rooms_of b)
  asked = ap (λ (z : Sizes). room_no z (rooms_of b)) q

  fits : room ≡ 0 → Fit new b
  fits o = room_yes h s (printed h s range 0 plan) plan b (printed_length h s range 0 plan) (sym asked ∙ o)

  -- no question of room gets a no: there is room for the addresses, marks and places
  pub plan_room : room ≡ 0 → (length codes ≤ length b.addresses) × (length codes ≤ length b.marks) × (length codes ≤ length b.places)
  plan_room o =
      let count = length-map codes line_in in (
        omega (arith, (fits o).addresses, length-map plan (line_address h s), count),
        omega (arith, (fits o).marks, length-map plan line_mark, count),
        omega (arith, (fits o).places, length-map plan line_place, count),
      )

  -- no question of room gets a no: the lists are as long as the listing's
  pub plan_holds : room ≡ 0 → Holds (listing (printed h s range 0 plan)) b.text b.ends b.kinds b.lines
  plan_holds o = record { text = (fits o).text; ends = (fits o).ends; kinds = (fits o).kinds; lines = (fits o).lines }

  pub plan_refused : (k : Question) → room ≡ number k → PlanListed h s range plan b b (Err k)
  plan_refused k o = refused _ new b k (sym asked ∙ o)

  pub plan_listed : (a : Lists) → room ≡ 0 → Stands new b a → PlanListed h s range plan b a (Ok z)
  plan_listed a o w = rw q (stored _ new b a (sym asked ∙ o) (fits o) w)
