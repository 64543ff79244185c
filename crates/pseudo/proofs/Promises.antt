-- What a call answers and leaves is what it promises, demand by demand.
-- With a number every list is as it was; with 0 the lists begin with the defined listing, of which demand 3, #102, #108 and #109 are proved.
use mathlib.Core.Path.{◌≡◌, refl, sym, ap, ◌∙◌}
use mathlib.Core.Bool.{Bool, true, false, ◌&&◌}
use mathlib.Core.List.{List, map}
use Prim.Native.Nat.{ℕ, zero, suc, ◌≤◌}
use native.Mathlib.Nat.{le_refl}
use native.Mathlib.Omega.{arith}
use lib.ListN.{length, take, drop, length-map}
use lib.Seq.{take-append-le, take_all}
use lib.Dec.{leb}
use Rattle.lists.specs.Choice.{ask}
use Rattle.rows.specs.Lists.{Lists, lists_of, room_no, sizes_of, over, Leaves, rooms_of, values_of}
use Rattle.record.specs.Header.{header_of, header_fits, fields_ok, limits_ok}
use Rattle.record.specs.Layout.{length_ok}
use Rattle.record.specs.Asked.{or_else, sizes_no, marks_asked, starts_asked, edge_kinds_asked, bodies_asked, branches_asked, atlas_asked, spans_asked, blocks_no, contents_no, range_no, first_no}
use Rattle.record.proofs.AskedLaws.{later}
use Rattle.tokens.specs.Token.{Token}
use Rattle.tokens.specs.Listing.{join, listing}
use Rattle.pseudo.specs.Listed.{line_address, record_lines, record_lists}
use Rattle.flow.specs.Planned.{record_plan}
use Rattle.line.specs.Shown.{ConditionsShown, CallsShown}
use Rattle.pseudo.specs.Called.{sizes, call_no, Called, LooksCounted}
use Rattle.pseudo.specs.Demand.{LinesDemand3}
use Rattle.pseudo.specs.Loops.{LoopsClose}
use Rattle.pseudo.specs.Promise.{held, Promise}
use Rattle.rows.specs.Rows.{holds_rows}
use Rattle.rows.specs.declared.answer.Sizes.{Sizes}
use Rattle.rows.specs.declared.answer.Rooms.{Rooms}
use Rattle.std.specs.declared.result.Result.{Result}
use Rattle.lists.specs.declared.question.Question.{Question}
use Rattle.lists.specs.Question.{number_of}
use Rattle.lists.proofs.Answered.{number_is}
use Rattle.rows.proofs.Listed.{values_are, no_values}
use Rattle.tokens.proofs.Lines.{lines_back}
use Rattle.line.proofs.LinesShown.{conditions_shown, calls_shown}
use Rattle.pseudo.proofs.Answers.{printed_length}
use Rattle.cfg.specs.Graph.{first_in}
use Rattle.flow.specs.Rows.{block_rows}
use Rattle.route.specs.Following.{stated_in}
use Rattle.route.specs.Assumed.{Assumed}
use Rattle.route.specs.Followed.{Followed}
use Rattle.route.proofs.Whole.{lines_followed}
use Rattle.pseudo.proofs.Demand.{address_stays, listing_demand3}
use Rattle.pseudo.proofs.Loops.{loops_close}
use Rattle.pseudo.proofs.RowsHeld.{rows_held}

-- ---- the numbers

-- what holds of the number of a question and of the later ones' holds of the first that gets a no
pub ask_kept : (P : ℕ → Type 0) (n : ℕ) (q : Bool) (l : ℕ) → P n → P l → P (ask n q l)
ask_kept P n true l a b = b
ask_kept P n false l a b = a

else_kept : (P : ℕ → Type 0) (a b : ℕ) → P a → P b → P (or_else a b)
else_kept P zero b p q = q
else_kept P (suc a) b p q = p

-- the questions before 12 have the numbers up to 11, and 15
pub first_kept : (P : ℕ → Type 0) → ((n : ℕ) → n ≤ 11 → P n) → P 15 → (s : List ℕ) (from to : ℕ) → P (first_no s from to)
unfolding first_no sizes_no blocks_no contents_no range_no
first_kept P few last s from to =
    let h = header_of s in
    let asked : (n : ℕ) (q : Bool) (l : ℕ) → n ≤ 11 → P l → P (ask n q l) = λ n q l le. ask_kept P n q l (few n le) in
    let end : P 0 = few 0 (omega arith) in
    let sizes =
    asked 1 (header_fits s) _ (omega arith) (asked 2 (fields_ok h) _ (omega arith) (asked 3 (limits_ok h) _ (omega arith) (asked 4 (length_ok h s) 0 (omega arith) end)))
    in
    let marks = asked 5 (marks_asked h s) _ (omega arith) (asked 6 (starts_asked h s) _ (omega arith) (asked 7 (edge_kinds_asked h s) 0 (omega arith) end)) in
    let texts = asked 9 (atlas_asked h s) _ (omega arith) (asked 10 (spans_asked h s) 0 (omega arith) end) in
    let contents = asked 8 (bodies_asked h s) _ (omega arith) (ask_kept P 15 (branches_asked h s) (ask 9 (atlas_asked h s) (ask 10 (spans_asked h s) 0)) last texts) in
    let range = asked 11 (leb from to && leb to h.blocks) 0 (le_refl 11) end in
    else_kept P (sizes_no s) _ sizes (else_kept P (blocks_no h s) _ marks (else_kept P (contents_no h s) (range_no h from to) contents range))

room_within : (z : Sizes) (r : Rooms) → room_no z r ≤ 15
unfolding room_no
room_within z r =
    let tokens = leb z.tokens r.ends && leb z.tokens r.kinds in
    let lines = leb z.lines r.addresses && leb z.lines r.marks && leb z.lines r.places && leb z.lines r.lines in
    ask_kept (λ (n : ℕ). n ≤ 15) 12 (leb z.text r.text) (ask 13 tokens (ask 14 lines 0)) (omega arith)
    (ask_kept (λ (n : ℕ). n ≤ 15) 13 tokens (ask 14 lines 0) (omega arith) (ask_kept (λ (n : ℕ). n ≤ 15) 14 lines 0 (omega arith) (omega arith)))

pub call_within : (s : List ℕ) (from to : ℕ) (r : Rooms) → call_no s from to r ≤ 15
unfolding call_no
call_within s from to r =
    else_kept (λ (n : ℕ). n ≤ 15) (first_no s from to) (room_no (sizes s from to) r)
    (first_kept (λ (n : ℕ). n ≤ 15) (λ n h. omega arith) (le_refl 15) s from to) (room_within (sizes s from to) r)

-- ---- the lists

-- a list that begins with new entries, read back by their number
read_back : (n : ℕ) (new old l : List ℕ) → length new ≡ n → l ≡ over new old → take n l ≡ new
read_back n new old l e p =
    ap (take n) p ∙ take-append-le n new (drop (length new) old) (omega arith) ∙ take_all n new (omega arith)

same : {x x' e e' k k' a a' m m' p p' l l' : List ℕ} → x' ≡ x → e' ≡ e → k' ≡ k → a' ≡ a → m' ≡ m → p' ≡ p → l' ≡ l → lists_of x' e' k' a' m' p' l' ≡ lists_of x e k a m p l
same p q r s t u v = rw (p, q, r, s, t, u, v)

-- a line of tokens for each address
lines_each : (s : List ℕ) (from to : ℕ) → length (record_lists (header_of s) s from to).addresses ≡ length (record_lines (header_of s) s from to)
unfolding record_lines
lines_each s from to =
    let h = header_of s in
    length-map (record_plan h s from to) (line_address h s) ∙ sym (printed_length h s _ 0 (record_plan h s from to))

module _ (s : List ℕ) (from to : ℕ) (b a : Lists) (r : Result Sizes Question) (c : Called s from to b a r) where
  abbrev rooms : Rooms
  rooms = rooms_of b

  abbrev ls : List (List Token)
  ls = record_lines (header_of s) s from to

  abbrev new : Lists
  new = record_lists (header_of s) s from to

  number : number_of r ≡ call_no s from to rooms
  number = number_is (call_no s from to rooms) (sizes s from to) r c.answer

  abbrev Left : ℕ → Type 0
  Left n = Leaves n new b a r

  refused : (n : ℕ) → Left n → (n ≡ 0 → ⊥) → (values_of r ≡ record { text = 0; tokens = 0; lines = 0 }) × (a ≡ b)
  refused zero p o = absurd (o refl)
  refused (suc n) p o = (no_values n (sizes_of new) r p.answer, same p.text p.ends p.kinds p.addresses p.marks p.places p.lines)

  listed : (n : ℕ) → Left n → n ≡ 0 → first_no s from to ≡ 0
      → LinesDemand3 s from to (take (values_of r).lines a.addresses) (take (values_of r).lines a.marks) (take (values_of r).lines a.places)
      (take (values_of r).lines a.lines)
  listed (suc n) p z q = absurd (omega arith)
  listed zero p z q =
      let d = listing_demand3 s from to q in
      let n = length new.addresses in
      let size : (values_of r).lines ≡ n = ap (λ (z : Sizes). z.lines) (values_are (sizes_of new) r p.answer) in
      rw (
        size,
        read_back n new.addresses b.addresses a.addresses refl p.addresses,
        read_back n new.marks b.marks a.marks d.marked p.marks,
        read_back n new.places b.places a.places d.placed_lines p.places,
        read_back n new.lines b.lines a.lines d.ended p.lines,
      ) d

  loops_held : (n : ℕ) → Left n → n ≡ 0 → first_no s from to ≡ 0
      → LoopsClose (header_of s) s 0 (record_plan (header_of s) s from to) (take (values_of r).lines a.addresses)
  loops_held (suc n) p z q = absurd (omega arith)
  loops_held zero p z q =
      let n = length new.addresses in
      let size : (values_of r).lines ≡ n = ap (λ (z : Sizes). z.lines) (values_are (sizes_of new) r p.answer) in
      rw (size, read_back n new.addresses b.addresses a.addresses refl p.addresses) (loops_close s from to q)

  rows_left : (n : ℕ) → Left n → n ≡ 0 → first_no s from to ≡ 0 → holds_rows a (values_of r).text (values_of r).tokens (values_of r).lines ≡ true
  rows_left (suc n) p z q = absurd (omega arith)
  rows_left zero p z q = rows_held s from to q b a r p

  -- the lists hold the lines of the defined listing
  lines_held : (n : ℕ) → Left n → n ≡ 0 → held a r ≡ map join ls
  unfolding listing
  lines_held (suc n) p z = absurd (omega arith)
  lines_held zero p z =
      let size : (values_of r).lines ≡ length ls = ap (λ (z : Sizes). z.lines) (values_are (sizes_of new) r p.answer) ∙ lines_each s from to in
      rw (size, p.text, p.ends, p.kinds, p.lines)
      (lines_back ls (drop (length new.text) b.text) (drop (length new.ends) b.ends) (drop (length new.kinds) b.kinds) (drop (length new.lines) b.lines))

  relations_held : held a r ≡ map join ls → ConditionsShown (header_of s) s (record_plan (header_of s) s from to) (held a r)
  unfolding record_lines
  relations_held e = rw e (conditions_shown (header_of s) s _ (record_plan (header_of s) s from to))

  arguments_held : held a r ≡ map join ls → (header_of s).bits ≡ 64 → CallsShown (header_of s) s (record_plan (header_of s) s from to) (held a r)
  unfolding record_lines
  arguments_held e n = rw e (calls_shown (header_of s) s n _ (record_plan (header_of s) s from to))

  -- the lines that the lists hold, beside their places and addresses, are followed
  followed_held : (n : ℕ) → Left n → n ≡ 0 → first_no s from to ≡ 0 → from ≡ 0 → to ≡ (header_of s).blocks → Assumed (header_of s) s
      → Followed (header_of s) s (stated_in a (values_of r).lines)
  unfolding record_lines
  followed_held (suc n) p z q f t m = absurd (omega arith)
  followed_held zero p z q f t m =
      let h = header_of s in
      let n = length new.addresses in
      let size : (values_of r).lines ≡ n = ap (λ (z : Sizes). z.lines) (values_are (sizes_of new) r p.answer) in
      let d = listing_demand3 s from to q in
      let whole = lines_followed s (rw (f, t) at q) m (line_address h s) (λ w k i d e. address_stays h s w k i e) (first_in (block_rows h s) 0) in
      rw (
        lines_held zero p z,
        size,
        read_back n new.places b.places a.places d.placed_lines p.places,
        read_back n new.addresses b.addresses a.addresses refl p.addresses,
        f,
        t,
      ) whole

  accepted : call_no s from to rooms ≡ 0 → first_no s from to ≡ 0
  unfolding call_no
  accepted e = (later (first_no s from to) (room_no (sizes s from to) rooms) e).0

  pub promised : (looks : ℕ) → LooksCounted s from to r looks → Promise s from to b a r looks
  promised looks counted = record {
    called = c;
    number = rw number (call_within s from to rooms);
    refused = λ o. refused (call_no s from to rooms) c (λ e. o (number ∙ e));
    relations = λ e. relations_held (lines_held (call_no s from to rooms) c (sym number ∙ e));
    arguments = λ e. arguments_held (lines_held (call_no s from to rooms) c (sym number ∙ e));
    loops = λ e. loops_held (call_no s from to rooms) c (sym number ∙ e) (accepted (sym number ∙ e));
    demand3 = λ e. listed (call_no s from to rooms) c (sym number ∙ e) (accepted (sym number ∙ e));
    rows = λ e. rows_left (call_no s from to rooms) c (sym number ∙ e) (accepted (sym number ∙ e));
    looked = counted;
    followed = λ e f t m. followed_held (call_no s from to rooms) c (sym number ∙ e) (accepted (sym number ∙ e)) f t m;
  }
