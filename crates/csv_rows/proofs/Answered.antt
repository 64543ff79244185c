-- What reading promises, from what its passes ensure.
-- The rows read are the only ones whose file the bytes are; and lists that begin with those of rows hold them.
use mathlib.Core.Path.{◌≡◌, refl, sym, ap, ◌∙◌}
use mathlib.Core.Bool.{Bool, true, false, ◌&&◌}
use mathlib.Core.List.{List}
use Prim.Native.Nat.{ℕ, zero, suc, ◌≤◌}
use native.Mathlib.Nat.{zero-add}
use native.Mathlib.Omega.{arith}
use lib.Dec.{leb}
use lib.ListN.{length, length-map}
use borrow.Author.Tests.{leb-true}
use Rattle.lists.specs.Choice.{ask}
use Rattle.lists.specs.Every.{both_yes}
use Rattle.lists.specs.Put.{put}
use Rattle.lists.specs.PutLaws.{put_fits}
use Rattle.tokens.proofs.ListingLaws.{ends_length, kinds_length}
use Rattle.rows.specs.Lists.{Lists, values_of, room_no, rooms_of, sizes_of, over, Leaves, Stands}
use Rattle.rows.specs.Rows.{Row, all_tokens, mark_of, row_lists}
use Rattle.rows.specs.declared.answer.Sizes.{Sizes}
use Rattle.rows.specs.declared.answer.Rooms.{Rooms}
use Rattle.std.specs.Prelude.{Ok, Err}
use Rattle.std.specs.declared.result.Result.{Result}
use Rattle.lists.proofs.Answered.{value_is, question_is, question_some, number_is}
use Rattle.lists.specs.Question.{number, number_of, Answers}
use Rattle.lists.specs.declared.question.Question.{Question}
use Rattle.csv_rows.proofs.Turns.{same_lists}
use Rattle.lists.proofs.Tests.{split}
use Rattle.rows.proofs.Back.{counts_length, leaves_rows}
use Rattle.csv_rows.specs.Format.{rows_text, good_rows}
use Rattle.csv_rows.specs.Called.{writable, Reads}
use Rattle.csv_rows.specs.Reading.{is_rows, rows_read}
use Rattle.csv_rows.specs.Filling.{sizes_read, small, read_no}
use Rattle.csv_rows.proofs.Fit.{rows_fit, writable_good}
use Rattle.csv_rows.proofs.Sound.{accepted, accepted_good}
use Rattle.csv_rows.proofs.Complete.{written, read_back}

-- ---- the number
writable_small : (rs : List Row) → writable rs ≡ small (good_rows rs) (sizes_of (row_lists rs))
unfolding writable row_lists
writable_small rs = rw ends_length

-- the number of a file of rows, and no other number than 16 of bytes that are none
module _ (s : List ℕ) (rooms : Rooms) where
  file_no : (rs : List Row) → writable rs ≡ true → rows_text rs ≡ s → (rows_read s ≡ rs) × (read_no s rooms ≡ room_no (sizes_of (row_lists rs)) rooms)
  unfolding read_no
  file_no rs w q =
      let g = writable_good rs w in
      let e : rows_read s ≡ rs = ap rows_read (sym q) ∙ read_back rs g in
      let o : is_rows s ≡ true = ap is_rows (sym q) ∙ written rs g in
      let z : small true (sizes_of (row_lists rs)) ≡ true = ap (λ (b : Bool). small b (sizes_of (row_lists rs))) (sym g) ∙ sym (writable_small rs) ∙ w in
      (e, rw (e, o, z))

  no_file : (read_no s rooms ≡ 16 → ⊥) → (writable (rows_read s) ≡ true) × (rows_text (rows_read s) ≡ s)
  unfolding read_no
  no_file h =
      split (small (is_rows s) (sizes_read s))
      (λ e.
      let x = leb (sizes_read s).text 4294967295 in
      let o = (both_yes (is_rows s) x (both_yes (is_rows s && x) (leb (sizes_read s).tokens 4294967295) e).0).0 in
      let g : good_rows (rows_read s) ≡ is_rows s = accepted_good s o ∙ sym o in
      (writable_small (rows_read s) ∙ rw g e, accepted s o))
      (λ e. absurd (h (rw e)))

-- ---- what is left, from the passes
over_put : (new old : List ℕ) → length new ≤ length old → put 0 new old ≡ over new old
over_put new old h = put_fits 0 new old (omega arith) ∙ rw zero-add

-- what the number 0 says of rows and room
record Room (s : List ℕ) (z : Sizes) (rooms : Rooms) : Type 0 where
  pub rows : is_rows s ≡ true
  pub text_small : z.text ≤ 4294967295
  pub tokens_small : z.tokens ≤ 4294967295
  pub text : z.text ≤ rooms.text
  pub ends : z.tokens ≤ rooms.ends
  pub kinds : z.tokens ≤ rooms.kinds
  pub addresses : z.lines ≤ rooms.addresses
  pub marks : z.lines ≤ rooms.marks
  pub places : z.lines ≤ rooms.places
  pub lines : z.lines ≤ rooms.lines

asked : (n : ℕ) (q : Bool) (later : ℕ) → ask (suc n) q later ≡ 0 → (q ≡ true) × (later ≡ 0)
asked n true later h = (refl, h)
asked n false later h = absurd (omega arith)

room : (s : List ℕ) (rooms : Rooms) → read_no s rooms ≡ 0 → Room s (sizes_read s) rooms
unfolding room_no read_no
room s rooms h =
    let z = sizes_read s in
    let x = leb z.text 4294967295 in
    let n = leb z.tokens 4294967295 in
    let e = leb z.tokens rooms.ends in
    let k = leb z.tokens rooms.kinds in
    let a = leb z.lines rooms.addresses in
    let m = leb z.lines rooms.marks in
    let p = leb z.lines rooms.places in
    let l = leb z.lines rooms.lines in
    let q = asked 15 (small (is_rows s) z) _ h in
    let q1 = asked 11 (leb z.text rooms.text) _ q.1 in
    let q2 = asked 12 (e && k) _ q1.1 in
    let q3 = asked 13 (a && m && p && l) 0 q2.1 in
    let s1 = both_yes (is_rows s && x) n q.0 in
    let s2 = both_yes (is_rows s) x s1.0 in
    let t1 = both_yes e k q2.0 in
    let l1 = both_yes (a && m && p) l q3.0 in
    let l2 = both_yes (a && m) p l1.0 in
    let l3 = both_yes a m l2.0 in
    record {
      rows = s2.0;
      text_small = leb-true z.text 4294967295 s2.1;
      tokens_small = leb-true z.tokens 4294967295 s1.1;
      text = leb-true z.text rooms.text q1.0;
      ends = leb-true z.tokens rooms.ends t1.0;
      kinds = leb-true z.tokens rooms.kinds t1.1;
      addresses = leb-true z.lines rooms.addresses l3.0;
      marks = leb-true z.lines rooms.marks l3.1;
      places = leb-true z.lines rooms.places l2.1;
      lines = leb-true z.lines rooms.lines l1.1;
    }

-- the lists of rows beside each other have equal lengths
kinds_as_ends : (rs : List Row) → length (row_lists rs).kinds ≡ length (row_lists rs).ends
unfolding row_lists
kinds_as_ends rs = kinds_length (all_tokens rs) ∙ sym (ends_length 0 (all_tokens rs))

marks_as_addresses : (rs : List Row) → length (row_lists rs).marks ≡ length (row_lists rs).addresses
unfolding row_lists
marks_as_addresses rs = length-map rs mark_of ∙ sym (length-map rs (λ (r : Row). r.address))

places_as_addresses : (rs : List Row) → length (row_lists rs).places ≡ length (row_lists rs).addresses
unfolding row_lists
places_as_addresses rs = length-map rs (λ (r : Row). r.place) ∙ sym (length-map rs (λ (r : Row). r.address))

lines_as_addresses : (rs : List Row) → length (row_lists rs).lines ≡ length (row_lists rs).addresses
unfolding row_lists
lines_as_addresses rs = counts_length 0 rs ∙ sym (length-map rs (λ (r : Row). r.address))

filled_leaves : (s : List ℕ) (b a : Lists) → Room s (sizes_read s) (rooms_of b) → Stands (row_lists (rows_read s)) b a
    → Leaves 0 (row_lists (rows_read s)) b a (Ok (sizes_read s))
filled_leaves s b a w f =
    let rs = rows_read s in
    record {
      answer = (refl, refl);
      text = f.text ∙ over_put _ b.text w.text;
      ends = f.ends ∙ over_put _ b.ends w.ends;
      kinds = f.kinds ∙ over_put _ b.kinds (omega (arith, w.kinds, kinds_as_ends rs));
      addresses = f.addresses ∙ over_put _ b.addresses w.addresses;
      marks = f.marks ∙ over_put _ b.marks (omega (arith, w.marks, marks_as_addresses rs));
      places = f.places ∙ over_put _ b.places (omega (arith, w.places, places_as_addresses rs));
      lines = f.lines ∙ over_put _ b.lines (omega (arith, w.lines, lines_as_addresses rs));
    }

refused_leaves : (new b : Lists) (n : ℕ) (q : Question) → n ≡ number q → 1 ≤ n → Leaves n new b b (Err q)
refused_leaves new b zero q e h = absurd (omega (arith, h))
refused_leaves new b (suc n) q e h =
    record { answer = e; text = refl; ends = refl; kinds = refl; addresses = refl; marks = refl; places = refl; lines = refl }

-- ---- what is promised
no_values : (n : ℕ) (z : Sizes) (r : Result Sizes Question) → Answers (suc n) z r → values_of r ≡ record { text = 0; tokens = 0; lines = 0 }
no_values n z (Ok y) v = absurd (omega (arith, v.0))
no_values n z (Err q) v = refl

module _ (s : List ℕ) (b a : Lists) (r : Result Sizes Question) (v : Leaves (read_no s (rooms_of b)) (row_lists (rows_read s)) b a r) where
  abbrev no : ℕ
  no = read_no s (rooms_of b)

  is_no : number_of r ≡ no
  is_no = number_is no (sizes_read s) r v.answer

  reads : Reads s b a r
  reads =
      record {
        rows = λ rs w q. let f = file_no s (rooms_of b) rs w q in rw (f.1, f.0) at v;
        others = λ h. (rows_read s, no_file s (rooms_of b) (λ e. h (is_no ∙ e)));
        refused = λ h. let u : Leaves 16 (row_lists (rows_read s)) b a r = rw (sym is_no ∙ h) at v in
            (no_values 15 (sizes_read s) r u.answer, same_lists a b u.text u.ends u.kinds u.addresses u.marks u.places u.lines);
        again = λ h.
            let u : Leaves 0 (row_lists (rows_read s)) b a r = rw (sym is_no ∙ h) at v in
            let o = (room s (rooms_of b) (sym is_no ∙ h)).rows in
            let k = leaves_rows (rows_read s) b a r u (rows_fit (rows_read s) (accepted_good s o)) in
            (k.0, ap rows_text k.1 ∙ accepted s o);
      }

-- ---- as the code has it: g is the answer to the questions
module _ (s : List ℕ) (rooms : Rooms) (g : Result Sizes Question) (v : Answers (read_no s rooms) (sizes_read s) g) where
  pub room_as : {z : Sizes} → g ≡ Ok z → (is_rows s ≡ true) × ((sizes_read s).text ≤ 4294967295) × ((sizes_read s).tokens ≤ 4294967295)
  room_as {z} h = let w = room s rooms (value_is _ _ g z v h).0 in (w.rows, w.text_small, w.tokens_small)

  pub refused_as : {q : Question} {b : Lists} → rooms ≡ rooms_of b → g ≡ Err q → Reads s b b (Err q)
  refused_as {q} {b} e h =
      reads s b b (Err q)
      (refused_leaves (row_lists (rows_read s)) b (read_no s (rooms_of b)) q (rw (← e) (question_is _ _ g q v h)) (rw (← e) (question_some _ _ g q v h)))

  pub filled_as : {z : Sizes} {b a : Lists} → rooms ≡ rooms_of b → g ≡ Ok z → Stands (row_lists (rows_read s)) b a → Reads s b a (Ok z)
  filled_as {z} {b} {a} e h f =
      let k = value_is _ _ g z v h in
      let q : read_no s (rooms_of b) ≡ 0 = rw e at k.0 in
      rw k.1 (reads s b a (Ok (sizes_read s)) (rw q (filled_leaves s b a (room s (rooms_of b) q) f)))
