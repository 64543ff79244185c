-- The file of what the call left is what the program promises, and it is short.
-- The lists hold rows; the lists of these rows are the first entries of what the call left, which are the listing.
use mathlib.Core.Path.{◌≡◌, refl, sym, ap, ◌∙◌}
use mathlib.Core.Bool.{Bool, true, false, true≢false}
use mathlib.Core.List.{List, [], ◌∷◌, ◌++◌}
use Prim.Native.Nat.{ℕ, ◌≤◌}
use native.Mathlib.Omega.{arith}
use lib.ListN.{length, take, drop, get_or, length-append}
use lib.Seq.{take-append_seam}
use borrow.Author.Tests.{le-leb}
use Rattle.lists.specs.Choice.{pick}
use Rattle.text.specs.Decimal.{decimal_of, decimal_text}
use Rattle.lists.proofs.Tabs.{tab_length}
use Rattle.rows.specs.Lists.{Lists}
use Rattle.rows.specs.Rows.{Row, row_at, rows_in, row_lists, holds_rows}
use Rattle.rows.specs.declared.answer.Sizes.{Sizes}
use Rattle.std.specs.declared.result.Result.{Result}
use Rattle.std.specs.Prelude.{Ok, Err}
use Rattle.lists.specs.Question.{number, number_of, Answers}
use Rattle.lists.specs.declared.question.Question.{Question}
use Rattle.lists.proofs.Answered.{value_is, question_some, number_is}
use Rattle.rows.proofs.Held.{Held, held}
use Rattle.rows.proofs.Listed.{lines_size}
use Rattle.rows.proofs.Back.{begins_alone, rows_back}
use Rattle.csv_rows.specs.Format.{tokens_text, address_text, row_text, rows_text}
use Rattle.csv_rows.specs.Called.{file, write_no, Writes}
use Rattle.csv_rows.proofs.Heads.{address_size}
use Rattle.csv_rows.proofs.Fit.{rows_fit, writable_good}
use Rattle.record.specs.Header.{header_of}
use Rattle.pseudo.specs.Listed.{record_lists}
use Rattle.pseudo.specs.Called.{Called}
use Rattle.pseudo.specs.Promise.{Promise}
use Rattle.page.specs.Page.{numbered, refusal, stored_output}
use Rattle.program.specs.Output.{whole_lists, output_text}
use Rattle.program.proofs.Lent.{lent, no_output, refused_number, listed_output, cut_listing}
use Rattle.program.proofs.Prints.{prints}
use Rattle.to_csv.specs.Output.{rows_of, file_of, PrintsRows}

-- ---- no file is `no 14`
abbrev head : List ℕ → ℕ
head t = get_or t 0 0

-- a row without an address begins with a comma, one with an address has more than six bytes
no_row : (b : Bool) (r : Row) (rs : List Row) → r.addressed ≡ b → rows_text (r ∷ rs) ≡ refusal 14 → ⊥
unfolding rows_text row_text numbered decimal_of
no_row false r rs h e =
    let n : ℕ = 44 in
    let m : ℕ = 110 in
    let p : head (rows_text (r ∷ rs)) ≡ n = rw h in
    let q : head (refusal 14) ≡ m = refl in
    let d : n ≡ m = sym p ∙ ap head e ∙ q in
    omega (arith, d)
no_row true r rs h e =
    let a = address_text r.addressed r.address in
    let n : length a ≡ 16 = address_size r.addressed r.address ∙ ap (λ (b : Bool). pick b 16 0) h in
    let rest : List ℕ = 44 ∷ (decimal_text r.indent ++ (44 ∷ (decimal_text r.place ++ (tokens_text r.tokens ++ (13 ∷ 10 ∷ []))))) in
    omega (arith, ap length e, n, length-append (row_text r) (rows_text rs), length-append a rest)

pub no_file : (rs : List Row) → rows_text rs ≡ refusal 14 → ⊥
unfolding rows_text numbered decimal_of
no_file [] e = let n : ℕ = 0 in let m : ℕ = 6 in let p : n ≡ m = ap length e in omega (arith, p)
no_file (r ∷ rs) e = no_row r.addressed r rs refl e

-- ---- what is printed
module _ (s : List ℕ) (to : ℕ) (whole : to ≡ (header_of s).blocks) (a : Lists) (g : Result Sizes Question) {looks : ℕ} (promise : Promise s 0 to lent a g looks) where
  abbrev called : Called s 0 to lent a g
  called = promise.called

  abbrev new : Lists
  new = record_lists (header_of s) s 0 to

  -- a number
  pub number_prints : (q : Question) → g ≡ Err q → (out : List ℕ) → out ≡ refusal (number q) → length out ≤ 10 → PrintsRows s out
  number_prints j h out e few = record {
    prints = prints file_of s out (λ o. no_file (rows_of (whole_lists s))) (e ∙ sym (no_output s to whole a g called file_of j h));
    rows = λ o. absurd (refused_number s to whole a g called j h o);
    same = λ o. absurd (refused_number s to whole a g called j h o);
    short = omega arith;
  }

  module _ (z : Sizes) (h : g ≡ Ok z) (texts : length a.text ≡ 65536) (tokens : length a.ends ≡ 16384) (lines : length a.addresses ≡ 900) where
    holds : holds_rows a z.text z.tokens z.lines ≡ true
    holds = rw h at (promise.rows (ap number_of h))

    is_held : Held a z.text z.tokens z.lines
    is_held = held a z.text z.tokens z.lines holds

    module _ (out out' : List ℕ) (w : Result ℕ Question) (wr : Writes a z out out' w) (room : 262144 ≤ length out) where
      short_file : length (file a z) ≤ 238192
      short_file = omega (arith, wr.short holds, is_held.room.text, is_held.room.ends, is_held.room.addresses)

      no_number : write_no a z (length out) ≡ 0
      unfolding write_no
      no_number = rw (holds, le-leb (length (file a z)) (length out) (omega (arith, short_file)))

      written : Answers 0 (length (file a z)) w
      written = rw no_number at wr.answer

      -- the file is never refused
      never_refused : (q : Question) → w ≡ Err q → ⊥
      never_refused q e = omega (arith, question_some 0 (length (file a z)) w q written e)

      zero : number_of w ≡ 0
      zero = number_is 0 (length (file a z)) w written

      rows_written : row_lists (rows_in a z.lines) ≡ new
      rows_written = wr.same zero ∙ cut_listing s to whole a g called z h

      rows_are : rows_in a z.lines ≡ rows_of new
      unfolding rows_in
      rows_are =
          let rs = rows_in a z.lines in
          let n : length rs ≡ length new.addresses = tab_length (row_at a) 0 z.lines ∙ lines_size called z h in
          let back = rows_back rs (row_lists rs) (begins_alone rs) (rows_fit rs (writable_good rs (wr.rows zero))) in
          sym back ∙ ap (λ (l : Lists). rows_in l (length rs)) rows_written ∙ ap (rows_in new) n

      output_are : file a z ≡ output_text file_of s
      output_are = ap rows_text rows_are ∙ sym (listed_output s to whole a g called z h file_of)

      taken : take (length (file a z)) out' ≡ file a z
      taken = rw (wr.bytes, no_number) (take-append_seam (file a z) (drop (length (file a z)) out))

      -- the file
      file_prints : (n : ℕ) → w ≡ Ok n → PrintsRows s (take n out')
      file_prints n e =
          let size : n ≡ length (file a z) = (value_is 0 (length (file a z)) w n written e).1 in
          let is : take n out' ≡ file a z = ap (λ (k : ℕ). take k out') size ∙ taken in
          let of_new : rows_of new ≡ rows_of (whole_lists s) = ap (λ (k : ℕ). rows_of (record_lists (header_of s) s 0 k)) whole in
          record {
            prints = prints file_of s (take n out') (λ o. no_file (rows_of (whole_lists s))) (is ∙ output_are);
            rows = λ o. rw (← of_new, ← rows_are) (wr.rows zero);
            same = λ o. rw (← of_new, ← rows_are) (rows_written ∙ ap (record_lists (header_of s) s 0) whole);
            short = omega (arith, ap length is, short_file);
          }

      -- what is printed of what was written
      stored_as : (r : Result ℕ Question) → w ≡ r → PrintsRows s (stored_output r out')
      stored_as (Ok n) e = file_prints n e
      stored_as (Err q) e = absurd (never_refused q e)

      pub stored_prints : (o : List ℕ) → o ≡ stored_output w out' → PrintsRows s o
      stored_prints o e = rw e (stored_as w refl)
