-- What a call left in the lists that a program lends, all zeros before, is what the definition says.
-- With a number every list is as it was; else the first entries of each, as many as its size says, are its part of the listing.
use mathlib.Core.Path.{◌≡◌, refl, sym, ap, ◌∙◌}
use mathlib.Core.List.{List, ◌++◌}
use Prim.Native.Nat.{ℕ, zero, suc, ◌≤◌}
use native.Mathlib.Omega.{arith}
use lib.ListN.{length, drop, length-append, length-map, replicate, length-replicate}
use Rattle.tokens.specs.Listing.{all, listing}
use Rattle.tokens.proofs.ListingLaws.{lines_length, ends_length, kinds_length}
use Rattle.std.specs.declared.result.Result.{Result}
use Rattle.std.specs.Prelude.{Ok, Err}
use Rattle.lists.specs.Question.{number}
use Rattle.lists.specs.declared.question.Question.{Question}
use Rattle.lists.proofs.Answered.{number_some, question_is, question_some}
use Rattle.rows.specs.Lists.{Lists, lists_of, cut, left, rooms_of}
use Rattle.rows.proofs.Listed.{zeroed, text_size, lines_size, cut_new}
use Rattle.record.specs.Header.{header_of}
use Rattle.cfg.specs.Graph.{first_in}
use Rattle.flow.specs.Rows.{block_rows}
use Rattle.flow.specs.Planned.{record_plan}
use Rattle.rows.specs.declared.answer.Sizes.{Sizes}
use Rattle.pseudo.specs.Listed.{line_address, line_mark, line_place, record_lines, record_lists}
use Rattle.pseudo.specs.Called.{sizes, call_no, Called}
use Rattle.pseudo.proofs.Answers.{printed_length}
use Rattle.page.specs.Page.{refusal, output_for}
use Rattle.program.specs.Output.{program_rooms, program_no, output_text}

refused_output : (q : Question) (n : ℕ) (text : List ℕ) → n ≡ number q → output_for n text ≡ refusal (number q)
refused_output q zero text e = absurd (omega (arith, e, number_some q))
refused_output q (suc n) text e = ap refusal e

roomy : (n k : ℕ) (new old l : List ℕ) → n ≡ 0 → l ≡ left n new old → k ≡ length new → k ≤ length l
roomy n k new old l z p q =
    let e : l ≡ new ++ drop (length new) old = p ∙ ap (λ (n : ℕ). left n new old) z in
    omega (arith, ap length e, length-append new (drop (length new) old))

-- ---- the lists that the program lends are all zeros
abbrev zeros : ℕ → List ℕ
zeros n = replicate n 0

-- the lists that the program lends, before the call
abbrev pub lent : Lists
lent = lists_of (zeros 65536) (zeros 16384) (zeros 16384) (zeros 900) (zeros 900) (zeros 900) (zeros 900)

rooms_are : rooms_of lent ≡ program_rooms
rooms_are = let l = length-replicate {A = ℕ} in rw (l 65536 0, l 16384 0, l 900 0)

module _ (s : List ℕ) (to : ℕ) (whole : to ≡ (header_of s).blocks) (a : Lists) (g : Result Sizes Question) (called : Called s 0 to lent a g) where
  abbrev n : ℕ
  n = call_no s 0 to (rooms_of lent)

  abbrev new : Lists
  new = record_lists (header_of s) s 0 to

  number_is : n ≡ program_no s
  number_is = rw (whole, rooms_are)

  output : (shown : Lists → List ℕ) → output_text shown s ≡ output_for n (shown new)
  unfolding output_text
  output shown = rw (whole, rooms_are)

  pub no_output : (shown : Lists → List ℕ) (q : Question) → g ≡ Err q → output_text shown s ≡ refusal (number q)
  no_output shown q h = output shown ∙ refused_output q n (shown new) (question_is n (sizes s 0 to) g q called.answer h)

  pub refused_number : (q : Question) → g ≡ Err q → program_no s ≡ 0 → ⊥
  refused_number q h e = omega (arith, question_some n (sizes s 0 to) g q called.answer h, number_is, e)

  pub many : length new.lines ≡ length new.addresses
  unfolding record_lines
  many =
      let p = record_plan (header_of s) s 0 to in
      lines_length (record_lines (header_of s) s 0 to) ∙ printed_length (header_of s) s (first_in (block_rows (header_of s) s) 0) 0 p ∙ sym (length-map p (line_address (header_of s) s))

  marked : length new.marks ≡ length new.addresses
  marked =
      let p = record_plan (header_of s) s 0 to in
      length-map p line_mark ∙ sym (length-map p (line_address (header_of s) s))

  placed : length new.places ≡ length new.addresses
  placed =
      let p = record_plan (header_of s) s 0 to in
      length-map p line_place ∙ sym (length-map p (line_address (header_of s) s))

  kinded : length new.kinds ≡ length new.ends
  unfolding listing
  kinded = let ts = all (record_lines (header_of s) s 0 to) in kinds_length ts ∙ sym (ends_length 0 ts)

  module _ (z : Sizes) (h : g ≡ Ok z) where
    -- the listing fits the lists
    pub few_lines : z.lines ≤ length a.addresses
    few_lines = roomy n z.lines new.addresses lent.addresses a.addresses (zeroed called z h).0 called.addresses (lines_size called z h)

    pub short_text : z.text ≤ length a.text
    short_text = roomy n z.text new.text lent.text a.text (zeroed called z h).0 called.text (text_size called z h)

    -- what is shown is shown of the listing
    pub listed_output : (shown : Lists → List ℕ) → output_text shown s ≡ shown new
    listed_output shown = output shown ∙ ap (λ (n : ℕ). output_for n (shown new)) (zeroed called z h).0

    -- the first entries of the lists are the listing
    pub cut_listing : cut a z ≡ new
    cut_listing = cut_new called z h kinded marked placed many
