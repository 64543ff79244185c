-- The page of what the call left, as the program lends it on, is what the program promises, and it is short.
-- The first entries of the lists, as many as the sizes say, are the listing; its ends rise.
use mathlib.Core.Path.{◌≡◌, sym, ap, ◌∙◌}
use mathlib.Core.List.{List}
use Prim.Native.Nat.{ℕ, ◌≤◌}
use native.Mathlib.Omega.{arith}
use lib.ListN.{length, take}
use Rattle.tokens.proofs.ListingLaws.{lines_length}
use Rattle.rows.specs.Lists.{Lists, cut}
use Rattle.record.specs.Header.{header_of}
use Rattle.operand.proofs.Bounds.{AllBytes}
use Rattle.flow.specs.Planned.{record_plan}
use Rattle.rows.specs.declared.answer.Sizes.{Sizes}
use Rattle.std.specs.declared.result.Result.{Result}
use Rattle.std.specs.Prelude.{Ok}
use Rattle.lists.specs.declared.question.Question.{Question}
use Rattle.pseudo.specs.Listed.{record_lines, record_lists}
use Rattle.pseudo.specs.Called.{Called}
use Rattle.page.specs.Page.{lines_end, page_text, page_of}
use Rattle.page.proofs.Lengths.{page_short}
use Rattle.program.specs.Output.{output_text}
use Rattle.rows.proofs.Listed.{text_size, lines_size}
use Rattle.program.proofs.Lent.{lent, listed_output, cut_listing, many, few_lines, short_text}
use Rattle.listing.proofs.Ends.{ends_rise, last_end, addresses_small}

module _ (s : List ℕ) (to : ℕ) (whole : to ≡ (header_of s).blocks) (a : Lists) (g : Result Sizes Question) (called : Called s 0 to lent a g) (z : Sizes) (h : g ≡ Ok z) where
  abbrev new : Lists
  new = record_lists (header_of s) s 0 to

  pub page_output : page_text (cut a z) z.lines ≡ output_text page_of s
  page_output = rw (cut_listing s to whole a g called z h, lines_size called z h) (sym (listed_output s to whole a g called z h page_of))

  -- "lines=900" and LF, 900 lines of 528 bytes beside their text, and the text
  pub short_output : AllBytes s → length a.text ≡ 65536 → length a.addresses ≡ 900 → length (output_text page_of s) ≤ 540746
  short_output bytes p q =
      let ls = record_lines (header_of s) s 0 to in
      let count = length new.addresses in
      let same : length ls ≡ count = sym (lines_length ls) ∙ many s to whole a g called in
      let plan = record_plan (header_of s) s 0 to in
      let few = few_lines s to whole a g called z h in
      let size = lines_size called z h in
      let short = page_short new (addresses_small (header_of s) s bytes plan) count (λ i h. ends_rise ls i (omega arith)) (omega (arith, few, size)) in
      let last : lines_end new.ends new.lines count ≡ length new.text = ap (lines_end new.ends new.lines) (sym same) ∙ last_end ls in
      let is : length (output_text page_of s) ≡ length (page_of new) = ap length (listed_output s to whole a g called z h page_of) in
      omega (arith, short, last, is, few, size, short_text s to whole a g called z h, text_size called z h)
