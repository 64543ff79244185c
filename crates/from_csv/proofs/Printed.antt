-- What the program prints of what reading answered, and of input that is too long, keeps its promise.
-- Every file of rows is listed, since the lists that are lent suffice; and what is not refused with 16 is such a file.
use mathlib.Core.Path.{◌≡◌, sym, ap, ◌∙◌}
use mathlib.Core.List.{List, []}
use Prim.Native.Nat.{ℕ, ◌≤◌, ◌<◌}
use native.Mathlib.Decide.{ℕ_discrete}
use native.Mathlib.Omega.{arith}
use lib.Dec.{eqb}
use lib.ListN.{length, length-map}
use Rattle.lists.specs.Choice.{pick}
use Rattle.rows.specs.Lists.{Lists, sizes_of, cut, Leaves}
use Rattle.tokens.proofs.ListingLaws.{ends_length, kinds_length}
use Rattle.rows.specs.Rows.{Row, row_lists, all_tokens}
use Rattle.rows.specs.declared.answer.Sizes.{Sizes}
use Rattle.std.specs.declared.result.Result.{Result}
use Rattle.std.specs.Prelude.{Ok, Err}
use Rattle.lists.specs.Question.{number, number_of}
use Rattle.lists.specs.declared.question.Question.{Question}
use Rattle.lists.proofs.Answered.{question_some}
use Rattle.rows.proofs.Listed.{cut_new}
use Rattle.csv_rows.specs.Called.{Reads}
use Rattle.csv_rows.specs.Format.{rows_text}
use Rattle.csv_rows.proofs.Fit.{writable_good}
use Rattle.csv_rows.proofs.Room.{marks_length, lines_length}
use Rattle.page.specs.Page.{refusal, page_of}
use Rattle.from_csv.specs.Output.{IsFile, page_part, page_parts, refused_part, Prints}
use Rattle.from_csv.proofs.Parts.{whole_page}
use Rattle.from_csv.proofs.Short.{Roomy, few_lines, short_text, room, part_short}

-- lists beside each other
kinds_beside : (rs : List Row) → length (row_lists rs).kinds ≡ length (row_lists rs).ends
unfolding row_lists
kinds_beside rs = kinds_length (all_tokens rs) ∙ sym (ends_length 0 (all_tokens rs))

places_beside : (rs : List Row) → length (row_lists rs).places ≡ length (row_lists rs).addresses
unfolding row_lists
places_beside rs = length-map rs (λ (r : Row). r.place) ∙ sym (length-map rs (λ (r : Row). r.address))

module _ (s : List ℕ) where
  file_short : (rs : List Row) → IsFile s rs → length (rows_text rs) ≤ 262144
  file_short rs f = omega (arith, ap length f.text, f.short)

  file_whole : (rs : List Row) → IsFile s rs → page_parts (row_lists rs) 11 ≡ page_of (row_lists rs)
  file_whole rs f = whole_page (row_lists rs) (omega (arith, few_lines rs (writable_good rs f.rows) (file_short rs f)))

  pub long_prints : (p : ℕ) (out : List ℕ) → 262144 < length s → out ≡ refused_part p → Prints s p out
  long_prints p out h o =
      record { page = λ rs f. absurd (omega (arith, f.short)); whole = file_whole; refused = λ none. o; long = λ q. o }

  module _ (b a : Lists) (roomy : Roomy b) (g : Result Sizes Question) (v : Reads s b a g) (short : length s ≤ 262144) where
    file_listed : (rs : List Row) → IsFile s rs → Leaves 0 (row_lists rs) b a g
    file_listed rs f = rw (room rs (writable_good rs f.rows) (file_short rs f) b roomy) at (v.rows rs f.rows f.text)

    is_file_lem : (number_of g ≡ 16 → ⊥) → (rs : List Row) × IsFile s rs
    is_file_lem h = let o = v.others h in (o.0, record { rows = o.1.0; text = o.1.1; short = short })

    pub refused_prints : (p : ℕ) (out : List ℕ) (q : Question) → g ≡ Err q → out ≡ pick (eqb p 0) (refusal (number q)) [] → Prints s p out
    refused_prints p out q h o =
        record {
          page = λ rs f. absurd (omega (arith, question_some 0 (sizes_of (row_lists rs)) g q (file_listed rs f).answer h));
          whole = file_whole;
          refused = λ none. elim (ℕ_discrete (number q) 16) [
            | yes e ↦ o ∙ rw e
            | no e ↦ let r = is_file_lem (λ n. e (sym (ap number_of h) ∙ n)) in absurd (none r.0 r.1)
          ];
          long = λ more. absurd (omega arith);
        }

    module _ (z : Sizes) (h : g ≡ Ok z) (p : ℕ) where
      abbrev part : List ℕ
      part = page_part (cut a z) p

      cut_is : (rs : List Row) → IsFile s rs → cut a z ≡ row_lists rs
      cut_is rs f = cut_new (file_listed rs f) z h (kinds_beside rs) (marks_length rs) (places_beside rs) (lines_length rs)

      part_is : (rs : List Row) → IsFile s rs → part ≡ page_part (row_lists rs) p
      part_is rs f = ap (λ (l : Lists). page_part l p) (cut_is rs f)

      listed_file : (rs : List Row) × IsFile s rs
      listed_file = is_file_lem (λ q. let n : 0 ≡ 16 = sym (ap number_of h) ∙ q in omega (arith, n))

      -- so that `put_part` may be called
      pub listed_few : (length (cut a z).text ≤ 262144) × (length (cut a z).addresses ≤ 21845)
      listed_few =
          let f = listed_file in
          let good = writable_good f.0 f.1.rows in
          let small = file_short f.0 f.1 in
          let same = cut_is f.0 f.1 in
          (omega (arith, ap (λ (l : Lists). length l.text) same, short_text f.0 good small), omega (arith, ap (λ (l : Lists). length l.addresses) same, few_lines f.0 good small))

      part_fits : length part ≤ 1318156
      part_fits =
          let f = listed_file in
          omega (arith, ap length (part_is f.0 f.1), part_short f.0 (writable_good f.0 f.1.rows) (file_short f.0 f.1) p)

      pub listed_prints : (length part ≤ 1318156) × ((out : List ℕ) → out ≡ part → Prints s p out)
      listed_prints = (
        part_fits,
        λ out o.
            record {
              page = λ rs f. o ∙ part_is rs f;
              whole = file_whole;
              refused = λ none. absurd (none listed_file.0 listed_file.1);
              long = λ q. absurd (omega arith);
            },
      )
