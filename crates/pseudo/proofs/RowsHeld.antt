-- Every listing of an accepted record can be written as rows (#102): the lists that it leaves hold rows.
-- They are the lists of rows made of the plan's lines and their joined tokens, and each such row is fit.
use mathlib.Core.Path.{◌≡◌, refl}
use mathlib.Core.Bool.{Bool, true, false, not, ◌||◌}
use mathlib.Core.List.{List, [], ◌∷◌, map}
use Prim.Native.Nat.{ℕ, ◌+◌, ◌-◌, ◌≤◌, ◌<◌}
use native.Mathlib.Omega.{arith}
use borrow.Author.Tests.{lt-ltb, le-leb}
use lib.Dec.{eqb}
use lib.ListN.{length}
use Rattle.lists.specs.Choice.{pick}
use Rattle.lists.specs.Every.{every}
use Rattle.tokens.specs.Token.{Token}
use Rattle.tokens.specs.Listing.{join, all, counts_from, listing}
use Rattle.tokens.proofs.Fit.{both, join_fit, join_some}
use Rattle.rows.specs.Lists.{Lists, Leaves, values_of}
use Rattle.rows.specs.Rows.{Row, row, all_tokens, token_counts, mark_of, row_lists, holds_rows}
use Rattle.std.specs.declared.result.Result.{Result}
use Rattle.lists.specs.declared.question.Question.{Question}
use Rattle.rows.specs.declared.answer.Sizes.{Sizes}
use Rattle.rows.proofs.Back.{fit_row, leaves_rows}
use Rattle.record.specs.declared.header.Header.{Header}
use Rattle.record.specs.Header.{header_of}
use Rattle.record.specs.Asked.{atlas_asked, first_no}
use Rattle.record.proofs.AskedLaws.{yes_atlas, yes_body}
use Rattle.record.proofs.Bodies.{Proper}
use Rattle.structure.specs.Plan.{Line, is}
use Rattle.structure.specs.Plan.What.{close_line}
use Rattle.structure.specs.Demand.{Shallow}
use Rattle.structure.proofs.Braces.{shallow_wider}
use Rattle.structure.proofs.PlanPlaced.{Each}
use Rattle.flow.specs.Planned.{record_plan}
use Rattle.flow.proofs.Bounds.{record_demand3}
use Rattle.flow.proofs.LinesRead.{Reads, record_reads}
use Rattle.flow.proofs.Totals.{limits_small}
use Rattle.expressions.specs.Condition.{body_of}
use Rattle.line.specs.Print.{line_tokens, mask_after, printed}
use Rattle.line.proofs.Fit.{line_fit}
use Rattle.pseudo.specs.Listed.{line_address, line_mark, line_place, lists_for, record_lines, record_lists}
use Rattle.pseudo.specs.Called.{Accepted}
use Rattle.pseudo.proofs.Calls.{limits, counted, in_range}

turned : (b : Bool) (x y : ℕ) → pick (not b) x y ≡ pick b y x
turned true x y = refl
turned false x y = refl

-- no address where none is told
unaddressed : (b : Bool) (x : ℕ) → (not b || eqb (pick b 0 x) 0) ≡ true
unaddressed true x = refl
unaddressed false x = refl

module _ (h : Header) (s : List ℕ) where
  -- the row of a planned line with these tokens, and the rows of a plan
  abbrev row_for : Line → List Token → Row
  row_for l ts = row (not (is l.what close_line)) (line_address h s l) l.indent l.place (join ts)

  abbrev rows_for : ℕ → ℕ → List Line → List Row
  rows_for range mask [] = []
  rows_for range mask (l ∷ ls) = row_for l (line_tokens h s range mask l) ∷ rows_for range (mask_after h s mask l.what l.at) ls

  -- what rows are made of is what the lines' lists are made of
  record Same (ls : List Line) (ts : List (List Token)) (rs : List Row) : Type 0 where
    tokens : all_tokens rs ≡ all ts
    counts : (n : ℕ) → token_counts n rs ≡ counts_from n ts
    addresses : map (λ (r : Row). r.address) rs ≡ map (line_address h s) ls
    marks : map mark_of rs ≡ map line_mark ls
    places : map (λ (r : Row). r.place) rs ≡ map line_place ls

  same : (range mask : ℕ) (ls : List Line) → Same ls (printed h s range mask ls) (rows_for range mask ls)
  unfolding printed all_tokens token_counts all counts_from
  same range mask [] = record { tokens = refl; counts = λ n. refl; addresses = refl; marks = refl; places = refl }
  same range mask (l ∷ ls) =
      let r = same range (mask_after h s mask l.what l.at) ls in
      record {
        tokens = rw r.tokens;
        counts = λ n. rw r.counts;
        addresses = rw r.addresses;
        marks = rw (turned (is l.what close_line) (l.indent + 256) l.indent, r.marks);
        places = rw r.places;
      }

  lists_are : (range mask : ℕ) (ls : List Line) → lists_for h s (printed h s range mask ls) ls ≡ row_lists (rows_for range mask ls)
  unfolding listing row_lists
  lists_are range mask ls =
      let e = same range mask ls in
      rw (e.tokens, e.counts 0, e.addresses, e.marks, e.places)

  module _ (asked : atlas_asked h s ≡ true) (bodies : (i : ℕ) → i < h.instructions → Proper (body_of h s i)) where
    row_fit : (range mask : ℕ) (l : Line) → Reads h s l.what l.at → l.indent ≤ 254 → fit_row (row_for l (line_tokens h s range mask l)) ≡ true
    row_fit range mask l a d =
        let f = line_fit h s asked bodies range mask l a in
        let ts = join (line_tokens h s range mask l) in
        rw (
          lt-ltb 0 (length ts) (join_some (line_tokens h s range mask l) f.long),
          le-leb l.indent 254 d,
          unaddressed (is l.what close_line) _,
        )
        (join_fit (line_tokens h s range mask l) f.each).each

    rows_fit : (range mask : ℕ) (ls : List Line) → Each (λ l. Reads h s l.what l.at) ls → Shallow 255 ls → every fit_row (rows_for range mask ls) ≡ true
    rows_fit range mask [] a d = refl
    rows_fit range mask (l ∷ ls) a d =
        let rest = rows_for range (mask_after h s mask l.what l.at) ls in
        both (fit_row (row_for l (line_tokens h s range mask l))) (every fit_row rest) (row_fit range mask l a.0 (omega (arith, d.0)))
        (rows_fit range (mask_after h s mask l.what l.at) ls a.1 d.1)

module _ (s : List ℕ) (from to : ℕ) (yes : first_no s from to ≡ 0) where
  abbrev h : Header
  h = header_of s

  accepted : Accepted s from to h
  accepted = record { header = refl; yes = yes }

  -- "no indent exceeds the starting one by B or more", and question 3
  shallow : Shallow 255 (record_plan h s from to)
  unfolding record_plan
  shallow =
      let small = limits_small h (limits s from to h accepted) in
      shallow_wider (h.indent + (to - from)) 255 (record_plan h s from to) (omega (arith, small.blocks, small.indent, in_range s from to h accepted)) (record_demand3 h s from to).shallow

  pub rows_held : (b a : Lists) (r : Result Sizes Question) → Leaves 0 (record_lists h s from to) b a r → holds_rows a (values_of r).text (values_of r).tokens (values_of r).lines ≡ true
  unfolding record_lines
  rows_held b a r v =
      let plan = record_plan h s from to in
      (leaves_rows (rows_for h s _ 0 plan) b a r (rw (lists_are h s _ 0 plan) at v)
      (rows_fit h s (yes_atlas s from to yes) (yes_body s from to yes) _ 0 plan (record_reads h s (counted s from to h accepted) from to (in_range s from to h accepted)) shallow)).0
