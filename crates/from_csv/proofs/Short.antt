-- A file of rows of at most 262,144 bytes: which lists suffice for it, and that no part of its page has more than 1,318,156 bytes.
-- A row has at least twelve bytes, a token six; a line of the page has at most 528 beside its text.
use mathlib.Core.Path.{◌≡◌, refl, sym, ◌∙◌}
use mathlib.Core.Bool.{true}
use mathlib.Core.List.{List, []}
use Prim.Native.Nat.{ℕ, zero, suc, ◌+◌, ◌-◌, ◌*◌, ◌≤◌, ◌<◌}
use native.Mathlib.Decide.{dec_le, ℕ_discrete}
use native.Mathlib.Omega.{arith}
use lib.Dec.{eqb}
use lib.ListN.{length, get_or, length-append}
use borrow.Author.Tests.{eq-eqb, ne_eqb}
use Rattle.lists.specs.Choice.{pick}
use Rattle.tokens.specs.Lines.{end_at}
use Rattle.rows.specs.Lists.{Lists, sizes_of, rooms_of, room_no}
use Rattle.rows.specs.Rows.{Row, row_lists}
use Rattle.rows.proofs.Held.{token_inside, row_inside, text_rise}
use Rattle.csv_rows.specs.Format.{rows_text, good_rows}
use Rattle.csv_rows.proofs.Fit.{addresses_fit, rows_held}
use Rattle.csv_rows.proofs.Holding.{holding}
use Rattle.csv_rows.proofs.Room.{addresses_length, text_length, enough}
use Rattle.page.specs.Page.{count_line, tokens_end, lines_end, lines_text}
use Rattle.page.proofs.Lengths.{count_long, lines_short}
use Rattle.from_csv.specs.Output.{part_count, page_part}
use Rattle.from_csv.proofs.Parts.{part_none, part_min}

-- ---- lists that suffice
abbrev pub Roomy : Lists → Type 0
Roomy b =
    (262144 ≤ length b.text) × (43690 ≤ length b.ends) × (43690 ≤ length b.kinds)
    × (21845 ≤ length b.addresses) × (21845 ≤ length b.marks) × (21845 ≤ length b.places) × (21845 ≤ length b.lines)

-- ---- where lines end
tokens_end_lem : (ends : List ℕ) (k : ℕ) → tokens_end ends k ≡ end_at ends k
tokens_end_lem ends zero = refl
tokens_end_lem ends (suc k) = refl

lines_end_lem : (ends lines : List ℕ) (i : ℕ) → lines_end ends lines i ≡ end_at ends (end_at lines i)
lines_end_lem ends lines zero = refl
lines_end_lem ends lines (suc i) = tokens_end_lem ends (get_or lines i 0)

-- ---- rows
module _ (rs : List Row) (good : good_rows rs ≡ true) (small : length (rows_text rs) ≤ 262144) where
  pub few_lines : length (row_lists rs).addresses ≤ 21845
  few_lines = omega (arith, small, addresses_length rs, (holding rs good).rows)

  pub short_text : length (row_lists rs).text ≤ 262144
  short_text = omega (arith, small, text_length rs, (holding rs good).text)

  -- questions 12 to 14 get a yes
  pub room : (b : Lists) → Roomy b → room_no (sizes_of (row_lists rs)) (rooms_of b) ≡ 0
  room b r =
      enough rs good 262144 small b
      (r.0, omega (arith, r.1), omega (arith, r.2), omega (arith, r.3), omega (arith, r.4), omega (arith, r.5), omega (arith, r.6))

  module _ (p : ℕ) where
    abbrev new : Lists
    new = row_lists rs

    abbrev n : ℕ
    n = length new.addresses

    count_part : length (pick (eqb p 0) (count_line n) []) ≤ 12
    count_part =
        elim (ℕ_discrete p 0) [
          | yes z ↦ rw (eq-eqb p 0 z) (count_long n (omega (arith, few_lines)))
          | no z ↦ rw (ne_eqb p 0 z) (omega arith)
        ]

    end_inside : (i : ℕ) → i ≤ n → lines_end new.ends new.lines i ≤ 262144
    end_inside i h =
        let held = rows_held rs good in
        let k = addresses_length rs in
        let tokens = row_inside new _ _ _ held i (omega arith) in
        omega (arith, lines_end_lem new.ends new.lines i, token_inside new _ _ _ held (end_at new.lines i) tokens, short_text)

    ends_rise : (i : ℕ) → i < n → lines_end new.ends new.lines i ≤ lines_end new.ends new.lines (suc i)
    ends_rise i h =
        let k = addresses_length rs in
        omega (arith, lines_end_lem new.ends new.lines i, lines_end_lem new.ends new.lines (suc i), text_rise new _ _ _ (rows_held rs good) i (omega arith))

    lines_part : (i k : ℕ) → k ≡ part_count (n - i) → length (lines_text new i k) ≤ 528 * 2000 + 262144
    unfolding lines_text
    lines_part i k q =
        let few : k ≤ 2000 = omega (arith, q, part_min (n - i)) in
        elim (dec_le i n) [
          | yes a ↦
              let most : i + k ≤ n = omega (arith, q, part_min (n - i)) in
              omega (arith, few, lines_short new (addresses_fit rs good) n ends_rise i k most, end_inside (i + k) most)
          | no a ↦
              let none : k ≡ 0 = q ∙ sym (part_none n i (omega arith)) in
              rw none (omega arith)
        ]

    -- `lines=` and five digits and LF, 2,000 lines of 528 bytes beside their text, and the text
    pub part_short : length (page_part (row_lists rs) p) ≤ 1318156
    unfolding page_part
    part_short = rw length-append (omega (arith, count_part, lines_part (2000 * p) (part_count (n - 2000 * p)) refl))
