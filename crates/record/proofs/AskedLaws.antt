-- What the questions before 12 see to, each a law of its own, of a record and range for which all got a yes.
-- A stage that answers 0 lets the later ones answer, and a question that was passed got a yes.
use mathlib.Core.Path.{◌≡◌, refl}
use mathlib.Core.Bool.{Bool, true, false, ◌&&◌}
use mathlib.Core.List.{List}
use Prim.Native.Nat.{ℕ, zero, suc, ◌≤◌, ◌<◌}
use native.Mathlib.Omega.{arith}
use borrow.Author.Tests.{leb-true}
use lib.Dec.{leb}
use Rattle.lists.specs.Choice.{ask}
use Rattle.lists.specs.Every.{both_yes}
use Rattle.lists.specs.Below.{all_at}
use Rattle.x86.specs.Registers.{register_exists}
use Rattle.record.specs.declared.header.Header.{Header}
use Rattle.record.specs.Header.{header_of, header_fits, fields_ok, limits_ok}
use Rattle.record.specs.Layout.{length_ok, starts_of, marks_of, bodies_of}
use Rattle.record.specs.Blocks.{marks_ok, starts_differ}
use Rattle.record.specs.Body.{body_at, body_ok, bodies_ok}
use Rattle.record.specs.Asked.{or_else, sizes_no, marks_asked, starts_asked, edge_kinds_asked, bodies_asked, branches_asked, atlas_asked, spans_asked, blocks_no, contents_no, range_no, first_no}
use Rattle.record.proofs.Bodies.{Proper, proper}

pub later : (a b : ℕ) → or_else a b ≡ 0 → (a ≡ 0) × (b ≡ 0)
later zero b h = (refl, h)
later (suc n) b h = absurd (omega arith)

-- a stage that has a number
pub stage_stops : (n later : ℕ) → (n ≡ 0 → ⊥) → n ≡ or_else n later
stage_stops zero later p = absurd (p refl)
stage_stops (suc n) later p = refl

pub passed : (n : ℕ) (q : Bool) (l : ℕ) → ask (suc n) q l ≡ 0 → (q ≡ true) × (l ≡ 0)
passed n true l h = (refl, h)
passed n false l h = absurd (omega arith)

-- ---- questions 1 to 4
module _ (s : List ℕ) (yes : sizes_no s ≡ 0) where
  sizes_fields : (header_fits s ≡ true) × ((fields_ok (header_of s) ≡ true) × (ask 3 (limits_ok (header_of s)) (ask 4 (length_ok (header_of s) s) 0) ≡ 0))
  unfolding sizes_no
  sizes_fields =
      let a = passed 0 (header_fits s) _ yes in
      (a.0, passed 1 (fields_ok (header_of s)) _ a.1)

  pub sizes_fit : header_fits s ≡ true
  sizes_fit = sizes_fields.0

  pub sizes_limits : limits_ok (header_of s) ≡ true
  sizes_limits = (passed 2 (limits_ok (header_of s)) _ sizes_fields.1.1).0

  pub sizes_length : length_ok (header_of s) s ≡ true
  sizes_length = (passed 3 (length_ok (header_of s) s) 0 (passed 2 (limits_ok (header_of s)) _ sizes_fields.1.1).1).0

module _ (s : List ℕ) (from to : ℕ) (yes : first_no s from to ≡ 0) where
  abbrev h : Header
  h = header_of s

  stages : (sizes_no s ≡ 0) × (blocks_no h s ≡ 0) × (contents_no h s ≡ 0) × (range_no h from to ≡ 0)
  unfolding first_no
  stages =
      let a = later (sizes_no s) _ yes in
      let b = later (blocks_no h s) _ a.1 in
      let d = later (contents_no h s) (range_no h from to) b.1 in
      (a.0, b.0, d.0, d.1)

  -- question 3
  pub yes_limits : limits_ok h ≡ true
  yes_limits = sizes_limits s stages.0

  -- question 4
  pub yes_length : length_ok h s ≡ true
  yes_length = sizes_length s stages.0

  -- question 5
  pub yes_marks : marks_ok (marks_of h s) h.blocks h.instructions h.edges ≡ true
  unfolding blocks_no marks_asked
  yes_marks = (passed 4 _ (ask 6 (starts_asked h s) (ask 7 (edge_kinds_asked h s) 0)) stages.1).0

  -- question 6
  pub yes_starts : starts_differ (starts_of h s) h.blocks ≡ true
  unfolding blocks_no starts_asked
  yes_starts = (passed 5 (starts_asked h s) (ask 7 (edge_kinds_asked h s) 0) (passed 4 (marks_asked h s) _ stages.1).1).0

  -- questions 9 and 10
  abbrev texts : ℕ
  texts = ask 9 (atlas_asked h s) (ask 10 (spans_asked h s) 0)

  -- question 8
  pub yes_bodies : bodies_asked h s ≡ true
  unfolding contents_no
  yes_bodies = (passed 7 (bodies_asked h s) (ask 15 (branches_asked h s) texts) stages.2).0

  -- of each instruction
  pub yes_body : (i : ℕ) → i < h.instructions → Proper (body_at (bodies_of h s) i)
  unfolding bodies_asked bodies_ok
  yes_body i l =
      proper (body_at (bodies_of h s) i)
      (all_at (λ j. body_ok (body_at (bodies_of h s) j)) h.instructions i
      (both_yes (register_exists h.frame) (bodies_ok (bodies_of h s) h.instructions) yes_bodies).1 l)

  -- question 15
  pub yes_branches : branches_asked h s ≡ true
  unfolding contents_no
  yes_branches = (passed 14 (branches_asked h s) texts (passed 7 (bodies_asked h s) _ stages.2).1).0

  -- question 9
  pub yes_atlas : atlas_asked h s ≡ true
  unfolding contents_no
  yes_atlas =
      (passed 8 (atlas_asked h s) (ask 10 (spans_asked h s) 0) (passed 14 (branches_asked h s) texts (passed 7 (bodies_asked h s) _ stages.2).1).1).0

  -- question 11
  pub yes_range : (from ≤ to) × (to ≤ h.blocks)
  unfolding range_no
  yes_range =
      let q = both_yes (leb from to) (leb to h.blocks) (passed 10 (leb from to && leb to h.blocks) 0 stages.3).0 in
      (leb-true _ _ q.0, leb-true _ _ q.1)
