-- A record's plan has demand 3 and is small: lines of the range's places and the record's instructions, at most 900, no deeper than 255.
-- The laws of any rows' plan, with what questions 3 and 5 see to.
use Prim.Native.Nat.{ℕ, zero, suc, ◌+◌, ◌-◌, ◌*◌, ◌<◌, ◌≤◌}
use mathlib.Core.Bool.{true}
use mathlib.Core.List.{List}
use mathlib.Core.Path.{◌≡◌, subst}
use native.Mathlib.Decide.{dec_le}
use native.Mathlib.Omega.{arith}
use lib.ListN.{length, replicate, take, length-replicate}
use Rattle.lists.specs.Choice.{sum_below}
use Rattle.lists.specs.Put.{put}
use Rattle.record.specs.declared.header.Header.{Header}
use Rattle.record.specs.Header.{limits_ok}
use Rattle.record.specs.Layout.{starts_of, marks_of, targets_of}
use Rattle.record.specs.Blocks.{first_instruction}
use Rattle.cfg.specs.Graph.{count_in}
use Rattle.structure.specs.Demand.{Shallow}
use Rattle.structure.specs.Placed.{Placed}
use Rattle.structure.proofs.PlanPlaced.{plan_placed}
use Rattle.structure.proofs.Braces.{shallow_wider}
use Rattle.structure.proofs.Props.{demand3}
use Rattle.flow.specs.Rows.{block_rows, edge_rows, shown_rows}
use Rattle.flow.specs.Counted.{Counted}
use Rattle.flow.specs.Planned.{record_plan, RecordDemand3}
use Rattle.flow.proofs.Totals.{sum_grows, instructions_within, limits_small}
use Rattle.flow.proofs.Laws.{put_read}
use Rattle.flow.proofs.Terms.{blocks_length, first_in_lem, count_in_lem}

-- the blocks' rows, stored in a list of the most numbers that they have and read back by their length
pub block_rows_taken : (h : Header) (s : List ℕ) → limits_ok h ≡ true → take (8 * h.blocks) (put 0 (block_rows h s) (replicate 1600 0)) ≡ block_rows h s
block_rows_taken h s ok =
    put_read (block_rows h s) (replicate 1600 0) (8 * h.blocks) (blocks_length h s) (omega (arith, (limits_small h ok).blocks, length-replicate {A = ℕ} 1600 0))

module _ (h : Header) (s : List ℕ) (from : ℕ) where
  -- the instructions before block k's first; how many n blocks have
  abbrev before : ℕ → ℕ
  before k = first_instruction (marks_of h s) k

  abbrev many : ℕ → ℕ
  many n = sum_below (λ m. count_in (block_rows h s) (from + m)) n

  pub many_within : (n : ℕ) → from + n ≤ h.blocks → before from + many n ≤ before (from + n)
  many_within zero le = let e : from + 0 ≡ from = omega arith in rw e (omega arith)
  many_within (suc n) le =
      let b : from + n < h.blocks = omega arith in
      omega (arith, many_within n (omega arith), instructions_within (marks_of h s) (from + n) (from + suc n) (omega arith), count_in_lem h s (from + n) b)

  many_all : Counted h s → many (h.blocks - from) ≤ h.instructions
  many_all t =
      elim (dec_le from h.blocks) [
        | yes a ↦
            let e : from + (h.blocks - from) ≡ h.blocks = omega arith in
            let w = subst (λ (k : ℕ). before from + many (h.blocks - from) ≤ before k) e (many_within (h.blocks - from) (omega arith)) in
            omega (arith, t.instructions)
        | no a ↦ let e : h.blocks - from ≡ 0 = omega arith in rw e (omega arith)
      ]

module _ (h : Header) (s : List ℕ) (from to : ℕ) where
  pub record_demand3 : RecordDemand3 h s from to
  record_demand3 = demand3 (block_rows h s) (edge_rows h s) (shown_rows h s) (starts_of h s) (targets_of h s) h.blocks from to h.indent

  pub record_placed : limits_ok h ≡ true → Counted h s → to ≤ h.blocks → Placed to 500 (record_plan h s from to)
  unfolding record_plan
  record_placed ok t le =
      plan_placed (block_rows h s) (edge_rows h s) (shown_rows h s) (starts_of h s) (targets_of h s) h.blocks 500 from to h.indent
      (λ k below.
      let b : k < h.blocks = omega arith in
      omega (
        arith,
        first_in_lem h s k b,
        count_in_lem h s k b,
        instructions_within (marks_of h s) k h.blocks b,
        t.instructions,
        (limits_small h ok).instructions,
      ))

  pub record_within : Counted h s → to ≤ h.blocks → length (record_plan h s from to) ≤ h.instructions + 2 * h.blocks
  unfolding record_plan
  record_within t le =
      omega (arith, record_demand3.few, sum_grows (λ m. count_in (block_rows h s) (from + m)) (to - from) (h.blocks - from) (omega arith), many_all h s from t)

  pub record_few : limits_ok h ≡ true → Counted h s → to ≤ h.blocks → length (record_plan h s from to) ≤ 900
  record_few ok t le =
      let small = limits_small h ok in
      omega (arith, record_within t le, small.blocks, small.instructions)

  pub record_shallow : limits_ok h ≡ true → to ≤ h.blocks → Shallow 256 (record_plan h s from to)
  unfolding record_plan
  record_shallow ok le =
      let small = limits_small h ok in
      shallow_wider (h.indent + (to - from)) 256 (record_plan h s from to) (omega (arith, small.blocks, small.indent)) record_demand3.shallow
