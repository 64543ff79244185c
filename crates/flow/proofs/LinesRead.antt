-- What the lines of a record's plan read of their instructions is there: a line's own instruction is one of the record's, and has a condition
-- where the line shows one. Each line stands at its block's instructions, and a block's ending tells of its last one.
use Prim.Native.Nat.{ℕ, ◌≤◌, ◌<◌}
use mathlib.Core.Bool.{Bool, true, false, not, ◌&&◌, ◌||◌, false≢true}
use mathlib.Core.List.{List}
use mathlib.Core.Path.{◌≡◌, refl}
use native.Mathlib.Omega.{arith}
use borrow.Author.Tests.{eqb-false}
use lib.Dec.{eqb}
use Rattle.lists.specs.Choice.{pick}
use Rattle.record.specs.declared.header.Header.{Header}
use Rattle.record.specs.Layout.{starts_of, marks_of, targets_of}
use Rattle.record.specs.Blocks.{instructions_in}
use Rattle.record.specs.Body.{condition_of, operand_kind}
use Rattle.cfg.specs.Graph.{has_condition, last_in}
use Rattle.structure.specs.Plan.{What}
use Rattle.structure.specs.Plan.What.{label_line, do_line, open_line, if_goto, while_line, close_line, goto_line, tail_call, insn_line}
use Rattle.structure.proofs.Plain.{end_in, Stands}
use Rattle.structure.proofs.PlanPlaced.{Each, plan_each}
use Rattle.flow.specs.Silent.{is_direct_jmp, ending_of}
use Rattle.flow.specs.Rows.{last_body, block_ending, block_rows, edge_rows, shown_rows}
use Rattle.flow.specs.SilentList.{body_in}
use Rattle.flow.specs.Counted.{Counted}
use Rattle.flow.specs.Planned.{record_plan}
use Rattle.flow.proofs.Silenced.{last_is}
use Rattle.flow.proofs.Terms.{first_in_lem, count_in_lem, ending_in_lem}
use Rattle.flow.proofs.Totals.{instructions_within}

-- an ending with a condition
abbrev tests : ℕ → Bool
tests ending = eqb ending 1 || eqb ending 2

last_tests : (b : List ℕ) → tests (ending_of b) ≡ true → eqb (condition_of b) 0 ≡ false
unfolding ending_of
last_tests b e = go (eqb (condition_of b) 0) (is_direct_jmp b) e
  where
    go : (z j : Bool) → tests (pick (not z && eqb (operand_kind b 0) 2) 2 (pick (not z) 1 (pick j 3 0))) ≡ true → z ≡ false
    go false j e = refl
    go true true e = absurd (false≢true e)
    go true false e = absurd (false≢true e)

module _ (h : Header) (s : List ℕ) where
  block_tests : (k : ℕ) → tests (block_ending h s k) ≡ true → (0 < instructions_in (marks_of h s) k) × (eqb (condition_of (last_body h s k)) 0 ≡ false)
  unfolding block_ending
  block_tests k e = go (eqb (instructions_in (marks_of h s) k) 0) refl e
    where
      go : (b : Bool) → eqb (instructions_in (marks_of h s) k) 0 ≡ b → tests (pick b 0 (ending_of (last_body h s k))) ≡ true
          → (0 < instructions_in (marks_of h s) k) × (eqb (condition_of (last_body h s k)) 0 ≡ false)
      go true q e = absurd (false≢true e)
      go false q e = (omega (arith, eqb-false (instructions_in (marks_of h s) k) 0 q), last_tests (last_body h s k) e)

  -- instruction i is one of the record's, and has a condition
  abbrev pub Conditional : ℕ → Type 0
  Conditional i = (i < h.instructions) × (eqb (condition_of (body_in h s i)) 0 ≡ false)

  -- what a line reads, by what it is written for: of a call's arguments only what stands before instruction i
  abbrev pub Reads : What → ℕ → Type 0
  Reads label_line i = Unit {0}
  Reads do_line i = Unit {0}
  Reads close_line i = Unit {0}
  Reads open_line i = Conditional i
  Reads if_goto i = Conditional i
  Reads while_line i = Conditional i
  Reads goto_line i = i ≤ h.instructions
  Reads tail_call i = i ≤ h.instructions
  Reads insn_line i = i < h.instructions

  module _ (t : Counted h s) (k : ℕ) (below : k < h.blocks) where
    ends_within : end_in (block_rows h s) k ≤ h.instructions
    ends_within = omega (arith, first_in_lem h s k below, count_in_lem h s k below, instructions_within (marks_of h s) k h.blocks below, t.instructions)

    conditional : (i : ℕ) → i ≡ last_in (block_rows h s) k → has_condition (block_rows h s) k ≡ true → Conditional i
    conditional i e c =
        let p = block_tests k (rw (ending_in_lem h s k below) at c) in
        let l = last_is h s k below in
        let n : i < h.instructions = omega (arith, ends_within, first_in_lem h s k below, count_in_lem h s k below, p.0) in
        (n, rw (e, l) p.1)

    reads : (w : What) (i : ℕ) → Stands (block_rows h s) w k i → Reads w i
    reads label_line i p = tt
    reads do_line i p = tt
    reads close_line i p = tt
    reads open_line i p = conditional i p.0 p.1
    reads if_goto i p = conditional i p.0 p.1
    reads while_line i p = conditional i p.0 p.1
    reads goto_line i p = omega (arith, ends_within)
    reads tail_call i p = omega (arith, ends_within)
    reads insn_line i p = omega (arith, ends_within)

  pub record_reads : Counted h s → (from to : ℕ) → to ≤ h.blocks → Each (λ l. Reads l.what l.at) (record_plan h s from to)
  unfolding record_plan
  record_reads t from to le =
      plan_each (block_rows h s) (edge_rows h s) (shown_rows h s) (starts_of h s) (targets_of h s) h.blocks from to h.indent
      (λ l. Reads l.what l.at) (λ w k i d b p. reads t k (omega arith) w i p)
