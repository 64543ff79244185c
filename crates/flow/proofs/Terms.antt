-- The rows of a record in the record's terms: what the structure reads of them is what the record says.
-- Each is a number of one row.
use Prim.Native.Nat.{ℕ, ◌+◌, ◌*◌, ◌<◌}
use mathlib.Core.Bool.{Bool, true, false, not}
use mathlib.Core.List.{List}
use mathlib.Core.Path.{◌≡◌, refl, sym, ap, ◌∙◌}
use native.Mathlib.Nat.{add-zero}
use native.Mathlib.Omega.{arith}
use lib.Dec.{eqb}
use lib.ListN.{length, get_or}
use Rattle.lists.specs.Choice.{pick}
use Rattle.record.specs.declared.header.Header.{Header}
use Rattle.record.specs.Layout.{marks_of, targets_of, edge_kinds_of, bodies_of}
use Rattle.record.specs.Blocks.{instructions_in, edges_in, label_mark, first_instruction, first_edge, target_at, edge_kind_at}
use Rattle.record.specs.Body.{body_at}
use Rattle.cfg.specs.Graph.{first_in, count_in, first_edge_in, label_wanted, ending_in, branch_to, edge_to, edge_kind, is_shown}
use Rattle.cfg.specs.Graph as flow
use Rattle.flow.specs.Silent.{is_silent_itself, ending_of}
use Rattle.flow.specs.Rows.{place_of, last_body, block_ending, block_branch, block_row, block_rows, edge_row, edge_rows, shown_row, shown_rows}
use Rattle.flow.proofs.Laws.{rows_length, row_at}

pick_twice : (b : Bool) (x : ℕ) → pick b 0 (pick b 0 x) ≡ pick b 0 x
pick_twice true x = refl
pick_twice false x = refl

pick_shown : (b : Bool) → eqb (pick b 0 1) 1 ≡ not b
pick_shown true = refl
pick_shown false = refl

module _ (h : Header) (s : List ℕ) where
  pub blocks_length : length (block_rows h s) ≡ 8 * h.blocks
  unfolding block_rows block_row
  blocks_length = rows_length (block_row h s) 8 (λ k. refl) 0 h.blocks

  pub edges_length : length (edge_rows h s) ≡ 2 * h.edges
  unfolding edge_rows edge_row
  edges_length = rows_length (edge_row h s) 2 (λ k. refl) 0 h.edges

  pub shown_length : length (shown_rows h s) ≡ h.instructions
  unfolding shown_rows shown_row
  shown_length = rows_length (shown_row h s) 1 (λ k. refl) 0 h.instructions ∙ omega arith

  module _ (k : ℕ) (below : k < h.blocks) where
    block_at : (i : ℕ) → i < 8 → get_or (block_rows h s) (8 * k + i) 0 ≡ get_or (block_row h s k) i 0
    unfolding block_rows block_row
    block_at i g = row_at (block_row h s) 8 (λ k. refl) h.blocks k i below g

    pub first_in_lem : first_in (block_rows h s) k ≡ first_instruction (marks_of h s) k
    unfolding block_row
    first_in_lem = ap (λ (i : ℕ). get_or (block_rows h s) i 0) (sym (add-zero (8 * k))) ∙ block_at 0 (omega arith)

    pub count_in_lem : count_in (block_rows h s) k ≡ instructions_in (marks_of h s) k
    unfolding block_row
    count_in_lem = block_at 1 (omega arith)

    pub first_edge_in_lem : first_edge_in (block_rows h s) k ≡ first_edge (marks_of h s) k
    unfolding block_row
    first_edge_in_lem = block_at 2 (omega arith)

    pub edges_in_lem : flow.edges_in (block_rows h s) k ≡ edges_in (marks_of h s) k
    unfolding block_row
    edges_in_lem = block_at 3 (omega arith)

    pub label_wanted_lem : label_wanted (block_rows h s) k ≡ eqb (label_mark (marks_of h s) k) 1
    unfolding block_row
    label_wanted_lem = ap (λ (x : ℕ). eqb x 1) (block_at 4 (omega arith))

    ending_at : get_or (block_rows h s) (8 * k + 5) 0 ≡ block_ending h s k
    unfolding block_row
    ending_at = block_at 5 (omega arith)

    pub ending_in_lem : ending_in (block_rows h s) k ≡ block_ending h s k
    unfolding ending_in block_ending
    ending_in_lem = rw (count_in_lem, ending_at) (pick_twice (eqb (instructions_in (marks_of h s) k) 0) (ending_of (last_body h s k)))

    pub branch_to_lem : branch_to (block_rows h s) k ≡ block_branch h s k
    unfolding block_row
    branch_to_lem = block_at 6 (omega arith)

  module _ (e : ℕ) (below : e < h.edges) where
    edge_at : (i : ℕ) → i < 2 → get_or (edge_rows h s) (2 * e + i) 0 ≡ get_or (edge_row h s e) i 0
    unfolding edge_rows edge_row
    edge_at i g = row_at (edge_row h s) 2 (λ k. refl) h.edges e i below g

    pub edge_to_lem : edge_to (edge_rows h s) e ≡ place_of h s (target_at (targets_of h s) e)
    unfolding edge_row
    edge_to_lem = ap (λ (i : ℕ). get_or (edge_rows h s) i 0) (sym (add-zero (2 * e))) ∙ edge_at 0 (omega arith)

    pub edge_kind_lem : edge_kind (edge_rows h s) e ≡ edge_kind_at (edge_kinds_of h s) e
    unfolding edge_row
    edge_kind_lem = edge_at 1 (omega arith)

  module _ (i : ℕ) (below : i < h.instructions) where
    shown_at : get_or (shown_rows h s) i 0 ≡ pick (is_silent_itself h.bits h.frame (body_at (bodies_of h s) i)) 0 1
    unfolding shown_rows shown_row
    shown_at =
        let e : i ≡ 1 * i + 0 = omega arith in
        ap (λ (j : ℕ). get_or (shown_rows h s) j 0) e ∙ row_at (shown_row h s) 1 (λ k. refl) h.instructions i 0 below (omega arith)

    pub is_shown_lem : is_shown (shown_rows h s) i ≡ not (is_silent_itself h.bits h.frame (body_at (bodies_of h s) i))
    is_shown_lem = ap (λ (x : ℕ). eqb x 1) shown_at ∙ pick_shown (is_silent_itself h.bits h.frame (body_at (bodies_of h s) i))
