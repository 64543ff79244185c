-- The rows of a record's edges stand block by block, and there are rows and targets of all of them.
-- A block's first edge is the sum of the edges before it; question 5 says how many there are, question 4 that their targets are there.
use Prim.Native.Nat.{ℕ, zero, suc, ◌*◌, ◌≤◌}
use mathlib.Core.Bool.{true}
use mathlib.Core.List.{List}
use mathlib.Core.Path.{◌≡◌, refl, sym, ◌∙◌}
use native.Mathlib.Omega.{arith}
use borrow.Author.Tests.{eqb-true}
use lib.ListN.{length, length-drop}
use Rattle.record.specs.declared.header.Header.{Header}
use Rattle.record.specs.Layout.{size_of, length_ok, targets_at, marks_of, targets_of}
use Rattle.record.specs.Blocks.{first_edge}
use Rattle.record.specs.Header.{header_of}
use Rattle.record.specs.Asked.{first_no}
use Rattle.record.proofs.AskedLaws.{yes_limits, yes_length, yes_marks, yes_range}
use Rattle.cfg.specs.Turn.{edges_before, InTurn}
use Rattle.flow.specs.Counted.{Counted, Plannable}
use Rattle.flow.specs.Rows.{block_rows, edge_rows}
use Rattle.flow.proofs.Totals.{marks_counted}
use Rattle.flow.proofs.Terms.{edges_length, first_edge_in_lem, edges_in_lem}

module _ (h : Header) (s : List ℕ) where
  same_before : (k : ℕ) → k ≤ h.blocks → edges_before (block_rows h s) k ≡ first_edge (marks_of h s) k
  unfolding first_edge
  same_before zero l = refl
  same_before (suc k) l = rw (same_before k (omega arith), edges_in_lem h s k (omega arith))

  module _ (t : Counted h s) where
    pub all_edges : edges_before (block_rows h s) h.blocks ≡ h.edges
    all_edges = same_before h.blocks (omega arith) ∙ t.edges

    pub in_turn : InTurn (block_rows h s) (edge_rows h s) h.blocks
    in_turn =
        record {
          first = λ k l. first_edge_in_lem h s k l ∙ sym (same_before k (omega arith));
          all = omega (arith, all_edges, edges_length h s);
        }

    pub all_targets : length_ok h s ≡ true → 8 * edges_before (block_rows h s) h.blocks ≤ length (targets_of h s)
    all_targets ok = omega (arith, all_edges, eqb-true (length s) (size_of h) ok, length-drop (targets_at h) s)

-- what the planner asks of an accepted record
pub plannable : (s : List ℕ) (from to : ℕ) → first_no s from to ≡ 0 → Plannable (header_of s) s from to
plannable s from to ok =
    record {
      limits = yes_limits s from to ok;
      whole = yes_length s from to ok;
      counted = marks_counted (header_of s) s (yes_marks s from to ok);
      range = yes_range s from to ok;
    }
