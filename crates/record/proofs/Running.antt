-- Running indexes: where block k + 1's instructions and edges, and entry k + 1's text, begin.
-- Each is the sum at one number more.
use mathlib.Core.Path.{◌≡◌}
use mathlib.Core.List.{List}
use Prim.Native.Nat.{ℕ, ◌+◌}
use Rattle.lists.specs.Below.{sum_more}
use Rattle.record.specs.Blocks.{instructions_in, edges_in, first_instruction, first_edge}
use Rattle.record.specs.Atlas.{entry_length, text_start}

pub instruction_more : (marks : List ℕ) (k : ℕ) → first_instruction marks (k + 1) ≡ first_instruction marks k + instructions_in marks k
unfolding first_instruction
instruction_more marks k = sum_more (instructions_in marks) k

pub edge_more : (marks : List ℕ) (k : ℕ) → first_edge marks (k + 1) ≡ first_edge marks k + edges_in marks k
unfolding first_edge
edge_more marks k = sum_more (edges_in marks) k

pub text_more : (pairs : List ℕ) (k : ℕ) → text_start pairs (k + 1) ≡ text_start pairs k + entry_length pairs k
unfolding text_start
text_more pairs k = sum_more (entry_length pairs) k
