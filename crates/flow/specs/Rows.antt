-- The rows of a record: what the structure reads of its blocks, edges and instructions.
use Rattle.std.specs.Prelude.{ℕ, zero, suc, ◌+◌, ◌-◌, List, [], ◌∷◌, ◌++◌, eqb, leb}
use Rattle.lists.specs.Choice.{pick}
use Rattle.record.specs.declared.header.Header.{Header}
use Rattle.record.specs.Layout.{starts_of, marks_of, targets_of, edge_kinds_of, bodies_of}
use Rattle.record.specs.Blocks.{instructions_in, edges_in, label_mark, first_instruction, first_edge, target_at, edge_kind_at}
use Rattle.record.specs.Body.{body_at, operand_number}
use Rattle.record.specs.Search.{find_from}
use Rattle.std.specs.Prelude.{Option, Some, None}
use Rattle.flow.specs.Silent.{is_silent_itself, ending_of}

-- the rows of n numbers from k on
unfoldable pub rows_from : (ℕ → List ℕ) → ℕ → ℕ → List ℕ
rows_from f k zero = []
rows_from f k (suc n) = f k ++ rows_from f (suc k) n

-- the place that a search found; 65535 if it found none
abbrev pub place_found : Option ℕ → ℕ
place_found (Some k) = k
place_found None = 65535

module _ (h : Header) (s : List ℕ) where
  -- the place of the first block that starts at an address; question 6 makes it the only one
  unfoldable pub place_of : ℕ → ℕ
  place_of va = place_found (find_from (starts_of h s) va 0 h.blocks)

  -- the last instruction of block k, where it has one
  abbrev pub last_body : ℕ → List ℕ
  last_body k = body_at (bodies_of h s) (first_instruction (marks_of h s) k + instructions_in (marks_of h s) k - 1)

  unfoldable pub block_ending : ℕ → ℕ
  block_ending k = pick (eqb (instructions_in (marks_of h s) k) 0) 0 (ending_of (last_body k))

  -- the place of a closing branch's target
  unfoldable pub block_branch : ℕ → ℕ
  block_branch k = pick (leb 2 (block_ending k)) (place_of (operand_number (last_body k) 0)) 65535

  -- eight numbers a block: first instruction, number of instructions, first edge, number of edges, label wanted, ending, place of
  -- the branch's target, 0
  unfoldable pub block_row : ℕ → List ℕ
  block_row k =
      first_instruction (marks_of h s) k
      ∷ instructions_in (marks_of h s) k
      ∷ first_edge (marks_of h s) k
      ∷ edges_in (marks_of h s) k
      ∷ label_mark (marks_of h s) k
      ∷ block_ending k
      ∷ block_branch k
      ∷ 0
      ∷ []

  unfoldable pub block_rows : List ℕ
  block_rows = rows_from block_row 0 h.blocks

  -- two numbers an edge: place of the target, kind
  unfoldable pub edge_row : ℕ → List ℕ
  edge_row e = place_of (target_at (targets_of h s) e) ∷ edge_kind_at (edge_kinds_of h s) e ∷ []

  unfoldable pub edge_rows : List ℕ
  edge_rows = rows_from edge_row 0 h.edges

  -- one number an instruction: 1 if it is not silent by itself
  unfoldable pub shown_row : ℕ → List ℕ
  shown_row i = pick (is_silent_itself h.bits h.frame (body_at (bodies_of h s) i)) 0 1 ∷ []

  unfoldable pub shown_rows : List ℕ
  shown_rows = rows_from shown_row 0 h.instructions
