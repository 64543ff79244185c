-- What the writer of the blocks' rows asks of a record, as question 5 sees to: the totals, and a block's own first and number.
use Rattle.std.specs.Prelude.{ℕ, ◌+◌, ◌≤◌, ◌<◌, true, List, [], ◌∷◌, ◌≡◌}
use Rattle.record.specs.declared.header.Header.{Header}
use Rattle.record.specs.Header.{limits_ok}
use Rattle.record.specs.Layout.{length_ok, marks_of}
use Rattle.record.specs.Blocks.{instructions_in, label_mark, first_instruction, first_edge}
use Rattle.flow.specs.Rows.{block_ending, block_branch}

pub record Counted (h : Header) (s : List ℕ) : Type 0 where
  pub instructions : first_instruction (marks_of h s) h.blocks ≡ h.instructions
  pub edges : first_edge (marks_of h s) h.blocks ≡ h.edges

-- what the planner asks of a record and a range, as questions 3, 4, 5 and 11 see to
pub record Plannable (h : Header) (s : List ℕ) (from to : ℕ) : Type 0 where
  pub limits : limits_ok h ≡ true
  pub whole : length_ok h s ≡ true
  pub counted : Counted h s
  pub range : (from ≤ to) × (to ≤ h.blocks)

-- block k has n instructions from the first on
pub record BlockHas (h : Header) (s : List ℕ) (k first n : ℕ) : Type 0 where
  pub begins : first ≡ first_instruction (marks_of h s) k
  pub many : n ≡ instructions_in (marks_of h s) k
  pub fits : first + n < 65536

-- the second half of a block's row
abbrev pub row_ending : Header → List ℕ → ℕ → List ℕ
row_ending h s k = label_mark (marks_of h s) k ∷ block_ending h s k ∷ block_branch h s k ∷ 0 ∷ []
