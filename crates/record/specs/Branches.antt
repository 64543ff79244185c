-- Question 15 (#108): whether each block's True edges agree with its last instruction. Each definition speaks of the parts that begin at
-- its arrays.
use Rattle.std.specs.Prelude.{ℕ, ◌+◌, ◌-◌, List, Bool, not, ◌&&◌, ◌||◌, eqb}
use Rattle.lists.specs.Choice.{pick, all_below, sum_below}
use Rattle.record.specs.Blocks.{instructions_in, edges_in, first_instruction, first_edge, target_at, edge_kind_at}
use Rattle.record.specs.Body.{body_at, is_conditional_branch, operand_number}

-- "1 True"
abbrev pub is_true : List ℕ → ℕ → Bool
is_true kinds e = eqb (edge_kind_at kinds e) 1

-- of n edges from e on: how many are True
unfoldable pub true_count : List ℕ → ℕ → ℕ → ℕ
true_count kinds e n = sum_below (λ m. pick (is_true kinds (e + m)) 1 0) n

module _ (targets kinds : List ℕ) where
  -- each of them that is True leads to an address
  unfoldable pub true_lead : ℕ → ℕ → ℕ → Bool
  true_lead va e n = all_below (λ m. not (is_true kinds (e + m)) || eqb (target_at targets (e + m)) va) n

  -- of a block with c instructions, the last of which is given, and n edges from e on: if that one has a condition and a near branch
  -- first, "exactly one True edge, to that branch's target; any other block must have none"
  unfoldable pub branch_agrees : List ℕ → ℕ → ℕ → ℕ → Bool
  branch_agrees last c e n =
      pick (not (eqb c 0) && is_conditional_branch last)
      (eqb (true_count kinds e n) 1 && true_lead (operand_number last 0) e n)
      (eqb (true_count kinds e n) 0)

  module _ (marks bodies : List ℕ) where
    -- block k's
    unfoldable pub branch_ok : ℕ → Bool
    branch_ok k =
        branch_agrees
        (body_at bodies (first_instruction marks k + instructions_in marks k - 1))
        (instructions_in marks k) (first_edge marks k) (edges_in marks k)

    -- "15 if a block breaks that rule"
    unfoldable pub branches_ok : ℕ → Bool
    branches_ok B = all_below branch_ok B
