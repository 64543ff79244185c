-- The assumptions of a block, over the rows that the checker reads; checker/proofs/Rows has that a record's rows say what #109's words say.
use Rattle.std.specs.Prelude.{ℕ, ◌+◌, ◌-◌, List, Bool, true, not, ◌&&◌, ◌||◌, eqb, ltb}
use Rattle.lists.specs.Choice.{pick, all_below, sum_below}
use Rattle.record.specs.Blocks.{start_at, target_at, edge_kind_at}
use Rattle.record.specs.Body.{body_at, skip_mark, operand_number}
use Rattle.cfg.specs.Graph.{first_in, count_in, first_edge_in, edges_in, ends_in_branch, ends_in_jmp, branch_to, is_block, last_in}
use Rattle.route.specs.Processor.{is_return, is_jump}
use Rattle.route.specs.Assumed.{turns}
use Rattle.checker.specs.Edges.{of_kind}
use Rattle.checker.specs.declared.edges.Kind.{Kind}
use Rattle.checker.specs.declared.edges.Kind.TheVariants.{Uncond, Onward}

module _ (targets kinds : List ℕ) (blocks : List ℕ) where
  unfoldable pub one_edge_to : Kind → ℕ → ℕ → Bool
  one_edge_to kind k va =
      eqb (sum_below (λ m. pick (of_kind kind (edge_kind_at kinds (first_edge_in blocks k + m))) 1 0) (edges_in blocks k)) 1
      && all_below (λ m. not (of_kind kind (edge_kind_at kinds (first_edge_in blocks k + m))) || eqb (target_at targets (first_edge_in blocks k + m)) va) (edges_in blocks k)

module _ (bodies blocks : List ℕ) where
  abbrev pub last_of : ℕ → List ℕ
  last_of k = body_at bodies (last_in blocks k)

  unfoldable pub turns_inside : ℕ → Bool
  turns_inside k = not (all_below (λ m. not (turns (body_at bodies (first_in blocks k + m)))) (count_in blocks k - 1))

  unfoldable pub last_marked : ℕ → Bool
  last_marked k = not (eqb (count_in blocks k) 0) && eqb (skip_mark (last_of k)) 1

module _ (targets kinds bodies blocks : List ℕ) where
  unfoldable pub jump_led : ℕ → Bool
  jump_led k =
      pick (ends_in_jmp blocks k && is_block (branch_to blocks k)) (one_edge_to targets kinds blocks Uncond k (operand_number (last_of bodies blocks k) 0)) true

  unfoldable pub other_led : List ℕ → ℕ → ℕ → Bool
  other_led starts B k =
      (not (eqb (count_in blocks k) 0) && (is_jump (last_of bodies blocks k) || is_return (last_of bodies blocks k)))
      || (ltb (k + 1) B && one_edge_to targets kinds blocks Onward k (start_at starts (k + 1)))

unfoldable pub branch_inside : List ℕ → ℕ → Bool
branch_inside blocks k = not (ends_in_branch blocks k) || is_block (branch_to blocks k)
