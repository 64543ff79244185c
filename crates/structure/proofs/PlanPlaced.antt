-- Every line of a plan is of a place of its range, and of an instruction as what it is written for says: one of its block's, or none.
-- An induction over the tree: the lines of blocks stand where their blocks do.
use mathlib.Core.Path.{◌≡◌, refl}
use mathlib.Core.Bool.{Bool, true}
use mathlib.Core.List.{List, [], ◌∷◌, ◌++◌}
use Prim.Native.Nat.{ℕ, ◌+◌, ◌-◌, ◌≤◌, ◌<◌}
use native.Mathlib.Nat.{le_refl}
use native.Mathlib.Omega.{arith}
use Rattle.lists.specs.Every.{both_yes}
use Rattle.cfg.specs.Graph.{first_in, count_in, has_condition, true_edge_to, has_edge, closes_loop, last_in, label_wanted}
use Rattle.structure.specs.Tree.{Tree, tree_of}
use Rattle.structure.specs.Tree.Tree.{over, plain, region, loop}
use Rattle.structure.specs.Plan.{What, Line, line, label_if, labelled, head_labelled, shown_lines, body_lines, plain_lines, flat_lines, test_block, loop_lines, region_lines, tree_lines, range_lines, plan_of}
use Rattle.structure.specs.Plan.What.{label_line, do_line, open_line, if_goto, while_line, close_line, goto_line, tail_call, insn_line}
use Rattle.structure.specs.Placed.{Placed}
use Rattle.structure.proofs.Grown.{Fits, tree_fits}
use Rattle.structure.proofs.Plain.{Braceless, end_in, Stands, labels_all, body_all, test_all, block_all, flats_all}

-- what holds of each line
abbrev pub Each : (Line → Type 0) → List Line → Type 0
Each P [] = Unit {0}
Each P (l ∷ ls) = P l × Each P ls

module _ (blocks edges shown : List ℕ) (B m : ℕ) (P : Line → Type 0) (of : (w : What) (k i d : ℕ) → k < m → Stands blocks w k i → P (line w k i d)) where
  join : (xs ys : List Line) → Each P xs → Each P ys → Each P (xs ++ ys)
  join [] ys p q = q
  join (x ∷ xs) ys p q = (p.0, join xs ys p.1 q)

  one : (d k : ℕ) → k < m → (w : What) (i e : ℕ) → Braceless w → Stands blocks w k i → e ≤ d → Each P (line w k i e ∷ [])
  one d k s w i e l q h = (of w k i e s q, tt)

  abbrev labels_each : (d : ℕ) (b : Bool) (k : ℕ) → k < m → Each P (label_if b k d)
  labels_each d b k s = labels_all blocks shown (Each P) tt join d k (one d k s) b

  loop_each : (i j d : ℕ) → i < j → j < m → has_condition blocks j ≡ true → Each P (loop_lines blocks edges shown B i j d)
  unfolding loop_lines test_block
  loop_each i j d p q c =
      let first : i < m = omega arith in
      join (label_if (head_labelled blocks edges B i j) i d) _ (labels_each d (head_labelled blocks edges B i j) i first) (
        of do_line i 0 d first refl,
        join (flat_lines blocks shown i j i (j - i) (d + 1)) _
            (flats_all blocks shown (Each P) tt join (d + 1) i j i (j - i) (λ k a b. one (d + 1) k (omega arith)))
            (join (label_if (label_wanted blocks j) j (d + 1)) _ (labels_each (d + 1) (label_wanted blocks j) j q)
            (join (shown_lines shown j (first_in blocks j) (count_in blocks j - 1) (d + 1)) _
            (test_all blocks shown (Each P) tt join (d + 1) j (one (d + 1) j q)) (of while_line j (last_in blocks j) d q (refl, c), tt))),
      )

  region_each : (from i to d : ℕ) (inner : List Line) → i < m → has_condition blocks i ≡ true → Each P inner
      → Each P (region_lines blocks edges shown B inner from i to d)
  region_each from i to d inner s c p =
      join (label_if (labelled blocks edges B from i to) i d) _ (labels_each d (labelled blocks edges B from i to) i s)
      (join (body_lines blocks shown i d) _ (body_all blocks shown (Each P) tt join d i (one d i s))
      (of open_line i (last_in blocks i) d s (refl, c), join inner _ p (of close_line i 0 d s refl, tt)))

  tree_each : (t : Tree) (from i to d : ℕ) → Fits blocks edges t i to → to ≤ m → Each P (tree_lines blocks edges shown B t from i to d)
  unfolding tree_lines closes_loop
  tree_each over from i to d f le = tt
  tree_each (plain r) from i to d f le =
      join (plain_lines blocks edges shown B from i to d) _ (block_all blocks shown (Each P) tt join d i (one d i (omega arith)) (labelled blocks edges B from i to) to)
      (tree_each r from (i + 1) to d f.1 le)
  tree_each (region t a r) from i to d f le =
      let inner = tree_lines blocks edges shown B a (i + 1) (i + 1) t (d + 1) in
      let c : has_condition blocks i ≡ true = rw f.2 in
      join (region_lines blocks edges shown B inner from i to d) _
      (region_each from i to d inner (omega arith) c (tree_each a (i + 1) (i + 1) t (d + 1) f.4 (omega arith)))
      (tree_each r from t to d f.5 le)
  tree_each (loop j r) from i to d f le =
      let c = (both_yes (has_edge blocks (true_edge_to edges i) j) (has_condition blocks j) f.2).1 in
      join (loop_lines blocks edges shown B i j d) _ (loop_each i j d f.0 (omega arith) c) (tree_each r from (j + 1) to d f.3 le)

module _ (blocks edges shown starts targets : List ℕ) (B from to d : ℕ) where
  pub plan_each : (P : Line → Type 0) → ((w : What) (k i e : ℕ) → k < to → Stands blocks w k i → P (line w k i e))
      → Each P (plan_of blocks edges shown starts targets B from to d)
  unfolding range_lines
  plan_each P of =
      tree_each blocks edges shown B to P of (tree_of blocks edges starts targets B from to) from from to d (tree_fits blocks edges starts targets B from to) (le_refl to)

-- no instruction is past its block's end
stands_within : (blocks : List ℕ) (n : ℕ) (w : What) (k i : ℕ) → end_in blocks k ≤ n → Stands blocks w k i → i ≤ n
stands_within blocks n label_line k i h p = omega arith
stands_within blocks n do_line k i h p = omega arith
stands_within blocks n close_line k i h p = omega arith
stands_within blocks n open_line k i h p = omega (arith, p.0)
stands_within blocks n if_goto k i h p = omega (arith, p.0)
stands_within blocks n while_line k i h p = omega (arith, p.0)
stands_within blocks n goto_line k i h p = omega arith
stands_within blocks n tail_call k i h p = omega arith
stands_within blocks n insn_line k i h p = omega arith

placed : (m n : ℕ) (ls : List Line) → Each (λ l. (l.place < m) × (l.at ≤ n)) ls → Placed m n ls
placed m n [] p = tt
placed m n (l ∷ ls) p = (p.0.0, p.0.1, placed m n ls p.1)

pub plan_placed : (blocks edges shown starts targets : List ℕ) (B N from to d : ℕ)
    → ((k : ℕ) → k < to → first_in blocks k + count_in blocks k ≤ N) → Placed to N (plan_of blocks edges shown starts targets B from to d)
plan_placed blocks edges shown starts targets B N from to d ends =
    placed to N (plan_of blocks edges shown starts targets B from to d)
    (plan_each blocks edges shown starts targets B from to d (λ l. (l.place < to) × (l.at ≤ N)) (λ w k i e b p. (b, stands_within blocks N w k i (ends k b) p)))
