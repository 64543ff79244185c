-- Braces nest, and no line stands deeper than the range has places.
-- Inductions over the tree: whatever nests, nests with a range's lines in front. Lines without braces are treated in `Plain`.
use mathlib.Core.Path.{refl}
use mathlib.Core.Bool.{Bool}
use mathlib.Core.List.{List, [], ◌∷◌, ◌++◌, append_assoc}
use Prim.Native.Nat.{ℕ, ◌+◌, ◌-◌, ◌≤◌, ◌<◌}
use native.Mathlib.Omega.{arith}
use Rattle.cfg.specs.Graph.{first_in, count_in, last_in, label_wanted}
use Rattle.structure.specs.Tree.{Tree}
use Rattle.structure.specs.Tree.Tree.{over, plain, region, loop}
use Rattle.structure.specs.Plan.{What, Line, line, label_if, labelled, head_labelled, shown_lines, body_lines, plain_lines, flat_lines, test_block, loop_lines, region_lines, tree_lines}
use Rattle.structure.specs.Plan.What.{label_line, do_line, open_line, if_goto, while_line, close_line, goto_line, tail_call, insn_line}
use Rattle.structure.specs.Demand.{Brace, Nested, Shallow}
use Rattle.structure.specs.Demand.Brace.{if_brace, do_brace}
use Rattle.structure.proofs.Grown.{Fits}
use Rattle.structure.proofs.Plain.{Braceless, Stands, labels_all, body_all, test_all, block_all, flats_all}

-- whatever nests, nests with these lines in front
abbrev Flat : List Line → Type 0
Flat xs = (st : List Brace) (ys : List Line) → Nested st ys → Nested st (xs ++ ys)

flat_none : Flat []
flat_none st ys n = n

flat_join : (xs ys : List Line) → Flat xs → Flat ys → Flat (xs ++ ys)
flat_join xs ys p q st zs n = rw append_assoc (p st (ys ++ zs) (q st zs n))

flat_one : (blocks : List ℕ) (d k : ℕ) (w : What) (i e : ℕ) → Braceless w → Stands blocks w k i → e ≤ d → Flat (line w k i e ∷ [])
flat_one blocks d k label_line i e l q h st ys n = n
flat_one blocks d k if_goto i e l q h st ys n = n
flat_one blocks d k goto_line i e l q h st ys n = n
flat_one blocks d k tail_call i e l q h st ys n = n
flat_one blocks d k insn_line i e l q h st ys n = n
flat_one blocks d k do_line i e l q h st ys n = absurd l
flat_one blocks d k open_line i e l q h st ys n = absurd l
flat_one blocks d k while_line i e l q h st ys n = absurd l
flat_one blocks d k close_line i e l q h st ys n = absurd l

module _ (blocks edges shown : List ℕ) (B : ℕ) where
  -- ---- braces nest
  abbrev flat_labels : (d : ℕ) (b : Bool) (k : ℕ) → Flat (label_if b k d)
  flat_labels d b k = labels_all blocks shown Flat flat_none flat_join d k (flat_one blocks d k) b

  loop_flat : (i j d : ℕ) → Flat (loop_lines blocks edges shown B i j d)
  unfolding loop_lines test_block
  loop_flat i j d =
      flat_join (label_if (head_labelled blocks edges B i j) i d) _ (flat_labels d (head_labelled blocks edges B i j) i)
      (λ st ys n.
      simp append_assoc
      (flats_all blocks shown Flat flat_none flat_join (d + 1) i j i (j - i) (λ k a b. flat_one blocks (d + 1) k) (do_brace d ∷ st) _
      (flat_labels (d + 1) (label_wanted blocks j) j (do_brace d ∷ st) _
      (test_all blocks shown Flat flat_none flat_join (d + 1) j (flat_one blocks (d + 1) j) (do_brace d ∷ st) (line while_line j (last_in blocks j) d ∷ ys) (refl, n)))))

  region_flat : (from i to d : ℕ) (inner : List Line) → Flat inner → Flat (region_lines blocks edges shown B inner from i to d)
  region_flat from i to d inner p =
      flat_join (label_if (labelled blocks edges B from i to) i d) _ (flat_labels d (labelled blocks edges B from i to) i)
      (flat_join (body_lines blocks shown i d) _ (body_all blocks shown Flat flat_none flat_join d i (flat_one blocks d i))
      (λ st ys n. simp append_assoc (p (if_brace d i ∷ st) (line close_line i 0 d ∷ ys) (refl, n))))

  pub tree_flat : (t : Tree) (from i to d : ℕ) → Flat (tree_lines blocks edges shown B t from i to d)
  unfolding tree_lines
  tree_flat over from i to d = flat_none
  tree_flat (plain r) from i to d =
      flat_join (plain_lines blocks edges shown B from i to d) _ (block_all blocks shown Flat flat_none flat_join d i (flat_one blocks d i) (labelled blocks edges B from i to) to)
      (tree_flat r from (i + 1) to d)
  tree_flat (region t a r) from i to d =
      let inner = tree_lines blocks edges shown B a (i + 1) (i + 1) t (d + 1) in
      flat_join (region_lines blocks edges shown B inner from i to d) _ (region_flat from i to d inner (tree_flat a (i + 1) (i + 1) t (d + 1)))
      (tree_flat r from t to d)
  tree_flat (loop j r) from i to d = flat_join (loop_lines blocks edges shown B i j d) _ (loop_flat i j d) (tree_flat r from (j + 1) to d)

-- ---- indents

shallow_join : (m : ℕ) (xs ys : List Line) → Shallow m xs → Shallow m ys → Shallow m (xs ++ ys)
shallow_join m [] ys p q = q
shallow_join m (x ∷ xs) ys p q = (p.0, shallow_join m xs ys p.1 q)

pub shallow_wider : (m n : ℕ) (xs : List Line) → m ≤ n → Shallow m xs → Shallow n xs
shallow_wider m n [] h p = p
shallow_wider m n (x ∷ xs) h p = (omega arith, shallow_wider m n xs h p.1)

low : (blocks : List ℕ) (m d : ℕ) → d < m → (k : ℕ) (w : What) (i e : ℕ) → Braceless w → Stands blocks w k i → e ≤ d → Shallow m (line w k i e ∷ [])
low blocks m d h k w i e l q p = (omega arith, tt)

module _ (blocks edges shown : List ℕ) (B m : ℕ) where
  abbrev low_labels : (d : ℕ) → d < m → (b : Bool) (k : ℕ) → Shallow m (label_if b k d)
  low_labels d h b k = labels_all blocks shown (Shallow m) tt (shallow_join m) d k (low blocks m d h k) b

  loop_low : (i j d : ℕ) → d + 1 < m → Shallow m (loop_lines blocks edges shown B i j d)
  unfolding loop_lines test_block
  loop_low i j d h =
      shallow_join m (label_if (head_labelled blocks edges B i j) i d) _ (low_labels d (omega arith) (head_labelled blocks edges B i j) i) (
        omega arith,
        shallow_join m (flat_lines blocks shown i j i (j - i) (d + 1)) _
            (flats_all blocks shown (Shallow m) tt (shallow_join m) (d + 1) i j i (j - i) (λ k a b. low blocks m (d + 1) h k))
            (shallow_join m (label_if (label_wanted blocks j) j (d + 1)) _ (low_labels (d + 1) h (label_wanted blocks j) j)
            (shallow_join m (shown_lines shown j (first_in blocks j) (count_in blocks j - 1) (d + 1)) _
            (test_all blocks shown (Shallow m) tt (shallow_join m) (d + 1) j (low blocks m (d + 1) h j)) (omega arith, tt))),
      )

  region_low : (from i to d : ℕ) (inner : List Line) → d < m → Shallow m inner → Shallow m (region_lines blocks edges shown B inner from i to d)
  region_low from i to d inner h p =
      shallow_join m (label_if (labelled blocks edges B from i to) i d) _ (low_labels d h (labelled blocks edges B from i to) i)
      (shallow_join m (body_lines blocks shown i d) _ (body_all blocks shown (Shallow m) tt (shallow_join m) d i (low blocks m d h i))
      (h, shallow_join m inner _ p (h, tt)))

  pub tree_low : (t : Tree) (from i to d : ℕ) → Fits blocks edges t i to → d + (to - i) ≤ m → Shallow m (tree_lines blocks edges shown B t from i to d)
  unfolding tree_lines
  tree_low over from i to d f h = tt
  tree_low (plain r) from i to d f h =
      shallow_join m (plain_lines blocks edges shown B from i to d) _
      (block_all blocks shown (Shallow m) tt (shallow_join m) d i (low blocks m d (omega arith) i) (labelled blocks edges B from i to) to)
      (tree_low r from (i + 1) to d f.1 (omega arith))
  tree_low (region t a r) from i to d f h =
      let inner = tree_lines blocks edges shown B a (i + 1) (i + 1) t (d + 1) in
      shallow_join m (region_lines blocks edges shown B inner from i to d) _
      (region_low from i to d inner (omega arith) (tree_low a (i + 1) (i + 1) t (d + 1) f.4 (omega arith)))
      (tree_low r from t to d f.5 (omega arith))
  tree_low (loop j r) from i to d f h =
      shallow_join m (loop_lines blocks edges shown B i j d) _ (loop_low i j d (omega arith)) (tree_low r from (j + 1) to d f.3 (omega arith))
