-- Places never fall from one line to the next, lone braces left out (#107).
-- An induction over the tree: a block's lines are of its place, and what stands behind them begins no lower.
use mathlib.Core.Bool.{Bool}
use mathlib.Core.List.{List, [], ◌∷◌, ◌++◌, append_assoc, append-nil}
use Prim.Native.Nat.{ℕ, zero, suc, ◌+◌, ◌-◌, ◌≤◌}
use native.Mathlib.Nat.{le_refl}
use native.Mathlib.Omega.{arith}
use mathlib.Core.Path.{◌≡◌, subst}
use Rattle.cfg.specs.Graph.{first_in, count_in, last_in, label_wanted}
use Rattle.structure.specs.Tree.{Tree, tree_of}
use Rattle.structure.specs.Tree.Tree.{over, plain, region, loop}
use Rattle.structure.specs.Plan.{What, Line, line, label_if, labelled, head_labelled, inner_labelled, shown_lines, body_lines, block_lines, plain_lines, flat_lines, test_block, loop_lines, region_lines, tree_lines, range_lines, plan_of}
use Rattle.structure.specs.Plan.What.{label_line, do_line, open_line, if_goto, while_line, close_line, goto_line, tail_call, insn_line}
use Rattle.structure.specs.Demand.{Rising}
use Rattle.structure.proofs.Grown.{Fits, tree_fits}
use Rattle.structure.proofs.Plain.{Braceless, Stands, labels_all, body_all, test_all, block_all}

-- of lines with places from a to b: whatever rises from each place up to b, rises from each up to a with these lines in front
abbrev Climb : ℕ → ℕ → List Line → Type 0
Climb a b xs = (m : ℕ) (ys : List Line) → m ≤ a → ((n : ℕ) → n ≤ b → Rising n ys) → Rising m (xs ++ ys)

climb_none : (a b : ℕ) → a ≤ b → Climb a b []
climb_none a b h m ys p r = r m (omega arith)

climb_join : (a b c d : ℕ) (xs ys : List Line) → b ≤ c → Climb a b xs → Climb c d ys → Climb a d (xs ++ ys)
climb_join a b c d xs ys h p q m zs l r = rw append_assoc (p m (ys ++ zs) l (λ n le. q n zs (omega arith) r))

line_climb : (k : ℕ) (w : What) (i d : ℕ) → Climb k k (line w k i d ∷ [])
line_climb k label_line i d m ys p r = (p, r k (le_refl k))
line_climb k do_line i d m ys p r = (p, r k (le_refl k))
line_climb k open_line i d m ys p r = (p, r k (le_refl k))
line_climb k if_goto i d m ys p r = (p, r k (le_refl k))
line_climb k while_line i d m ys p r = (p, r k (le_refl k))
line_climb k close_line i d m ys p r = r m p
line_climb k goto_line i d m ys p r = (p, r k (le_refl k))
line_climb k tail_call i d m ys p r = (p, r k (le_refl k))
line_climb k insn_line i d m ys p r = (p, r k (le_refl k))

-- a block's lines are all of its place
module _ (blocks : List ℕ) (k : ℕ) where
  none : Climb k k []
  none = climb_none k k (le_refl k)

  join : (xs ys : List Line) → Climb k k xs → Climb k k ys → Climb k k (xs ++ ys)
  join xs ys = climb_join k k k k xs ys (le_refl k)

  one : (d : ℕ) (w : What) (i e : ℕ) → Braceless w → Stands blocks w k i → e ≤ d → Climb k k (line w k i e ∷ [])
  one d w i e l q h = line_climb k w i e

module _ (blocks edges shown : List ℕ) (B : ℕ) where
  labels_climb : (b : Bool) (k d : ℕ) → Climb k k (label_if b k d)
  labels_climb b k d = labels_all blocks shown (Climb k k) (none blocks k) (join blocks k) d k (one blocks k d) b

  block_climb : (b : Bool) (k to d : ℕ) → Climb k k (block_lines blocks shown b k to d)
  block_climb b k to d = block_all blocks shown (Climb k k) (none blocks k) (join blocks k) d k (one blocks k d) b to

  flats_climb : (i j k n d : ℕ) → Climb k (k + n) (flat_lines blocks shown i j k n d)
  unfolding flat_lines
  flats_climb i j k zero d = climb_none k (k + 0) (omega arith)
  flats_climb i j k (suc n) d =
      let e : suc k + n ≡ k + suc n = omega arith in
      climb_join k k (suc k) (k + suc n) (block_lines blocks shown (inner_labelled blocks i k) k (j + 1) d) _ (omega arith)
      (block_climb (inner_labelled blocks i k) k (j + 1) d) (subst (λ (m : ℕ). Climb (suc k) m (flat_lines blocks shown i j (suc k) n d)) e (flats_climb i j (suc k) n d))

  test_climb : (j d : ℕ) → Climb j j (test_block blocks shown j d)
  unfolding test_block
  test_climb j d =
      let body = shown_lines shown j (first_in blocks j) (count_in blocks j - 1) (d + 1) in
      join blocks j (label_if (label_wanted blocks j) j (d + 1)) (body ++ (line while_line j (last_in blocks j) d ∷ [])) (labels_climb (label_wanted blocks j) j (d + 1))
      (join blocks j body (line while_line j (last_in blocks j) d ∷ [])
      (test_all blocks shown (Climb j j) (none blocks j) (join blocks j) (d + 1) j (one blocks j (d + 1))) (line_climb j while_line (last_in blocks j) d))

  loop_climb : (i j d : ℕ) → i ≤ j → Climb i j (loop_lines blocks edges shown B i j d)
  unfolding loop_lines
  loop_climb i j d h =
      let e : i + (j - i) ≡ j = omega arith in
      let flat = flat_lines blocks shown i j i (j - i) (d + 1) in
      climb_join i i i j (label_if (head_labelled blocks edges B i j) i d) (line do_line i 0 d ∷ (flat ++ test_block blocks shown j d)) (le_refl i)
      (labels_climb (head_labelled blocks edges B i j) i d)
      (climb_join i i i j (line do_line i 0 d ∷ []) (flat ++ test_block blocks shown j d) (le_refl i) (line_climb i do_line 0 d)
      (climb_join i j j j flat (test_block blocks shown j d) (le_refl j) (subst (λ (m : ℕ). Climb i m flat) e (flats_climb i j i (j - i) (d + 1))) (test_climb j d)))

  region_climb : (from i t to d : ℕ) (inner : List Line) → Climb (i + 1) t inner → Climb i t (region_lines blocks edges shown B inner from i to d)
  region_climb from i t to d inner q =
      let closed = inner ++ (line close_line i 0 d ∷ []) in
      let opened = line open_line i (last_in blocks i) d ∷ closed in
      climb_join i i i t (label_if (labelled blocks edges B from i to) i d) (body_lines blocks shown i d ++ opened) (le_refl i)
      (labels_climb (labelled blocks edges B from i to) i d)
      (climb_join i i i t (body_lines blocks shown i d) opened (le_refl i)
      (body_all blocks shown (Climb i i) (none blocks i) (join blocks i) d i (one blocks i d))
      (climb_join i i (i + 1) t (line open_line i (last_in blocks i) d ∷ []) closed (omega arith) (line_climb i open_line (last_in blocks i) d)
      (climb_join (i + 1) t t t inner (line close_line i 0 d ∷ []) (le_refl t) q (λ m ys p r. r m p))))

  tree_climb : (t : Tree) (from i to d : ℕ) → Fits blocks edges t i to → i ≤ to → Climb i to (tree_lines blocks edges shown B t from i to d)
  unfolding tree_lines
  tree_climb over from i to d f h = climb_none i to h
  tree_climb (plain r) from i to d f h =
      climb_join i i (i + 1) to (plain_lines blocks edges shown B from i to d) _ (omega arith) (block_climb (labelled blocks edges B from i to) i to d)
      (tree_climb r from (i + 1) to d f.1 (omega arith))
  tree_climb (region t a r) from i to d f h =
      let inner = tree_lines blocks edges shown B a (i + 1) (i + 1) t (d + 1) in
      climb_join i t t to (region_lines blocks edges shown B inner from i to d) _ (le_refl t)
      (region_climb from i t to d inner (tree_climb a (i + 1) (i + 1) t (d + 1) f.4 (omega arith)))
      (tree_climb r from t to d f.5 (omega arith))
  tree_climb (loop j r) from i to d f h =
      climb_join i j (j + 1) to (loop_lines blocks edges shown B i j d) _ (omega arith) (loop_climb i j d (omega arith))
      (tree_climb r from (j + 1) to d f.3 (omega arith))

pub plan_rises : (blocks edges shown starts targets : List ℕ) (B from to d : ℕ) → from ≤ to
    → Rising from (plan_of blocks edges shown starts targets B from to d)
unfolding range_lines
plan_rises blocks edges shown starts targets B from to d h =
    subst (Rising from) (append-nil (plan_of blocks edges shown starts targets B from to d))
    (tree_climb blocks edges shown B (tree_of blocks edges starts targets B from to) from from to d (tree_fits blocks edges starts targets B from to) h from [] (le_refl from) (λ n le. tt))
