-- A range has at most a line for each of its instructions and two for each of its blocks.
-- A block has a label at most and a line for each instruction; a loop or a region has one line more. An induction over the tree.
use mathlib.Core.Path.{◌≡◌, refl, ap, ◌∙◌}
use mathlib.Core.Bool.{Bool, true, false}
use mathlib.Core.List.{List, [], ◌∷◌}
use Prim.Native.Nat.{ℕ, zero, suc, ◌+◌, ◌-◌, ◌*◌, ◌≤◌, ◌<◌, zero-le}
use native.Mathlib.Nat.{le_refl}
use native.Mathlib.Omega.{arith}
use lib.ListN.{get_or, length, length-append}
use borrow.Author.Tests.{eq-eqb}
use Rattle.lists.specs.Choice.{pick, sum_below}
use Rattle.cfg.specs.Graph.{first_in, count_in, ending_in, ends_in_branch, ends_in_jmp, branch_to, is_block, last_in, is_shown, label_wanted}
use Rattle.cfg.proofs.Within.{pick_both, ends_some, closes_some}
use Rattle.structure.specs.Tree.{Tree, tree_of}
use Rattle.structure.specs.Tree.Tree.{over, plain, region, loop}
use Rattle.structure.specs.Plan.{Line, line, label_if, labelled, head_labelled, inner_labelled, shown_lines, body_count, goes_next, closing_lines, block_lines, flat_lines, test_block, loop_lines, region_lines, tree_lines, range_lines, plan_of}
use Rattle.structure.specs.Plan.What.{goto_line, tail_call}
use Rattle.structure.specs.Demand.{instructions_from}
use Rattle.structure.proofs.Grown.{Fits, tree_fits}

-- ---- sums over places

sum_join : (c : ℕ → ℕ) (i n m : ℕ) → sum_below (λ k. c (i + k)) (n + m) ≡ sum_below (λ k. c (i + k)) n + sum_below (λ k. c (i + n + k)) m
sum_join c i n zero = let e : n + 0 ≡ n = omega arith in rw e (omega arith)
sum_join c i n (suc m) =
    let e : n + suc m ≡ suc (n + m) = omega arith in
    let f : i + (n + m) ≡ i + n + m = omega arith in
    rw (e, sum_join c i n m, f) (omega arith)

sum_split : (c : ℕ → ℕ) (i t to : ℕ) → i ≤ t → t ≤ to
    → sum_below (λ k. c (i + k)) (to - i) ≡ sum_below (λ k. c (i + k)) (t - i) + sum_below (λ k. c (t + k)) (to - t)
sum_split c i t to p q =
    let e : to - i ≡ t - i + (to - t) = omega arith in
    let f : i + (t - i) ≡ t = omega arith in
    ap (sum_below (λ k. c (i + k))) e ∙ sum_join c i (t - i) (to - t)
    ∙ ap (λ (x : ℕ). sum_below (λ k. c (i + k)) (t - i) + sum_below (λ k. c (x + k)) (to - t)) f

sum_front : (c : ℕ → ℕ) (i n : ℕ) → sum_below (λ k. c (i + k)) (suc n) ≡ c i + sum_below (λ k. c (suc i + k)) n
sum_front c i n =
    let e : suc n ≡ 1 + n = omega arith in
    let f : i + 0 ≡ i = omega arith in
    let g : i + 1 ≡ suc i = omega arith in
    ap (sum_below (λ k. c (i + k))) e ∙ sum_join c i 1 n ∙ rw (f, g) (omega arith)

sum_one : (c : ℕ → ℕ) (i : ℕ) → sum_below (λ k. c (i + k)) (i + 1 - i) ≡ c i
sum_one c i =
    let e : i + 1 - i ≡ 1 = omega arith in
    let f : i + 0 ≡ i = omega arith in
    rw (e, f) (omega arith)

pub sum_bound : (c : ℕ → ℕ) (n : ℕ) → ((k : ℕ) → c k < 65536) → sum_below c n ≤ 65535 * n
sum_bound c zero h = zero-le
sum_bound c (suc n) h = omega (arith, sum_bound c n h, h n)

module _ (blocks edges shown : List ℕ) (B : ℕ) where
  abbrev counts : ℕ → ℕ
  counts k = count_in blocks k

  abbrev total : ℕ → ℕ → ℕ
  total i to = instructions_from blocks i to

  total_split : (i t to : ℕ) → i ≤ t → t ≤ to → total i to ≡ total i t + total t to
  total_split i t to p q = sum_split counts i t to p q

  total_one : (i : ℕ) → total i (i + 1) ≡ counts i
  total_one i = sum_one counts i

  -- ---- blocks
  label_few : (b : Bool) (k d : ℕ) → length (label_if b k d) ≤ 1
  label_few b k d = pick_both (λ (l : List Line). length l ≤ 1) b _ _ (λ _. le_refl 1) (λ _. zero-le)

  lines_few : (k i n d : ℕ) → length (shown_lines shown k i n d) ≤ n
  unfolding shown_lines
  lines_few k i zero d = zero-le
  lines_few k i (suc n) d =
      pick_both (λ (l : List Line). length l ≤ suc n) (is_shown shown i) _ _
      (λ _. omega (arith, lines_few k (suc i) n d)) (λ _. omega (arith, lines_few k (suc i) n d))

  jump_few : (b : Bool) (x : Line) → length (pick b [] (x ∷ [])) ≤ 1
  jump_few true x = zero-le
  jump_few false x = le_refl 1

  closing_few : (k to d : ℕ) → body_count blocks k + length (closing_lines blocks k to d) ≤ counts k
  unfolding body_count closing_lines
  closing_few k to d = by (ends_in_branch blocks k) (ends_in_jmp blocks k) refl refl
    where
      by : (b₂ b₃ : Bool) → ends_in_branch blocks k ≡ b₂ → ends_in_jmp blocks k ≡ b₃
          → body_count blocks k + length (closing_lines blocks k to d) ≤ counts k
      by true b₃ p q = rw p (omega (arith, ends_some blocks k 1 p))
      by false true p q = rw (p, q) (omega (arith, ends_some blocks k 2 q, jump_few (goes_next blocks k to) (line (pick (is_block (branch_to blocks k)) goto_line tail_call) k (last_in blocks k) d)))
      by false false p q = rw (p, q) (omega arith)

  head_few : (k : ℕ) → ending_in blocks k ≡ 2 → body_count blocks k + 1 ≤ counts k
  unfolding body_count
  head_few k e =
      let p : ends_in_branch blocks k ≡ true = eq-eqb (ending_in blocks k) 2 e in
      rw p (omega (arith, ends_some blocks k 1 p))

  block_few : (b : Bool) (k to d : ℕ) → length (block_lines blocks shown b k to d) ≤ 1 + counts k
  unfolding block_lines
  block_few b k to d =
      simp length-append
      (omega (
        arith,
        label_few b k d,
        lines_few k (first_in blocks k) (body_count blocks k) d,
        closing_few k to d,
      ))

  flats_few : (i j k n d : ℕ) → length (flat_lines blocks shown i j k n d) ≤ sum_below (λ m. counts (k + m)) n + n
  unfolding flat_lines
  flats_few i j k zero d = zero-le
  flats_few i j k (suc n) d =
      let s : sum_below (λ m. counts (k + m)) (suc n) ≡ counts k + sum_below (λ m. counts (suc k + m)) n = sum_front counts k n in
      simp length-append (omega (arith, block_few (inner_labelled blocks i k) k (j + 1) d, flats_few i j (suc k) n d))

  loop_few : (i j d : ℕ) → 1 ≤ counts j → length (loop_lines blocks edges shown B i j d) ≤ total i j + (j - i) + counts j + 3
  unfolding loop_lines test_block
  loop_few i j d h =
      simp length-append
      (omega (
        arith,
        label_few (head_labelled blocks edges B i j) i d,
        flats_few i j i (j - i) (d + 1),
        label_few (label_wanted blocks j) j (d + 1),
        lines_few j (first_in blocks j) (counts j - 1) (d + 1),
      ))

  region_few : (from i to d : ℕ) (inner : List Line) → ending_in blocks i ≡ 2 → length (region_lines blocks edges shown B inner from i to d) ≤ counts i + 2 + length inner
  region_few from i to d inner e =
      simp length-append
      (omega (
        arith,
        label_few (labelled blocks edges B from i to) i d,
        lines_few i (first_in blocks i) (body_count blocks i) d,
        head_few i e,
      ))

  -- ---- ranges
  tree_few : (t : Tree) (from i to d : ℕ) → Fits blocks edges t i to → length (tree_lines blocks edges shown B t from i to d) ≤ total i to + 2 * (to - i)
  unfolding tree_lines
  tree_few over from i to d f = zero-le
  tree_few (plain r) from i to d f =
      simp length-append
      (omega (arith, block_few (labelled blocks edges B from i to) i to d, tree_few r from (i + 1) to d f.1, total_split i (i + 1) to (omega arith) (omega arith), total_one i))
  tree_few (region t a r) from i to d f =
      let inner = tree_lines blocks edges shown B a (i + 1) (i + 1) t (d + 1) in
      rw (length-append (region_lines blocks edges shown B inner from i to d))
      (omega (
        arith,
        region_few from i to d inner f.2,
        tree_few a (i + 1) (i + 1) t (d + 1) f.4,
        tree_few r from t to d f.5,
        total_split i (i + 1) to (omega arith) (omega arith),
        total_split (i + 1) t to (omega arith) (omega arith),
        total_one i,
      ))
  tree_few (loop j r) from i to d f =
      simp length-append
      (omega (
        arith,
        loop_few i j d (closes_some blocks edges i j f.2),
        tree_few r from (j + 1) to d f.3,
        total_split i j to (omega arith) (omega arith),
        total_split j (j + 1) to (omega arith) (omega arith),
        total_one j,
      ))

module _ (blocks edges shown starts targets : List ℕ) (B : ℕ) where
  pub lines_are_few : (from to d : ℕ) → length (plan_of blocks edges shown starts targets B from to d) ≤ instructions_from blocks from to + 2 * (to - from)
  unfolding range_lines
  lines_are_few from to d = tree_few blocks edges shown B (tree_of blocks edges starts targets B from to) from from to d (tree_fits blocks edges starts targets B from to)

  -- rows of two bytes a number: the number of lines fits four
  pub lines_fit : (from to d : ℕ) → ((k : ℕ) → get_or blocks k 0 < 65536) → to < 65536 → length (plan_of blocks edges shown starts targets B from to d) < 4294967296
  lines_fit from to d h p = omega (arith, lines_are_few from to d, sum_bound (λ m. count_in blocks (from + m)) (to - from) (λ m. h (8 * (from + m) + 1)))
