-- The looks of a range are at most five for each of its places and each edge, and fit eight bytes.
-- An induction over the tree: at each place four at the most to tell what stands there, and one for its label.
use mathlib.Core.Path.{sym}
use mathlib.Core.Bool.{not, ◌&&◌}
use mathlib.Core.List.{List}
use Prim.Native.Nat.{ℕ, ◌+◌, ◌-◌, ◌*◌, ◌≤◌, ◌<◌, zero-le}
use native.Mathlib.Nat.{le_trans, le_of_eq, add-le-add, add-mul, mul-le-mul, mul-le-mul_right}
use native.Mathlib.Omega.{arith}
use lib.Dec.{ltb}
use lib.ListN.{get_or}
use Rattle.cfg.specs.Graph.{label_wanted, edges_in}
use Rattle.cfg.specs.Turn.{edges_before}
use Rattle.cfg.specs.Looks.{outside_looks, shape_looks}
use Rattle.cfg.proofs.Within.{pick_both}
use Rattle.cfg.proofs.Few.{outside_few, shape_few}
use Rattle.structure.specs.Tree.{Tree, tree_of}
use Rattle.structure.specs.Tree.Tree.{over, plain, region, loop}
use Rattle.structure.specs.Looks.{label_looks, head_looks, tree_looks, range_looks}
use Rattle.structure.proofs.Grown.{Fits, tree_fits}
use Rattle.structure.proofs.Few.{sum_bound}

-- the looks of m places, then those of b more: within those of n
join : (e m b n x y : ℕ) → m + b ≤ n → x ≤ 5 * m * e → y ≤ 5 * b * e → x + y ≤ 5 * n * e
join e m b n x y h u v =
    let w : 5 * m + 5 * b ≤ 5 * n = omega arith in
    le_trans (add-le-add u v) (le_trans (le_of_eq (sym (add-mul (5 * m) (5 * b) e))) (mul-le-mul_right e w))

module _ (blocks edges starts targets : List ℕ) (B : ℕ) where
  abbrev all : ℕ
  all = edges_before blocks B

  abbrev told : ℕ → ℕ → ℕ
  told i to = shape_looks blocks edges starts targets B i to

  abbrev folded : Tree → ℕ → ℕ → ℕ → ℕ
  folded t from i to = tree_looks blocks edges starts targets B t from i to

  label_few : (from i to : ℕ) → label_looks blocks edges B from i to ≤ all
  unfolding label_looks
  label_few from i to =
      pick_both (λ (n : ℕ). n ≤ all) (label_wanted blocks i && not (ltb from i)) (outside_looks blocks edges B from to i) 0
      (λ _. outside_few blocks edges B from to i) (λ _. zero-le)

  head_few : (i j : ℕ) → head_looks blocks edges B i j ≤ all
  unfolding head_looks
  head_few i j =
      pick_both (λ (n : ℕ). n ≤ all) (label_wanted blocks i) (outside_looks blocks edges B i (j + 1) i) 0
      (λ _. outside_few blocks edges B i (j + 1) i) (λ _. zero-le)

  -- a place with its label's looks, and b places behind it, of n
  place_few : (i to l b n y : ℕ) → to ≤ B → i ≤ to → l ≤ all → 1 + b ≤ n → y ≤ 5 * b * all → told i to + l + y ≤ 5 * n * all
  place_few i to l b n y f h u v w = join all 1 b n (told i to + l) y v (omega (arith, shape_few blocks edges starts targets B i to f h)) w

  tree_few : (t : Tree) (from i to : ℕ) → to ≤ B → Fits blocks edges t i to → folded t from i to ≤ 5 * (to - i) * all
  unfolding tree_looks
  tree_few over from i to b f = zero-le
  tree_few (plain r) from i to b f =
      place_few i to (label_looks blocks edges B from i to) (to - (i + 1)) (to - i) (folded r from (i + 1) to) b (omega arith) (label_few from i to) (omega arith)
      (tree_few r from (i + 1) to b f.1)
  tree_few (region t a r) from i to b f =
      let l = label_looks blocks edges B from i to in
      let x = folded a (i + 1) (i + 1) t in
      join all (t - i) (to - t) (to - i) (told i to + l + x) (folded r from t to) (omega arith)
      (place_few i to l (t - (i + 1)) (t - i) x b (omega arith) (label_few from i to) (omega arith) (tree_few a (i + 1) (i + 1) t (omega arith) f.4))
      (tree_few r from t to b f.5)
  tree_few (loop j r) from i to b f =
      place_few i to (head_looks blocks edges B i j) (to - (j + 1)) (to - i) (folded r from (j + 1) to) b (omega arith) (head_few i j) (omega arith)
      (tree_few r from (j + 1) to b f.3)

  -- "For E edges in the record and B blocks in the range it is at most 5 × B × E."
  pub looks_few : (from i to : ℕ) → to ≤ B → range_looks blocks edges starts targets B from i to ≤ 5 * (to - i) * all
  unfolding range_looks
  looks_few from i to b = tree_few (tree_of blocks edges starts targets B i to) from i to b (tree_fits blocks edges starts targets B i to)

-- rows of two bytes a number
module _ (blocks : List ℕ) (B : ℕ) (small : (k : ℕ) → get_or blocks k 0 < 65536) (few : B < 65536) where
  pub edges_fit : edges_before blocks B ≤ 4294836225
  edges_fit = omega (arith, sum_bound (edges_in blocks) B (λ k. small (8 * k + 3)))

  pub looks_fit : (edges starts targets : List ℕ) (from i to : ℕ) → to ≤ B → range_looks blocks edges starts targets B from i to < 4611686018427387904
  looks_fit edges starts targets from i to b =
      let n : 5 * (to - i) ≤ 327675 = omega arith in
      let m : 5 * (to - i) * edges_before blocks B ≤ 327675 * 4294836225 = mul-le-mul n edges_fit in
      omega (arith, le_trans (looks_few blocks edges starts targets B from i to b) m)
