-- The looks of a range (#111), a fold over its tree: at each place what is read to tell what stands there, and for its label.
use Rattle.std.specs.Prelude.{ℕ, ◌+◌, List, not, ◌&&◌, ltb}
use Rattle.lists.specs.Choice.{pick}
use Rattle.cfg.specs.Graph.{label_wanted}
use Rattle.cfg.specs.Looks.{outside_looks, shape_looks}
use Rattle.structure.specs.Tree.{Tree, tree_of}
use Rattle.structure.specs.Tree.Tree.{over, plain, region, loop}

module _ (blocks edges : List ℕ) (B : ℕ) where
  -- "the outside test only where a wanted label depends on it": a block that is first in its range
  unfoldable pub label_looks : ℕ → ℕ → ℕ → ℕ
  label_looks from i to = pick (label_wanted blocks i && not (ltb from i)) (outside_looks blocks edges B from to i) 0

  -- and a do-head
  unfoldable pub head_looks : ℕ → ℕ → ℕ
  head_looks i j = pick (label_wanted blocks i) (outside_looks blocks edges B i (j + 1) i) 0

module _ (blocks edges starts targets : List ℕ) (B : ℕ) where
  unfoldable pub tree_looks : Tree → ℕ → ℕ → ℕ → ℕ
  tree_looks over from i to = 0
  tree_looks (plain r) from i to = shape_looks blocks edges starts targets B i to + label_looks blocks edges B from i to + tree_looks r from (i + 1) to
  tree_looks (region t a r) from i to =
      shape_looks blocks edges starts targets B i to + label_looks blocks edges B from i to + tree_looks a (i + 1) (i + 1) t + tree_looks r from t to
  tree_looks (loop j r) from i to = shape_looks blocks edges starts targets B i to + head_looks blocks edges B i j + tree_looks r from (j + 1) to

  -- of the range from `from` up to `to`
  unfoldable pub range_looks : ℕ → ℕ → ℕ → ℕ
  range_looks from i to = tree_looks (tree_of blocks edges starts targets B i to) from i to
