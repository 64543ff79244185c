-- The shape of a range, once, as data: what stands at its first place, then the shape of what follows. Places are not stored: each
-- fold hands its place on, to the next one, to an if-region's join, or to the one behind a do-loop.
use Rattle.std.specs.Prelude.{ℕ, zero, suc, ◌+◌, ◌-◌, List, Bool, true, false, ltb}
use Rattle.cfg.specs.Shape.{shape_at}
use Rattle.cfg.specs.declared.shape.Shape.{Shape}
use Rattle.cfg.specs.declared.shape.Shape.TheVariants.{Loop, Region, Plain}

-- a range that is over; a plain block and the rest; an if-region up to a join, what is inside, and the rest; a do-loop up to its last
-- place, and the rest
pub data Tree : Type 0 where
  over : Tree
  plain : Tree → Tree
  region : ℕ → Tree → Tree → Tree
  loop : ℕ → Tree → Tree

-- one step from place i of a range up to `to`, if it is not over; `go` gives the trees of smaller ranges
abbrev pub grow : (ℕ → ℕ → Tree) → Bool → Shape → ℕ → ℕ → Tree
grow go false s i to = over
grow go true (Loop j) i to = loop j.0 (go (j.0 + 1) to)
grow go true (Region t) i to = region t.0 (go (i + 1) t.0) (go t.0 to)
grow go true Plain i to = plain (go (i + 1) to)

module _ (blocks edges starts targets : List ℕ) (B : ℕ) where
  -- at most n steps
  unfoldable pub tree_go : ℕ → ℕ → ℕ → Tree
  tree_go zero i to = over
  tree_go (suc n) i to = grow (tree_go n) (ltb i to) (shape_at blocks edges starts targets B i to) i to

  -- a step a place is enough
  unfoldable pub tree_of : ℕ → ℕ → Tree
  tree_of i to = tree_go (to - i) i to
