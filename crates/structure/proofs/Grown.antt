-- The tree of a range without fuel: it is over, or one step and the trees of smaller ranges; and it is well-formed: places in order, an
-- inner range ends at its join. Fuel for each place is enough, and this is all that is said of fuel.
use mathlib.Core.Path.{◌≡◌, refl, sym, ap, ◌∙◌}
use mathlib.Core.Bool.{Bool, true, false}
use mathlib.Core.List.{List}
use Prim.Native.Nat.{ℕ, zero, suc, ◌+◌, ◌-◌, ◌≤◌, ◌<◌}
use native.Mathlib.Omega.{arith}
use lib.Dec.{ltb}
use borrow.Author.Tests.{ltb-true, ltb-false, lt-ltb, le-ltb}
use Rattle.cfg.specs.Graph.{ending_in, branch_to, closes_loop}
use Rattle.cfg.specs.Shape.{shape_at}
use Rattle.cfg.proofs.Within.{Within, shape_within}
use Rattle.cfg.specs.declared.shape.Shape.{Shape}
use Rattle.cfg.specs.declared.shape.Shape.TheVariants.{Loop, Region, Plain}
use Rattle.structure.specs.Tree.{Tree, grow, tree_go, tree_of}
use Rattle.structure.specs.Tree.Tree.{over, plain, region, loop}

module _ (blocks edges : List ℕ) where
  -- a tree is one of the range from i up to `to`
  abbrev pub Fits : Tree → ℕ → ℕ → Type 0
  Fits over i to = to ≤ i
  Fits (plain r) i to = (i < to) × Fits r (i + 1) to
  Fits (region t a r) i to = (i + 1 < t) × (t ≤ to) × (ending_in blocks i ≡ 2) × (branch_to blocks i ≡ t) × Fits a (i + 1) t × Fits r t to
  Fits (loop j r) i to = (i < j) × (j < to) × (closes_loop blocks edges i j ≡ true) × Fits r (j + 1) to

  module _ (starts targets : List ℕ) (B : ℕ) where
    abbrev shape : ℕ → ℕ → Shape
    shape i to = shape_at blocks edges starts targets B i to

    abbrev goes : ℕ → ℕ → ℕ → Tree
    goes n i to = tree_go blocks edges starts targets B n i to

    -- two ways to go on that agree on each smaller range
    grow_same : (g h : ℕ → ℕ → Tree) (b : Bool) (s : Shape) (i to : ℕ) → (b ≡ true → Within blocks edges i to s)
        → ((j t : ℕ) → i < j → t ≤ to → g j t ≡ h j t) → grow g b s i to ≡ grow h b s i to
    grow_same g h false s i to w q = refl
    grow_same g h true (Loop j) i to w q = let v = w refl in rw (q (j.0 + 1) to (omega arith) (omega arith))
    grow_same g h true (Region t) i to w q = let v = w refl in rw (q (i + 1) t.0 (omega arith) (omega arith), q t.0 to (omega arith) (omega arith))
    grow_same g h true Plain i to w q = rw (q (i + 1) to (omega arith) (omega arith))

    go_stop : (n i to : ℕ) → to ≤ i → goes n i to ≡ over
    unfolding tree_go
    go_stop zero i to h = refl
    go_stop (suc n) i to h = rw (le-ltb i to h)

    enough : (n m i to : ℕ) → to - i ≤ n → to - i ≤ m → goes n i to ≡ goes m i to
    unfolding tree_go
    enough zero m i to p q = sym (go_stop m i to (omega arith))
    enough (suc n) zero i to p q = go_stop (suc n) i to (omega arith)
    enough (suc n) (suc m) i to p q =
        grow_same (goes n) (goes m) (ltb i to) (shape i to) i to
        (λ e. shape_within blocks edges starts targets B i to (ltb-true i to e)) (λ j t lt le. enough n m j t (omega arith) (omega arith))

    pub tree_stop : (i to : ℕ) → to ≤ i → tree_of blocks edges starts targets B i to ≡ over
    unfolding tree_of
    tree_stop i to h = go_stop (to - i) i to h

    pub tree_step : (i to : ℕ) → i < to → tree_of blocks edges starts targets B i to ≡ grow (tree_of blocks edges starts targets B) true (shape i to) i to
    unfolding tree_of tree_go
    tree_step i to h =
        enough (to - i) (suc (to - (i + 1))) i to (omega arith) (omega arith)
        ∙ ap (λ (b : Bool). grow (goes (to - (i + 1))) b (shape i to) i to) (lt-ltb i to h)
        ∙ grow_same (goes (to - (i + 1))) (tree_of blocks edges starts targets B) true (shape i to) i to (λ _. shape_within blocks edges starts targets B i to h)
        (λ j t lt le. enough (to - (i + 1)) (t - j) j t (omega arith) (omega arith))

    grow_fits : (g : ℕ → ℕ → Tree) (b : Bool) (s : Shape) (i to : ℕ) → ltb i to ≡ b → (i < to → Within blocks edges i to s)
        → ((j t : ℕ) → i < j → t ≤ to → Fits (g j t) j t) → Fits (grow g b s i to) i to
    grow_fits g false s i to p w q = ltb-false i to p
    grow_fits g true (Loop j) i to p w q =
        let v = w (ltb-true i to p) in (v.0, v.1, v.2, q (j.0 + 1) to (omega arith) (omega arith))
    grow_fits g true (Region t) i to p w q =
        let v = w (ltb-true i to p) in (v.0, v.1, v.2, v.3, q (i + 1) t.0 (omega arith) (omega arith), q t.0 to (omega arith) (omega arith))
    grow_fits g true Plain i to p w q = let v = w (ltb-true i to p) in (v, q (i + 1) to (omega arith) (omega arith))

    go_fits : (n i to : ℕ) → to - i ≤ n → Fits (goes n i to) i to
    unfolding tree_go
    go_fits zero i to h = omega arith
    go_fits (suc n) i to h =
        grow_fits (goes n) (ltb i to) (shape i to) i to refl (shape_within blocks edges starts targets B i to) (λ j t lt le. go_fits n j t (omega arith))

    pub tree_fits : (i to : ℕ) → Fits (tree_of blocks edges starts targets B i to) i to
    unfolding tree_of
    tree_fits i to = go_fits (to - i) i to (omega arith)
