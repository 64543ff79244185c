-- What a turn of the range writer stores: the numbers of what stands at a place, then those of the rest of the range.
-- One step of the range's tree, a law a shape; and with it how far the shape reaches and how many looks the turn adds.
use mathlib.Core.Path.{◌≡◌, ap, ◌∙◌, subst}
use mathlib.Core.Bool.{true}
use mathlib.Core.List.{List, []}
use Prim.Native.Nat.{ℕ, ◌+◌, ◌≤◌, ◌<◌}
use Rattle.record.specs.declared.blocks.Place.{Place}
use Rattle.cfg.specs.Shape.{shape_at}
use Rattle.cfg.specs.Looks.{shape_looks}
use Rattle.cfg.proofs.Within.{Within, shape_within}
use Rattle.cfg.specs.declared.shape.Shape.{Shape}
use Rattle.cfg.specs.declared.shape.Shape.TheVariants.{Loop, Region, Plain}
use Rattle.structure.specs.Tree.{tree_of, grow}
use Rattle.structure.specs.Plan.{Line, plain_lines, loop_lines, region_lines, tree_lines, range_lines}
use Rattle.structure.specs.Looks.{label_looks, head_looks, tree_looks, range_looks}
use Rattle.structure.specs.Codes.{codes}
use Rattle.structure.proofs.Grown.{tree_stop, tree_step}
use Rattle.structure.proofs.Parts.{codes_join}
use Rattle.structure.proofs.Storing.{Splits}

module _ (blocks edges shown starts targets : List ℕ) (B : ℕ) where
  abbrev range : ℕ → ℕ → ℕ → ℕ → List Line
  range from i to d = range_lines blocks edges shown starts targets B from i to d

  abbrev looks : ℕ → ℕ → ℕ → ℕ
  looks from i to = range_looks blocks edges starts targets B from i to

  abbrev told : ℕ → ℕ → ℕ
  told i to = shape_looks blocks edges starts targets B i to

  pub range_over : (from i to d : ℕ) → to ≤ i → codes (range from i to d) ≡ []
  unfolding range_lines tree_lines
  range_over from i to d h = rw (tree_stop blocks edges starts targets B i to h)

  pub looks_over : (from i to : ℕ) → to ≤ i → looks from i to ≡ 0
  unfolding range_looks tree_looks
  looks_over from i to h = rw (tree_stop blocks edges starts targets B i to h)

  module _ (from i to d : ℕ) (h : i < to) where
    step : (s : Shape) → shape_at blocks edges starts targets B i to ≡ s
        → range from i to d ≡ tree_lines blocks edges shown B (grow (tree_of blocks edges starts targets B) true s i to) from i to d
    unfolding range_lines
    step s e = rw (tree_step blocks edges starts targets B i to h, e)

    looks_step : (s : Shape) → shape_at blocks edges starts targets B i to ≡ s
        → looks from i to ≡ tree_looks blocks edges starts targets B (grow (tree_of blocks edges starts targets B) true s i to) from i to
    unfolding range_looks
    looks_step s e = rw (tree_step blocks edges starts targets B i to h, e)

    turn_loop : (j : Place) → shape_at blocks edges starts targets B i to ≡ Loop j
        → Splits (codes (range from i to d)) (codes (loop_lines blocks edges shown B i j.0 d)) (codes (range from (j.0 + 1) to d))
    unfolding range_lines tree_lines
    turn_loop j e = record { is = ap codes (step (Loop j) e) ∙ codes_join (loop_lines blocks edges shown B i j.0 d) (range from (j.0 + 1) to d) }

    turn_region : (t : Place) → shape_at blocks edges starts targets B i to ≡ Region t
        → Splits (codes (range from i to d)) (codes (region_lines blocks edges shown B (range (i + 1) (i + 1) t.0 (d + 1)) from i to d)) (codes (range from t.0 to d))
    unfolding range_lines tree_lines
    turn_region t e = record { is = ap codes (step (Region t) e) ∙ codes_join (region_lines blocks edges shown B (range (i + 1) (i + 1) t.0 (d + 1)) from i to d) (range from t.0 to d) }

    turn_plain : shape_at blocks edges starts targets B i to ≡ Plain
        → Splits (codes (range from i to d)) (codes (plain_lines blocks edges shown B from i to d)) (codes (range from (i + 1) to d))
    unfolding range_lines tree_lines
    turn_plain e = record { is = ap codes (step Plain e) ∙ codes_join (plain_lines blocks edges shown B from i to d) (range from (i + 1) to d) }

    -- what a turn is told by a shape
    abbrev pub Turned : Shape → Type 0
    Turned (Loop j) =
        Within blocks edges i to (Loop j)
        × Splits (codes (range from i to d)) (codes (loop_lines blocks edges shown B i j.0 d)) (codes (range from (j.0 + 1) to d))
        × (looks from i to ≡ told i to + head_looks blocks edges B i j.0 + looks from (j.0 + 1) to)
    Turned (Region t) =
        Within blocks edges i to (Region t)
        × Splits (codes (range from i to d)) (codes (region_lines blocks edges shown B (range (i + 1) (i + 1) t.0 (d + 1)) from i to d)) (codes (range from t.0 to d))
        × (looks from i to ≡ told i to + label_looks blocks edges B from i to + looks (i + 1) (i + 1) t.0 + looks from t.0 to)
    Turned Plain =
        Within blocks edges i to Plain
        × Splits (codes (range from i to d)) (codes (plain_lines blocks edges shown B from i to d)) (codes (range from (i + 1) to d))
        × (looks from i to ≡ told i to + label_looks blocks edges B from i to + looks from (i + 1) to)

    reach : (s : Shape) → shape_at blocks edges starts targets B i to ≡ s → Within blocks edges i to s
    reach s e = subst (Within blocks edges i to) e (shape_within blocks edges starts targets B i to h)

    pub turned : (s : Shape) → shape_at blocks edges starts targets B i to ≡ s → Turned s
    unfolding range_looks tree_looks
    turned (Loop j) e = (reach (Loop j) e, turn_loop j e, looks_step (Loop j) e)
    turned (Region t) e = (reach (Region t) e, turn_region t e, looks_step (Region t) e)
    turned Plain e = (reach Plain e, turn_plain e, looks_step Plain e)
