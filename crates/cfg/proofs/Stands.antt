-- What stands at a place and how many edges were read to tell, from what the search for a loop came to.
-- By the definitions, with the search's answer and the test's as they were given.
use mathlib.Core.Path.{◌≡◌, refl, sym, ap, ap₂, ◌∙◌}
use mathlib.Core.Bool.{Bool, true, false, ◌&&◌}
use mathlib.Core.List.{List}
use Prim.Native.Nat.{ℕ, ◌+◌, ◌-◌, ◌*◌, ◌≤◌, ◌<◌}
use native.Mathlib.Omega.{arith}
use lib.Dec.{ltb}
use Rattle.lists.specs.Choice.{pick}
use Rattle.record.specs.declared.blocks.Place.{Place}
use Rattle.std.specs.Prelude.{Option, Some, None}
use Rattle.cfg.specs.Graph.{single_entry}
use Rattle.cfg.specs.Turn.{edges_before}
use Rattle.cfg.specs.Looks.{search_looks, entry_looks, region_looks, loop_looks, shape_looks}
use Rattle.cfg.specs.Shape.{last_loop, loop_at, region_at, shape_at}
use Rattle.cfg.specs.declared.edges.Looked.{Looked}
use Rattle.cfg.specs.declared.shape.Shape.{Shape}
use Rattle.cfg.specs.declared.shape.Shape.TheVariants.{Loop}
use Rattle.cfg.proofs.Few.{shape_few}

-- the entry test of a loop that has more than one block, and what is read if none stands
one_or_both : (l s : Bool) (n a b : ℕ) → n + pick l a 0 + pick (l && s) 0 b ≡ n + pick l (a + pick s 0 b) b
one_or_both true s n a b = omega arith
one_or_both false s n a b = omega arith

module _ (blocks edges starts targets : List ℕ) (B i to : ℕ) (before : i < to) (fits : to ≤ B) where
  abbrev region : Shape
  region = region_at blocks edges starts targets B i to

  abbrev read : ℕ
  read = region_looks blocks edges starts targets B i to

  abbrev Told : Shape → ℕ → Type 0
  Told shape looks = (shape ≡ shape_at blocks edges starts targets B i to) × ((looks ≡ shape_looks blocks edges starts targets B i to) × (looks ≤ 4 * edges_before blocks B))

  module _ (f : Option Place) (n : ℕ) (e : f ≡ last_loop blocks edges i to) (h : n ≡ search_looks blocks edges i (to - i)) where
    told : (g : Option Place) → f ≡ g → (s : Shape) (l : ℕ) → s ≡ loop_at blocks edges starts targets B g i to → l ≡ n + loop_looks blocks edges starts targets B g i to → Told s l
    unfolding shape_at shape_looks
    told g w s l p q =
        let v : l ≡ search_looks blocks edges i (to - i) + loop_looks blocks edges starts targets B (last_loop blocks edges i to) i to =
        q ∙ ap₂ (λ (x : ℕ) (y : Option Place). x + loop_looks blocks edges starts targets B y i to) h (sym w ∙ e) in
        (p ∙ ap (λ (x : Option Place). loop_at blocks edges starts targets B x i to) (sym w ∙ e), (v, omega (arith, v, shape_few blocks edges starts targets B i to fits (omega arith))))

    pub stands_alone : f ≡ None → (s : Shape) (l : ℕ) → s ≡ region → l ≡ n + read → Told s l
    stands_alone w s l p q = told None w s l p q

    module _ (j : Place) (w : f ≡ Some j) {r : Looked} (t : r.found ≡ (ltb i j.0 && single_entry blocks edges B i (j.0 + 1)))
        (u : r.looks ≡ pick (ltb i j.0) (entry_looks blocks edges B i (j.0 + 1)) 0) where
      tested : (b : Bool) → r.found ≡ b → (s : Shape) (l : ℕ) → s ≡ pick b (Loop j) region → l ≡ n + r.looks + pick b 0 read → Told s l
      tested b v s l p q =
          let c = sym v ∙ t in
          told (Some j) w s l (p ∙ ap (λ (x : Bool). pick x (Loop j) region) c)
          (q ∙ ap₂ (λ (x : ℕ) (y : Bool). n + x + pick y 0 read) u c ∙ one_or_both (ltb i j.0) (single_entry blocks edges B i (j.0 + 1)) n (entry_looks blocks edges B i (j.0 + 1)) read)

      pub stands_loop : r.found ≡ true → Told (Loop j) (n + r.looks)
      stands_loop v = tested true v (Loop j) (n + r.looks) refl (omega arith)

      pub stands_no_loop : r.found ≡ false → (s : Shape) (l : ℕ) → s ≡ region → l ≡ n + r.looks + read → Told s l
      stands_no_loop v s l p q = tested false v s l p q
