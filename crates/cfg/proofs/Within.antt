-- What stands at a place keeps within its range: a loop ends behind its head and before the range's end, at a block that closes it;
-- a region ends behind the next place and not after the range, where its block's branch goes. By the tests that found it.
use mathlib.Core.Path.{◌≡◌, refl, subst}
use mathlib.Core.Bool.{Bool, true, false, not, ◌&&◌, false≢true}
use mathlib.Core.List.{List}
use Prim.Native.Nat.{ℕ, zero, suc, ◌+◌, ◌-◌, ◌*◌, ◌≤◌, ◌<◌}
use native.Mathlib.Omega.{arith}
use lib.Dec.{ltb, leb, eqb}
use lib.ListN.{get_or}
use borrow.Author.Tests.{ltb-true, leb-true, eqb-true, eqb-false}
use Rattle.lists.specs.Choice.{pick}
use Rattle.lists.specs.Every.{both_yes}
use Rattle.record.specs.Search.{last_from}
use Rattle.record.specs.declared.blocks.Place.{Place}
use Rattle.std.specs.Prelude.{Option, Some, None}
use Rattle.cfg.specs.Graph.{count_in, ending_in, ends_in_branch, branch_to, has_condition, closes_loop, has_edge, true_edge_to, single_entry, escapes}
use Rattle.cfg.specs.Shape.{place, found_place, last_loop, opens_region, region_at, loop_at, shape_at}
use Rattle.cfg.specs.declared.shape.Shape.{Shape}
use Rattle.cfg.specs.declared.shape.Shape.TheVariants.{Loop, Region, Plain}

-- what holds of both, each with its test, holds of the one that is picked
pub pick_both : {A : Type 0} (P : A → Type 0) (b : Bool) (x y : A) → (b ≡ true → P x) → (b ≡ false → P y) → P (pick b x y)
pick_both P true x y p q = p refl
pick_both P false x y p q = q refl

-- a block that ends in any of the ways has an instruction
ending_some : (blocks : List ℕ) (k : ℕ) → (ending_in blocks k ≡ 0 → ⊥) → 1 ≤ count_in blocks k
unfolding ending_in
ending_some blocks k h = go (eqb (count_in blocks k) 0) refl h
  where
    go : (b : Bool) → eqb (count_in blocks k) 0 ≡ b → (pick b 0 (get_or blocks (8 * k + 5) 0) ≡ 0 → ⊥) → 1 ≤ count_in blocks k
    go true e h = absurd (h refl)
    go false e h = omega (arith, eqb-false (count_in blocks k) 0 e)

pub ends_some : (blocks : List ℕ) (k e : ℕ) → eqb (ending_in blocks k) (suc e) ≡ true → 1 ≤ count_in blocks k
ends_some blocks k e h = ending_some blocks k (λ z. let q = eqb-true (ending_in blocks k) (suc e) h in omega arith)

-- and so has one that closes a loop
pub closes_some : (blocks edges : List ℕ) (i j : ℕ) → closes_loop blocks edges i j ≡ true → 1 ≤ count_in blocks j
unfolding closes_loop
closes_some blocks edges i j e =
    let c : has_condition blocks j ≡ true = (both_yes (has_edge blocks (true_edge_to edges i) j) (has_condition blocks j) e).1 in
    ending_some blocks j (λ z. false≢true (rw z at c))

-- what a search for the last one found
abbrev pub FoundOk : (ℕ → Bool) → ℕ → ℕ → Option ℕ → Type 0
FoundOk p i n None = Unit {0}
FoundOk p i n (Some j) = (i ≤ j) × (j < i + n) × (p j ≡ true)

wider : (p : ℕ → Bool) (i n : ℕ) (f : Option ℕ) → FoundOk p i n f → FoundOk p i (suc n) f
wider p i n None h = h
wider p i n (Some j) h = (h.0, omega arith, h.2)

pub last_ok : (p : ℕ → Bool) (i n : ℕ) → FoundOk p i n (last_from p i n)
unfolding last_from
last_ok p i zero = tt
last_ok p i (suc n) = pick_both (FoundOk p i (suc n)) (p (i + n)) (Some (i + n)) (last_from p i n) (λ e. (omega arith, omega arith, e)) (λ e. wider p i n (last_from p i n) (last_ok p i n))

-- the same of a place that was found
abbrev PlaceOk : (ℕ → Bool) → ℕ → ℕ → Option Place → Type 0
PlaceOk p i n None = Unit {0}
PlaceOk p i n (Some j) = (i ≤ j.0) × (j.0 < i + n) × (p j.0 ≡ true)

place_ok : (p : ℕ → Bool) (i n : ℕ) (f : Option ℕ) → FoundOk p i n f → PlaceOk p i n (found_place f)
place_ok p i n None h = h
place_ok p i n (Some j) h = h

loop_ok : (blocks edges : List ℕ) (i to : ℕ) → PlaceOk (closes_loop blocks edges i) i (to - i) (last_loop blocks edges i to)
unfolding last_loop
loop_ok blocks edges i to = place_ok (closes_loop blocks edges i) i (to - i) (last_from (closes_loop blocks edges i) i (to - i)) (last_ok (closes_loop blocks edges i) i (to - i))

pub loop_before : (blocks edges : List ℕ) (i to : ℕ) (j : Place) → last_loop blocks edges i to ≡ Some j → j.0 < to
loop_before blocks edges i to j e =
    let h : PlaceOk (closes_loop blocks edges i) i (to - i) (Some j) = subst (PlaceOk (closes_loop blocks edges i) i (to - i)) e (loop_ok blocks edges i to) in
    omega arith

module _ (blocks edges : List ℕ) where
  abbrev pub Within : ℕ → ℕ → Shape → Type 0
  Within i to (Loop j) = (i < j.0) × (j.0 < to) × (closes_loop blocks edges i j.0 ≡ true)
  Within i to (Region t) = (i + 1 < t.0) × (t.0 ≤ to) × (ending_in blocks i ≡ 2) × (branch_to blocks i ≡ t.0)
  Within i to Plain = i < to

  module _ (starts targets : List ℕ) (B : ℕ) where
    region_within : (i to : ℕ) → i < to → Within i to (region_at blocks edges starts targets B i to)
    unfolding region_at opens_region
    region_within i to h =
        let t = branch_to blocks i in
        let p = ends_in_branch blocks i in
        let q = ltb (i + 1) t in
        let r = leb t to in
        let s = single_entry blocks edges B (i + 1) t in
        let u = not (escapes blocks starts targets (i + 1) t) in
        pick_both (Within i to) (p && q && r && s && u) (Region (place t)) Plain
        (λ e.
        let a = both_yes (p && q) r (both_yes (p && q && r) s (both_yes (p && q && r && s) u e).0).0 in
        let b = both_yes p q a.0 in
        (ltb-true (i + 1) t b.1, leb-true t to a.1, eqb-true (ending_in blocks i) 2 b.0, refl))
        (λ e. h)

    loop_within : (i to : ℕ) (f : Option Place) → i < to → PlaceOk (closes_loop blocks edges i) i (to - i) f → Within i to (loop_at blocks edges starts targets B f i to)
    loop_within i to None h ok = region_within i to h
    loop_within i to (Some j) h ok =
        pick_both (Within i to) (ltb i j.0 && single_entry blocks edges B i (j.0 + 1)) (Loop j) (region_at blocks edges starts targets B i to)
        (λ e. (ltb-true i j.0 (both_yes (ltb i j.0) _ e).0, omega arith, ok.2))
        (λ e. region_within i to h)

    pub shape_within : (i to : ℕ) → i < to → Within i to (shape_at blocks edges starts targets B i to)
    unfolding shape_at
    shape_within i to h = loop_within i to (last_loop blocks edges i to) h (loop_ok blocks edges i to)
