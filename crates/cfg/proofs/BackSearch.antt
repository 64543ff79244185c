-- The search for a loop, block by block from the last: what is found and how many edges are read.
-- What is left to search, with what was read so far, comes to the whole search; each turn is the definitions at one block less.
use mathlib.Core.Path.{◌≡◌, sym, ap, ◌∙◌}
use mathlib.Core.Bool.{Bool, true, false}
use mathlib.Core.List.{List}
use Prim.Native.Nat.{ℕ, suc, ◌+◌, ◌-◌, ◌≤◌, ◌<◌}
use native.Mathlib.Omega.{arith}
use Rattle.lists.specs.Choice.{pick}
use Rattle.record.specs.Search.{last_from}
use Rattle.std.specs.Prelude.{Some, None}
use Rattle.record.proofs.SearchLaws.{last_turn, last_over}
use Rattle.cfg.specs.Graph.{true_edge_to, closes_loop}
use Rattle.cfg.specs.Looks.{block_looks, search_looks}
use Rattle.cfg.specs.Shape.{place, found_place, last_loop}
use Rattle.cfg.specs.declared.edges.Looked.{Looked}

-- the blocks before j are left, behind which so many edges were read
pub record Left (blocks edges : List ℕ) (i to j looks : ℕ) : Type 0 where
  pub reads : looks + search_looks blocks edges i (j - i) ≡ search_looks blocks edges i (to - i)
  pub finds : last_from (closes_loop blocks edges i) i (j - i) ≡ last_from (closes_loop blocks edges i) i (to - i)

module _ (blocks edges : List ℕ) (i to j looks : ℕ) (left : Left blocks edges i to j looks) where
  pub left_none : j ≤ i → (None ≡ last_loop blocks edges i to) × (looks ≡ search_looks blocks edges i (to - i))
  unfolding last_loop search_looks
  left_none h =
      let s : j - i ≡ 0 = omega arith in
      (ap found_place (sym (last_over (closes_loop blocks edges i) i j h) ∙ left.finds), omega (arith, left.reads, ap (search_looks blocks edges i) s))

  module _ (h : i < j) {r : Looked} (f : r.found ≡ closes_loop blocks edges i (j - 1)) (g : r.looks ≡ block_looks blocks (true_edge_to edges i) (j - 1)) where
    turn : (b : Bool) → r.found ≡ b → (looks + r.looks + pick b 0 (search_looks blocks edges i (j - 1 - i)) ≡ search_looks blocks edges i (to - i))
        × (pick b (Some (j - 1)) (last_from (closes_loop blocks edges i) i (j - 1 - i)) ≡ last_from (closes_loop blocks edges i) i (to - i))
    unfolding search_looks
    turn b t =
        let s : j - i ≡ suc (j - 1 - i) = omega arith in
        let u : i + (j - 1 - i) ≡ j - 1 = omega arith in
        let l : ℕ = search_looks blocks edges i (j - 1 - i) in
        let c : b ≡ closes_loop blocks edges i (j - 1) = sym t ∙ f in
        let e : search_looks blocks edges i (j - i) ≡ r.looks + pick b 0 l =
        ap (search_looks blocks edges i) s ∙ ap (λ (x : ℕ). block_looks blocks (true_edge_to edges i) x + pick (closes_loop blocks edges i x) 0 l) u
        ∙ ap (λ (x : ℕ). x + pick (closes_loop blocks edges i (j - 1)) 0 l) (sym g) ∙ ap (λ (q : Bool). r.looks + pick q 0 l) (sym c) in (
          omega (arith, left.reads, e),
          ap (λ (q : Bool). pick q (Some (j - 1)) (last_from (closes_loop blocks edges i) i (j - 1 - i))) c ∙ sym (last_turn (closes_loop blocks edges i) i j h) ∙ left.finds,
        )

    pub left_found : r.found ≡ true → (Some (place (j - 1)) ≡ last_loop blocks edges i to) × (looks + r.looks ≡ search_looks blocks edges i (to - i))
    unfolding last_loop
    left_found t = let e = turn true t in (ap found_place e.1, omega (arith, e.0))

    pub left_less : r.found ≡ false → Left blocks edges i to (j - 1) (looks + r.looks)
    left_less t = let e = turn false t in record { reads = e.0; finds = e.1 }
