-- How much looking is done at the most: each test reads an edge at most once, so that none is read more than four times to tell what
-- stands at a place. By the definitions: of a block's edges no more are read than it has.
use mathlib.Core.Path.{◌≡◌, ap}
use mathlib.Core.Bool.{Bool, true, ◌&&◌}
use mathlib.Core.List.{List}
use Prim.Native.Nat.{ℕ, zero, suc, ◌+◌, ◌-◌, ◌*◌, ◌≤◌, ◌<◌}
use native.Mathlib.Omega.{arith}
use lib.Dec.{ltb, leb}
use borrow.Author.Tests.{ltb-true, leb-true}
use Rattle.lists.specs.Choice.{pick}
use Rattle.lists.specs.Every.{both_yes}
use Rattle.std.specs.Prelude.{Option, Some, None}
use Rattle.record.specs.declared.blocks.Place.{Place}
use Rattle.cfg.specs.Graph.{first_edge_in, edges_in, ends_in_branch, branch_to, has_edge, true_edge_to, enters, jump_to, leaves, outside, closes_loop, single_entry}
use Rattle.cfg.specs.Shape.{last_loop}
use Rattle.cfg.specs.Turn.{edges_before}
use Rattle.cfg.specs.Looks.{edge_looks, block_looks, looks_from, search_looks, entry_looks, outside_looks, escape_looks, region_looks, loop_looks, shape_looks}
use Rattle.cfg.proofs.Within.{pick_both}
use Rattle.cfg.proofs.BlocksRead.{before_le}

-- nothing, or some
none_or : (b : Bool) (x : ℕ) → pick b 0 x ≤ x
none_or b x = pick_both (λ y. y ≤ x) b 0 x (λ t. omega arith) (λ t. omega arith)

or_none : (b : Bool) (x : ℕ) → pick b x 0 ≤ x
or_none b x = pick_both (λ y. y ≤ x) b x 0 (λ t. omega arith) (λ t. omega arith)

edge_few : (p : ℕ → Bool) (e n : ℕ) → edge_looks p e n ≤ n
unfolding edge_looks
edge_few p e zero = omega arith
edge_few p e (suc n) = omega (arith, none_or (p e) (edge_looks p (suc e) n), edge_few p (suc e) n)

module _ (blocks : List ℕ) where
  block_few : (p : ℕ → Bool) (k : ℕ) → block_looks blocks p k ≤ edges_in blocks k
  unfolding block_looks
  block_few p k = edge_few p (first_edge_in blocks k) (edges_in blocks k)

  from_few : (asked p : ℕ → Bool) (k n : ℕ) → looks_from blocks asked p k n + edges_before blocks k ≤ edges_before blocks (k + n)
  unfolding looks_from
  from_few asked p k zero = let e : k ≡ k + 0 = omega arith in omega (arith, ap (edges_before blocks) e)
  from_few asked p k (suc n) =
      let e : suc k + n ≡ k + suc n = omega arith in
      let l : ℕ = looks_from blocks asked p (suc k) n in
      let h : l + edges_before blocks (suc k) ≤ edges_before blocks (k + suc n) = rw e at (from_few asked p (suc k) n) in
      pick_both (λ x. x + edges_before blocks k ≤ edges_before blocks (k + suc n)) (asked k) (block_looks blocks p k + pick (has_edge blocks p k) 0 l) l
      (λ t. omega (arith, h, block_few p k, none_or (has_edge blocks p k) l)) (λ t. omega (arith, h))

module _ (blocks edges : List ℕ) where
  search_few : (i n : ℕ) → search_looks blocks edges i n + edges_before blocks i ≤ edges_before blocks (i + n)
  unfolding search_looks
  search_few i zero = let e : i ≡ i + 0 = omega arith in omega (arith, ap (edges_before blocks) e)
  search_few i (suc n) =
      let e : suc (i + n) ≡ i + suc n = omega arith in
      omega (arith, search_few i n, ap (edges_before blocks) e, block_few blocks (true_edge_to edges i) (i + n), none_or (closes_loop blocks edges i (i + n)) (search_looks blocks edges i n))

  module _ (B : ℕ) where
    from_start : (asked p : ℕ → Bool) → looks_from blocks asked p 0 B ≤ edges_before blocks B
    from_start asked p = let e : 0 + B ≡ B = omega arith in omega (arith, from_few blocks asked p 0 B, ap (edges_before blocks) e)

    entry_few : (from to : ℕ) → entry_looks blocks edges B from to ≤ edges_before blocks B
    unfolding entry_looks
    entry_few from to = from_start (outside from to) (enters edges from to)

    pub outside_few : (from to i : ℕ) → outside_looks blocks edges B from to i ≤ edges_before blocks B
    unfolding outside_looks
    outside_few from to i = from_start (outside from to) (jump_to edges i)

escape_few : (blocks starts targets : List ℕ) (B from to : ℕ) → from ≤ to → to ≤ B → escape_looks blocks starts targets from to ≤ edges_before blocks B
unfolding escape_looks
escape_few blocks starts targets B from to h b =
    let e : from + (to - from) ≡ to = omega arith in
    omega (arith, from_few blocks (λ k. true) (leaves starts targets from to) from (to - from), ap (edges_before blocks) e, before_le blocks to B b)

module _ (blocks edges starts targets : List ℕ) (B i to : ℕ) (fits : to ≤ B) where
  region_few : region_looks blocks edges starts targets B i to ≤ 2 * edges_before blocks B
  unfolding region_looks
  region_few =
      let t = branch_to blocks i in
      let s = single_entry blocks edges B (i + 1) t in
      let l : ℕ = escape_looks blocks starts targets (i + 1) t in
      pick_both (λ x. x ≤ 2 * edges_before blocks B) (ends_in_branch blocks i && ltb (i + 1) t && leb t to) (entry_looks blocks edges B (i + 1) t + pick s l 0) 0
      (λ u.
      let a = both_yes (ends_in_branch blocks i && ltb (i + 1) t) (leb t to) u in
      let b = both_yes (ends_in_branch blocks i) (ltb (i + 1) t) a.0 in
      let f : t ≤ to = leb-true t to a.1 in
      let g : i + 1 < t = ltb-true (i + 1) t b.1 in
      omega (arith, entry_few blocks edges B (i + 1) t, or_none s l, escape_few blocks starts targets B (i + 1) t (omega arith) (omega arith)))
      (λ u. omega arith)

  loop_few : (f : Option Place) → loop_looks blocks edges starts targets B f i to ≤ 3 * edges_before blocks B
  loop_few None = omega (arith, region_few)
  loop_few (Some j) =
      let s = single_entry blocks edges B i (j.0 + 1) in
      let l : ℕ = region_looks blocks edges starts targets B i to in
      pick_both (λ x. x ≤ 3 * edges_before blocks B) (ltb i j.0) (entry_looks blocks edges B i (j.0 + 1) + pick s 0 l) l
      (λ u. omega (arith, entry_few blocks edges B i (j.0 + 1), none_or s l, region_few)) (λ u. omega (arith, region_few))

  pub shape_few : i ≤ to → shape_looks blocks edges starts targets B i to ≤ 4 * edges_before blocks B
  unfolding shape_looks
  shape_few h = let e : i + (to - i) ≡ to = omega arith in omega (arith, search_few blocks edges i (to - i), ap (edges_before blocks) e, before_le blocks to B fits, loop_few (last_loop blocks edges i to))
