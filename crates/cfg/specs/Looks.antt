-- How much looking is done (#111): "Count one look for each edge read in the loop search, the entry test, the escape test and the outside
-- test, in record order, with each stopping at its first deciding edge."
use Rattle.std.specs.Prelude.{ℕ, zero, suc, ◌+◌, ◌-◌, List, Bool, true, ◌&&◌, ltb, leb}
use Rattle.lists.specs.Choice.{pick}
use Rattle.std.specs.Prelude.{Option, Some, None}
use Rattle.record.specs.declared.blocks.Place.{Place}
use Rattle.cfg.specs.Graph.{first_edge_in, edges_in, ends_in_branch, branch_to, has_edge, true_edge_to, enters, jump_to, leaves, outside, closes_loop, single_entry}
use Rattle.cfg.specs.Shape.{last_loop}

-- n edges from e on, read up to the first that passes the test
unfoldable pub edge_looks : (ℕ → Bool) → ℕ → ℕ → ℕ
edge_looks p e zero = 0
edge_looks p e (suc n) = suc (pick (p e) 0 (edge_looks p (suc e) n))

module _ (blocks : List ℕ) where
  -- block k's edges
  unfoldable pub block_looks : (ℕ → Bool) → ℕ → ℕ
  block_looks p k = edge_looks p (first_edge_in blocks k) (edges_in blocks k)

  -- those of n blocks from k on that are asked, up to the first edge that passes the test
  unfoldable pub looks_from : (asked p : ℕ → Bool) → ℕ → ℕ → ℕ
  looks_from asked p k zero = 0
  looks_from asked p k (suc n) =
      pick (asked k) (block_looks p k + pick (has_edge blocks p k) 0 (looks_from asked p (suc k) n)) (looks_from asked p (suc k) n)

module _ (blocks edges : List ℕ) where
  -- "The loop search starts with the last block of the range being written and reads each block's edges up to the first that matches.": the n
  -- blocks from place i on, the last first
  unfoldable pub search_looks : ℕ → ℕ → ℕ
  search_looks i zero = 0
  search_looks i (suc n) = block_looks blocks (true_edge_to edges i) (i + n) + pick (closes_loop blocks edges i (i + n)) 0 (search_looks i n)

  module _ (B : ℕ) where
    -- "The entry and outside tests read only outside blocks' edges"
    unfoldable pub entry_looks : ℕ → ℕ → ℕ
    entry_looks from to = looks_from blocks (outside from to) (enters edges from to) 0 B

    unfoldable pub outside_looks : ℕ → ℕ → ℕ → ℕ
    outside_looks from to i = looks_from blocks (outside from to) (jump_to edges i) 0 B

module _ (blocks starts targets : List ℕ) where
  -- "the escape test only the region's"
  unfoldable pub escape_looks : ℕ → ℕ → ℕ
  escape_looks from to = looks_from blocks (λ k. true) (leaves starts targets from to) from (to - from)

module _ (blocks edges starts targets : List ℕ) (B : ℕ) where
  -- "The entry test is asked only for j > i or an if-region's t in bounds", "the escape test only after the entry test passes"
  unfoldable pub region_looks : ℕ → ℕ → ℕ
  region_looks i to =
      let t = branch_to blocks i in
      pick (ends_in_branch blocks i && ltb (i + 1) t && leb t to)
      (entry_looks blocks edges B (i + 1) t + pick (single_entry blocks edges B (i + 1) t) (escape_looks blocks starts targets (i + 1) t) 0) 0

  -- behind the loop search, by what it found
  abbrev pub loop_looks : Option Place → ℕ → ℕ → ℕ
  loop_looks None i to = region_looks i to
  loop_looks (Some j) i to =
      pick (ltb i j.0) (entry_looks blocks edges B i (j.0 + 1) + pick (single_entry blocks edges B i (j.0 + 1)) 0 (region_looks i to)) (region_looks i to)

  -- all that is read to tell what stands at place i of a range up to `to`
  unfoldable pub shape_looks : ℕ → ℕ → ℕ
  shape_looks i to = search_looks blocks edges i (to - i) + loop_looks (last_loop blocks edges i to) i to
