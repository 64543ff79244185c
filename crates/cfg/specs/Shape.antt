-- What stands at a place of a range: a do-loop, an if-region, or a plain block.
use Rattle.std.specs.Prelude.{ℕ, ◌+◌, ◌-◌, List, Bool, not, ◌&&◌, ltb, leb}
use Rattle.lists.specs.Choice.{pick}
use Rattle.record.specs.Search.{last_from}
use Rattle.record.specs.declared.blocks.Place.{Place}
use Rattle.std.specs.Prelude.{Option, Some, None}
use Rattle.cfg.specs.Graph.{ends_in_branch, branch_to, closes_loop, single_entry, escapes}
use Rattle.cfg.specs.declared.shape.Shape.{Shape}
use Rattle.cfg.specs.declared.shape.Shape.TheVariants.{Loop, Region, Plain}

abbrev pub place : ℕ → Place
place k = record { 0 = k }

-- what a search among places found
abbrev pub found_place : Option ℕ → Option Place
found_place (Some k) = Some (place k)
found_place None = None

-- "At place i the last j from i on, before the end, is sought whose block has a True edge to i's start .."
unfoldable pub last_loop : List ℕ → List ℕ → ℕ → ℕ → Option Place
last_loop blocks edges i to = found_place (last_from (closes_loop blocks edges i) i (to - i))

module _ (blocks edges starts targets : List ℕ) (B : ℕ) where
  -- "An if-region needs a last instruction with condition and near branch to place t with i + 1 < t ≤ the range's end, the
  -- same entry rule for i+1..t-1, and no edge from it to an address below its first start, the target excepted."
  unfoldable pub opens_region : ℕ → ℕ → Bool
  opens_region i to =
      let t = branch_to blocks i in
      ends_in_branch blocks i
      && ltb (i + 1) t && leb t to
      && single_entry blocks edges B (i + 1) t
      && not (escapes blocks starts targets (i + 1) t)

  unfoldable pub region_at : ℕ → ℕ → Shape
  region_at i to = pick (opens_region i to) (Region (place (branch_to blocks i))) Plain

  -- "A do-loop is written if j > i and no block outside i..j has an edge to an inside block other than i." No shorter loop is
  -- tried.
  abbrev pub loop_at : Option Place → ℕ → ℕ → Shape
  loop_at None i to = region_at i to
  loop_at (Some j) i to = pick (ltb i j.0 && single_entry blocks edges B i (j.0 + 1)) (Loop j) (region_at i to)

  unfoldable pub shape_at : ℕ → ℕ → Shape
  shape_at i to = loop_at (last_loop blocks edges i to) i to
