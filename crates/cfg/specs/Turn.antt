-- Edges that stand block by block: "Blocks .. own their edges and instructions in turn". What the edge tests ask of the rows that they read.
use Rattle.std.specs.Prelude.{◌≡◌, List, ℕ, ◌*◌, ◌≤◌, ◌<◌, length}
use Rattle.lists.specs.Choice.{sum_below}
use Rattle.cfg.specs.Graph.{first_edge_in, edges_in}

-- how many edges the blocks before place k have
abbrev pub edges_before : List ℕ → ℕ → ℕ
edges_before blocks k = sum_below (edges_in blocks) k

-- of B blocks: each block's edges begin where those of the blocks before it end, and there are rows of all of them
pub record InTurn (blocks edges : List ℕ) (B : ℕ) : Type 0 where
  pub first : (k : ℕ) → k < B → first_edge_in blocks k ≡ edges_before blocks k
  pub all : 2 * edges_before blocks B ≤ length edges
