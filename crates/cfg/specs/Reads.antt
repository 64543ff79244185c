-- What code that reads edges answers, and what it asks of the rows of blocks.
use Rattle.std.specs.Prelude.{◌≡◌, Bool, List, ℕ, ◌+◌, ◌≤◌, ◌<◌}
use Rattle.lists.specs.Choice.{any_below}
use Rattle.cfg.specs.declared.edges.Looked.{Looked}
use Rattle.cfg.specs.Graph.{first_edge_in, outside, outside_edge}
use Rattle.cfg.specs.Turn.{edges_before}
use Rattle.cfg.specs.Looks.{edge_looks, looks_from}

-- n edges from e on, read up to the first that passes the test
pub record Reads (p : ℕ → Bool) (e n : ℕ) (r : Looked) : Type 0 where
  pub found : r.found ≡ any_below (λ m. p (e + m)) n
  pub looks : r.looks ≡ edge_looks p e n
  pub few : r.looks ≤ n

-- the edges of the blocks outside the places from `from` up to `to`, of B, read up to the first that passes the test
pub record ReadsOutside (p : ℕ → Bool) (blocks : List ℕ) (B from to : ℕ) (r : Looked) : Type 0 where
  pub found : r.found ≡ outside_edge blocks B from to p
  pub looks : r.looks ≡ looks_from blocks (outside from to) p 0 B

-- the edges of each of B blocks begin where those of the blocks before it end: `InTurn` without the edges
abbrev pub Turns : List ℕ → ℕ → Type 0
Turns blocks B = (k : ℕ) → k < B → first_edge_in blocks k ≡ edges_before blocks k
