-- Where a plan's lines stand: each is of a place of the range and of an instruction of its block, or of none.
use Rattle.std.specs.Prelude.{ℕ, ◌<◌, ◌≤◌, List, [], ◌∷◌}
use Rattle.structure.specs.Plan.{Line}

-- every line is of a place below m and of an instruction up to n
abbrev pub Placed : ℕ → ℕ → List Line → Type 0
Placed m n [] = Unit {0}
Placed m n (l ∷ ls) = (l.place < m) × (l.at ≤ n) × Placed m n ls
