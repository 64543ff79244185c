-- The sum of a list, by which a stored answer is compared: from 1, for each number x in turn, h becomes (1000003 h + x) mod 4294967311.
use Rattle.std.specs.Prelude.{ℕ, ◌+◌, ◌*◌, ◌/◌, ◌%◌, List, [], ◌∷◌}

abbrev pub turn : ℕ → ℕ → ℕ
turn h x = (1000003 * h + x) % 4294967311

unfoldable pub sum_from : ℕ → List ℕ → ℕ
sum_from h [] = h
sum_from h (x ∷ xs) = sum_from (turn h x) xs

-- of u64 numbers: each counts as two, its low 32 bits first
unfoldable pub wide_from : ℕ → List ℕ → ℕ
wide_from h [] = h
wide_from h (x ∷ xs) = wide_from (turn (turn h (x % 4294967296)) (x / 4294967296)) xs
