-- A copy of bytes in parts.
use Rattle.std.specs.Prelude.{ℕ, ◌+◌, ◌-◌, List, take, drop}

-- of the n bytes of s from a place on, those from number i on
unfoldable pub left : List ℕ → ℕ → ℕ → ℕ → List ℕ
left s at n i = take (n - i) (drop (at + i) s)
