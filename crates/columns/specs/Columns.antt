-- The instruction bodies of a record by columns and back: "byte 0 of every body, then byte 1 of every body, up to byte 91".
use Rattle.std.specs.Prelude.{ℕ, ◌+◌, ◌*◌, ◌/◌, ◌%◌, List, ◌++◌, take, get_or}
use Rattle.lists.specs.Entries.{tab}
use Rattle.record.specs.declared.header.Header.{Header}
use Rattle.record.specs.Header.{header_of}
use Rattle.record.specs.Layout.{bodies_at, bodies_of, entries_of}

-- m rows of n bytes, one behind the other, as n rows of m: byte i of row j is byte j of row i
unfoldable pub transposed : ℕ → ℕ → List ℕ → List ℕ
transposed m n t = tab (λ q. get_or t (q % m * n + q / m) 0) 0 (n * m)

-- "Rearrange the instruction bodies: .. All else remains in place." The bodies stand as so many rows of so many columns, by the header.
unfoldable pub rearranged : (Header → ℕ) → (Header → ℕ) → List ℕ → List ℕ
rearranged rows columns s =
    let h = header_of s in
    take (bodies_at h) s ++ (transposed (rows h) (columns h) (bodies_of h s) ++ entries_of h s)

-- To the store a body is a row: "every body" has one. "The way back" has rows and columns exchanged.
abbrev pub bodies : Header → ℕ
bodies h = h.instructions

-- and each of its bytes is a column: "byte 0 .. up to byte 91"
abbrev pub body_bytes : Header → ℕ
body_bytes h = 92
