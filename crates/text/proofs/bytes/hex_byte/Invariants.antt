-- `bytes::hex_byte` meets its contract.
-- The invariant: each turn takes one digit off w, and its j-th is that of v.
use mathlib.Core.Path.{◌≡◌}
use Prim.Native.Nat.{◌+◌}
use lib.ListN.{length, get_or}
use Rattle.text.specs.Number.{hex_text}
use Rattle.text.proofs.bytes.hex_byte.Given as goal

abbrev pub invariant-loop : goal.invariant-loop
invariant-loop l = (l.counter + length (hex_text l.upper l.w) ≡ l.n + l.j + 1) × (get_or (hex_text l.upper l.w) l.j 0 ≡ get_or (hex_text l.upper l.v) l.j 0)
