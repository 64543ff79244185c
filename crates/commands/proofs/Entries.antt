-- The entries from a line on: with the line's own if it is a call by the name, and without.
-- Each is the definition at one line more.
use mathlib.Core.Path.{◌≡◌}
use mathlib.Core.Bool.{true, false}
use mathlib.Core.List.{List, ◌∷◌}
use Prim.Native.Nat.{ℕ, suc}
use Rattle.rows.specs.Lists.{Lists}
use Rattle.rows.specs.Rows.{row_at}
use Rattle.commands.specs.Calls.{calls_to}
use Rattle.commands.specs.Table.{Entry, bytes_for, entries_from}

module _ (l : Lists) (call register : List ℕ) where
  abbrev pub entry_of : ℕ → Entry
  entry_of k = record { address = (row_at l k).address; bytes = bytes_for l register k }

  pub entries_call : (k n : ℕ) → calls_to call (row_at l k) ≡ true → entries_from l call register k (suc n) ≡ entry_of k ∷ entries_from l call register (suc k) n
  unfolding entries_from
  entries_call k n e = rw e

  pub entries_other : (k n : ℕ) → calls_to call (row_at l k) ≡ false → entries_from l call register k (suc n) ≡ entries_from l call register (suc k) n
  unfolding entries_from
  entries_other k n e = rw e
