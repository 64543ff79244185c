-- Lists that hold the same lines have the same entries.
-- The search and the entries read nothing of the lists but these lines.
use mathlib.Core.Path.{◌≡◌, refl, ap, ◌∙◌}
use mathlib.Core.List.{List}
use Prim.Native.Nat.{ℕ, zero, suc, ◌+◌, ◌≤◌, ◌<◌}
use native.Mathlib.Omega.{arith}
use Rattle.std.specs.Prelude.{Option, Some, None}
use Rattle.rows.specs.Lists.{Lists}
use Rattle.rows.specs.Rows.{Row, row_at}
use Rattle.commands.specs.Calls.{given}
use Rattle.commands.specs.Table.{line_before, given_by, bytes_for, entries_from}
use Rattle.commands.proofs.Search.{line_within}

module _ (l l' : Lists) (m : ℕ) (same : (i : ℕ) → i < m → row_at l i ≡ row_at l' i) (register : List ℕ) where
  line_alike : (p k : ℕ) → k ≤ m → line_before l register p k ≡ line_before l' register p k
  unfolding line_before
  line_alike p zero h = refl
  line_alike p (suc i) h = rw (same i (omega arith), line_alike p i (omega arith))

  given_alike : (o : Option ℕ) → ((i : ℕ) → o ≡ Some i → i < m) → given_by l register o ≡ given_by l' register o
  given_alike None h = refl
  given_alike (Some i) h = ap given (same i (h i refl))

  bytes_alike : (k : ℕ) → k < m → bytes_for l register k ≡ bytes_for l' register k
  unfolding bytes_for
  bytes_alike k h =
      let p = (row_at l k).place in
      given_alike (line_before l register p k) (λ i e. omega (arith, line_within l register p k i e))
      ∙ ap (given_by l' register) (line_alike p k (omega arith) ∙ ap (λ (r : Row). line_before l' register r.place k) (same k h))

  pub entries_alike : (call : List ℕ) (n k : ℕ) → k + n ≤ m → entries_from l call register k n ≡ entries_from l' call register k n
  unfolding entries_from
  entries_alike call zero k h = refl
  entries_alike call (suc n) k h = rw (same k (omega arith), bytes_alike k (omega arith), entries_alike call n (suc k) (omega arith))
