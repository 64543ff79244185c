-- `entries_ok` meets its contract.
-- The invariant: so far addresses rise and kinds are right, or `ok` is false; `before` is the address of the entry before.
use mathlib.Core.Path.{◌≡◌}
use mathlib.Core.Bool.{◌&&◌}
use Prim.Native.Nat.{◌-◌}
use Rattle.lists.specs.Choice.{all_below}
use Rattle.record.specs.Atlas.{entry_address, entry_kind, entry_kind_ok, rises}
use Rattle.record.proofs.atlas.entries_ok.Given as goal

abbrev pub invariant-loop-k : goal.invariant-loop-k
invariant-loop-k l =
    l.before ≡ entry_address l.entries (l.k - 1)
    × (l.ok ≡ all_below (λ j. rises l.entries j && entry_kind_ok (entry_kind l.pairs j)) l.k)
