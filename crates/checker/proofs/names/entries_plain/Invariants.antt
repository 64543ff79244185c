-- Whether no name of the atlas begins with `loc_`: `entries_plain` meets its contract.
-- The invariant: so far none breaks it, or `ok` is false.
use mathlib.Core.Path.{◌≡◌}
use mathlib.Core.Bool.{not, ◌&&◌}
use Prim.Native.Nat.{◌≤◌}
use lib.Dec.{eqb}
use Rattle.lists.specs.Choice.{all_below}
use Rattle.record.specs.Atlas.{entry_kind, entry_text}
use Rattle.checker.specs.Broken.{begins_loc}
use Rattle.checker.proofs.names.entries_plain.Given as goal

abbrev pub invariant-loop-k : goal.invariant-loop-k
invariant-loop-k l =
    (l.k ≤ l.atlas) × (l.ok ≡ all_below (λ j. not (eqb (entry_kind l.pairs j) 3 && begins_loc (entry_text l.pairs l.texts j))) l.k)
