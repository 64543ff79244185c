-- `texts_ok` meets its contract.
-- The invariant: so far every text suits its kind, or `ok` is false; `at` is where the next text begins.
use mathlib.Core.Path.{◌≡◌}
use Prim.Native.Nat.{◌*◌, ◌≤◌}
use lib.ListN.{drop}
use Rattle.lists.specs.Choice.{all_below}
use Rattle.record.specs.Atlas.{entry_kind, entry_length, text_start, text_ok}
use Rattle.record.proofs.atlas.texts_ok.Given as goal

abbrev pub invariant-loop-k : goal.invariant-loop-k
invariant-loop-k l =
    (l.at ≤ 255 * l.k) × (l.at ≡ text_start l.pairs l.k)
    × (l.ok ≡ all_below (λ j. text_ok (entry_kind l.pairs j) (entry_length l.pairs j) (drop (text_start l.pairs j) l.texts)) l.k)
