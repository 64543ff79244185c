-- Whether every line is labelled: `all_labelled` meets its contract.
-- The invariant: what is left of the lines tells it.
use mathlib.Core.Path.{◌≡◌}
use mathlib.Core.List.{map}
use Prim.Native.Nat.{◌≤◌}
use lib.ListN.{length}
use Rattle.line.specs.Lines.{line_in}
use Rattle.route.specs.Assumed.{all_labelled}
use Rattle.checker.proofs.Labelled.{labelled_from}
use Rattle.checker.proofs.labels.all_labelled.Given as goal

abbrev pub invariant-loop-code : goal.invariant-loop-code
invariant-loop-code l = (l.code-index ≤ length l.codes) × (all_labelled l.blocks (map line_in l.codes) ≡ labelled_from l.blocks (map line_in l.codes) l.codes l.code-index)
