-- Whether a label of place k is among the lines: `label_stands` meets its contract.
-- The invariant: what is left of the lines tells it.
use mathlib.Core.Path.{◌≡◌}
use mathlib.Core.List.{map}
use Prim.Native.Nat.{◌≤◌}
use lib.ListN.{length, drop}
use Rattle.line.specs.Lines.{line_in}
use Rattle.route.specs.Assumed.{label_stands}
use Rattle.checker.proofs.labels.label_stands.Given as goal

abbrev pub invariant-loop-code : goal.invariant-loop-code
invariant-loop-code l = (l.code-index ≤ length l.codes) × (label_stands l.k.0 (map line_in l.codes) ≡ label_stands l.k.0 (map line_in (drop l.code-index l.codes)))
