-- Whether no mnemonic 0 name is a word of the flow: `no_flow_words` meets its contract.
-- The invariant: so far none breaks it, or `ok` is false.
use mathlib.Core.Path.{◌≡◌}
use mathlib.Core.Bool.{not, ◌&&◌}
use Prim.Native.Nat.{◌≤◌}
use lib.Dec.{eqb}
use Rattle.lists.specs.Choice.{all_below}
use Rattle.record.specs.Body.{body_at, mnemonic_of, name_of}
use Rattle.checker.specs.Broken.{is_flow_word}
use Rattle.checker.proofs.names.no_flow_words.Given as goal

abbrev pub invariant-loop-i : goal.invariant-loop-i
invariant-loop-i l =
    (l.i ≤ l.n) × (l.ok ≡ all_below (λ j. not (eqb (mnemonic_of (body_at l.bodies j)) 0 && is_flow_word (name_of (body_at l.bodies j)))) l.i)
