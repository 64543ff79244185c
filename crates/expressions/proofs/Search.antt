-- One turn of the search for a flag writer, from the last instruction down.
-- It is the search for the last number that passes a test.
use mathlib.Core.Path.{◌≡◌}
use mathlib.Core.List.{List}
use Prim.Native.Nat.{ℕ, ◌-◌, ◌≤◌, ◌<◌}
use Rattle.lists.specs.Choice.{pick}
use Rattle.x86.specs.Mnemonics.{writes_flags}
use Rattle.record.specs.Body.{body_at, mnemonic_of}
use Rattle.expressions.specs.Condition.{flag_writer}
use Rattle.record.proofs.SearchLaws.{last_turn, last_over}
use Rattle.std.specs.Prelude.{Some, None}

module _ (bodies : List ℕ) (first k : ℕ) where
  pub writer_step : first < k
      → flag_writer bodies first (k - first)
      ≡ pick (writes_flags (mnemonic_of (body_at bodies (k - 1)))) (Some (k - 1)) (flag_writer bodies first (k - 1 - first))
  unfolding flag_writer
  writer_step h = last_turn (λ j. writes_flags (mnemonic_of (body_at bodies j))) first k h

  pub writer_none : k ≤ first → flag_writer bodies first (k - first) ≡ None
  unfolding flag_writer
  writer_none h = last_over (λ j. writes_flags (mnemonic_of (body_at bodies j))) first k h
