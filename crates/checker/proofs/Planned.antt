-- What the questions see to in an accepted record, and its plan, read back from the codes that were stored.
-- Question 5 counts, question 8 leaves a jmp no condition, question 9 has the atlas rise; 900 numbers have room for any plan.
use mathlib.Core.Path.{◌≡◌, refl, ap, ◌∙◌}
use mathlib.Core.List.{List, map}
use Prim.Native.Nat.{ℕ, ◌*◌, ◌≤◌}
use native.Mathlib.Omega.{arith}
use lib.ListN.{take, replicate, length-map, length-replicate}
use Rattle.lists.specs.Put.{put}
use Rattle.record.specs.declared.header.Header.{Header}
use Rattle.record.specs.Header.{header_of}
use Rattle.operand.specs.Lent.{Rising}
use Rattle.operand.proofs.Accepted.{accepted_rising}
use Rattle.structure.specs.Plan.{code_of}
use Rattle.structure.specs.Stored.{Stored}
use Rattle.flow.specs.Rows.{block_rows}
use Rattle.flow.specs.Counted.{Counted, Plannable}
use Rattle.flow.specs.Planned.{record_plan, record_codes}
use Rattle.flow.proofs.Laws.{filled}
use Rattle.flow.proofs.Totals.{limits_small}
use Rattle.flow.proofs.Turned.{plannable}
use Rattle.flow.proofs.Silenced.{PlainJmps, plain_jmps}
use Rattle.flow.proofs.Bounds.{block_rows_taken, record_placed, record_few}
use Rattle.line.specs.Lines.{line_in, lines_again}
use Rattle.checker.specs.Called.{Accepted}

module _ (h : Header) (s : List ℕ) (a : Accepted h s) where
  abbrev whole : ℕ
  whole = (header_of s).blocks

  pub rising : Rising h s
  rising = rw a.header (accepted_rising s 0 whole a.yes)

  pub plain : PlainJmps h s
  plain = rw a.header (plain_jmps s 0 whole a.yes)

  pub planned : Plannable h s 0 h.blocks
  planned = rw a.header (plannable s 0 whole a.yes)

  pub counted : Counted h s
  counted = planned.counted

  -- the rows, stored in a list of the most numbers that they have and read back by their length
  pub rows_are : (n : ℕ) (stored blocks : List ℕ) → stored ≡ put 0 (block_rows h s) (replicate 1600 0) → blocks ≡ take (8 * n) stored → n ≡ h.blocks → blocks ≡ block_rows h s
  rows_are n stored blocks p q e = q ∙ rw (e, p) (block_rows_taken h s planned.limits)

  -- the plan's lines, stored as codes in a list of 900 and read back by their number
  pub lines_are : (n : ℕ) (stored codes : List ℕ) → Stored (replicate 900 0) 0 (record_codes h s 0 h.blocks) n stored → codes ≡ take n stored → map line_in codes ≡ record_plan h s 0 h.blocks
  unfolding put
  lines_are n stored codes p q =
      let plan = record_plan h s 0 h.blocks in
      let ok = planned.limits in
      let all : h.blocks ≤ h.blocks = planned.range.1 in
      let few = record_few h s 0 h.blocks ok counted all in
      ap (map line_in)
      (filled (record_codes h s 0 h.blocks) (replicate 900 0) stored codes n n (omega (arith, p.next)) (omega (arith, p.next, length-map plan code_of, few, length-replicate {A = ℕ} 900 0)) refl p.list q)
      ∙ lines_again h.blocks 500 plan (omega (arith, (limits_small h ok).blocks)) (omega arith) (record_placed h s 0 h.blocks ok counted all)
