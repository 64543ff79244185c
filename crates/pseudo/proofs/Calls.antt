-- A call on a record and range for which the questions before 12 got a yes lists the record's plan; on any other it answers the
-- number of the first no. The plan is read back from its codes, which are few, and its lines fit.
use mathlib.Core.Path.{◌≡◌, refl, ap, ◌∙◌}
use mathlib.Core.Bool.{true}
use mathlib.Core.List.{List, [], ◌∷◌, map}
use Prim.Native.Nat.{ℕ, zero, suc, ◌+◌, ◌-◌, ◌*◌, ◌^◌, ◌≤◌, ◌<◌}
use native.Mathlib.Nat.{not-suc-le-zero}
use native.Mathlib.Omega.{arith}
use lib.IntN.{nat_abs}
use lib.ListN.{length, take, length-map}
use Rattle.lists.specs.Bytes.{u32_at}
use Rattle.lists.specs.Put.{put}
use Rattle.lists.specs.SignedLaws.{signed_abs}
use Rattle.rows.specs.Lists.{Lists, sizes_of}
use Rattle.record.specs.declared.header.Header.{Header}
use Rattle.record.specs.Header.{header_of, limits_ok}
use Rattle.record.specs.Asked.{or_else, first_no}
use Rattle.cfg.specs.Graph.{first_in}
use Rattle.structure.specs.Plan.{code_of}
use Rattle.structure.specs.Demand.{Shallow}
use Rattle.structure.specs.Stored.{Stored}
use Rattle.operand.proofs.Accepted.{accepted_rising}
use Rattle.operand.proofs.Bounds.{AllBytes}
use Rattle.operand.specs.Lent.{Rising}
use Rattle.flow.specs.Rows.{block_rows}
use Rattle.flow.proofs.Laws.{filled}
use Rattle.flow.specs.Counted.{Counted, Plannable}
use Rattle.flow.proofs.Totals.{marks_counted, limits_small}
use Rattle.flow.proofs.Turned.{plannable}
use Rattle.flow.specs.Planned.{record_plan, record_codes, record_looks}
use Rattle.flow.proofs.Bounds.{record_placed, record_few, record_within, record_shallow}
use Rattle.line.specs.Fits.{Fits}
use Rattle.line.proofs.Longest.{printed_fits}
use Rattle.line.specs.Lines.{line_in, lines_again}
use Rattle.line.specs.Print.{printed}
use Rattle.record.proofs.AskedLaws.{yes_limits, yes_marks, yes_range}
use Rattle.pseudo.specs.Listed.{plan_lists, record_lines}
use Rattle.pseudo.specs.Marks.{Indented}
use Rattle.pseudo.specs.Called.{Accepted, PlanListed, call_no, Called, sizes, looks_of, LooksCounted}
use Rattle.rows.specs.declared.answer.Sizes.{Sizes}
use Rattle.std.specs.declared.result.Result.{Result}
use Rattle.lists.specs.declared.question.Question.{Question}
use Rattle.std.specs.Prelude.{Ok, Err}
use Rattle.lists.specs.Question.{Answers}
use Rattle.lists.proofs.Answered.{value_is, question_is, number_some}
use Rattle.pseudo.proofs.Answers.{refused}

-- ---- what an accepted record has
module _ (s : List ℕ) (from to : ℕ) (h : Header) (a : Accepted s from to h) where
  pub limits : limits_ok h ≡ true
  limits = rw a.header (yes_limits s from to a.yes)

  pub planned : Plannable h s from to
  planned = rw a.header (plannable s from to a.yes)

  pub counted : Counted h s
  counted = rw a.header (marks_counted (header_of s) s (yes_marks s from to a.yes))

  pub rising : Rising h s
  rising = rw a.header (accepted_rising s from to a.yes)

  pub in_range : to ≤ h.blocks
  in_range = rw a.header (yes_range s from to a.yes).1

  -- the range's ends are small numbers
  pub ends_small : (from < 65536) × (to < 65536)
  ends_small =
      let b = (yes_range s from to a.yes).0 in
      let t = (limits_small h limits).blocks in
      (omega (arith, in_range), omega (arith, in_range))

  shift_small : nat_abs h.shift ≤ 2 ^ 31
  unfolding header_of
  shift_small = rw a.header (signed_abs 32 (u32_at s 16) (omega arith))

  few : length (record_plan h s from to) ≤ 900
  few = record_few h s from to limits counted in_range

  -- 900 numbers have room for any plan
  pub plan_room : h.instructions + 2 * h.blocks ≤ 900
  plan_room = let small = limits_small h limits in omega (arith, small.instructions, small.blocks)

  -- the codes that were stored in a list with room for them, read back by their number
  pub codes_are : (zeros plan codes : List ℕ) (n : ℕ) → h.instructions + 2 * h.blocks ≤ length zeros → Stored zeros 0 (record_codes h s from to) n plan → codes ≡ take n plan → codes ≡ record_codes h s from to
  unfolding put
  codes_are zeros plan codes n z p q =
      filled (record_codes h s from to) zeros plan codes n n (omega (arith, p.next)) (omega (arith, p.next, length-map (record_plan h s from to) code_of, record_within h s from to counted in_range, z)) refl p.list q

  -- an answer carries the planner's looks, none with a number
  pub looks_carried : (r : Result Sizes Question) (n looks : ℕ) → (n ≡ record_looks h s from to) × (n ≤ 5 * (to - from) * h.edges) → looks ≡ looks_of n r → LooksCounted s from to r looks
  looks_carried (Ok z) n looks p e = record { counted = rw (← a.header) (e ∙ p.0); few = rw (e, ← a.header) p.1 }
  looks_carried (Err k) n looks p e = record { counted = e; few = omega (arith, e) }

  module _ (codes : List ℕ) (e : codes ≡ record_codes h s from to) where
    pub lines_are : map line_in codes ≡ record_plan h s from to
    lines_are =
        ap (map line_in) e
        ∙ lines_again to 500 (record_plan h s from to) (omega (arith, in_range, (limits_small h limits).blocks)) (omega arith) (record_placed h s from to limits counted in_range)

    pub plan_fits : AllBytes s → (range : ℕ) → Fits (printed h s range 0 (map line_in codes))
    plan_fits bs range = rw lines_are (printed_fits h s bs shift_small range 0 to (record_plan h s from to) (record_placed h s from to limits counted in_range) few)

    indents : (cs : List ℕ) → Shallow 256 (map line_in cs) → Indented cs
    unfolding line_in
    indents [] p i l = absurd (not-suc-le-zero l)
    indents (x ∷ cs) p zero l = p.0
    indents (x ∷ cs) p (suc i) l = indents cs p.1 i (omega arith)

    pub plan_indented : Indented codes
    plan_indented = indents codes (rw lines_are (record_shallow h s from to limits in_range))

    pub called : (blocks : List ℕ) (f range : ℕ) (before after : Lists) (r : Result Sizes Question) → blocks ≡ block_rows h s → f ≡ from → range ≡ first_in blocks f
        → PlanListed h s range (map line_in codes) before after r → Called s from to before after r
    unfolding record_lines call_no
    called blocks f range before after r b g c p = rw (a.yes, ← a.header) (rw (lines_are, c, g, b) at p)

    pub sized : (blocks : List ℕ) (f range : ℕ) (z : Sizes) → blocks ≡ block_rows h s → f ≡ from → range ≡ first_in blocks f
        → z ≡ sizes_of (plan_lists h s range (map line_in codes)) → z ≡ sizes s from to
    unfolding record_lines
    sized blocks f range z b g c q = rw (← a.header) (rw (lines_are, c, g, b) at q)

-- ---- what the questions answer
or_else_some : (n later : ℕ) → 1 ≤ n → or_else n later ≡ n
or_else_some zero later p = absurd (omega arith)
or_else_some (suc n) later p = refl

module _ (s : List ℕ) (from to : ℕ) (r : Result Header Question) (v : Answers (first_no s from to) (header_of s) r) where
  pub accepted : (h : Header) → r ≡ Ok h → Accepted s from to h
  accepted h e = let w = value_is (first_no s from to) (header_of s) r h v e in record { header = w.1; yes = w.0 }

  pub called_no : (q : Question) (b : Lists) → r ≡ Err q → Called s from to b b (Err q)
  unfolding call_no
  called_no q b e =
      let p = question_is (first_no s from to) (header_of s) r q v e in
      let k = number_some q in
      refused _ _ b q (or_else_some (first_no s from to) _ (omega (arith, p)) ∙ p)

pub looks_no : (s : List ℕ) (from to looks : ℕ) (q : Question) → looks ≡ 0 → LooksCounted s from to (Err q) looks
looks_no s from to looks q e = record { counted = e; few = omega (arith, e) }
