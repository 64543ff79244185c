-- The silent list says of a record's instructions what the rows say, where a direct jmp has no condition, as question 8 sees to.
-- By whether the instruction is its block's last, by how the block ends, and by the context.
use Prim.Native.Nat.{ℕ, zero, suc, ◌+◌, ◌-◌, ◌<◌, ◌≤◌}
use mathlib.Core.Bool.{Bool, true, false, not, ◌&&◌, ◌||◌, or-false, or-true, and-false, not-not, beq, true≢false, false≢true}
use mathlib.Core.List.{List, [], ◌∷◌}
use mathlib.Core.Path.{◌≡◌, refl, sym, ap, ◌∙◌}
use native.Mathlib.Decide.{ℕ_discrete}
use native.Mathlib.Nat.{le_refl}
use native.Mathlib.Omega.{arith}
use borrow.Author.Tests.{eq-eqb, ne_eqb, eqb-true}
use lib.Dec.{eqb, ltb, leb}
use lib.ListN.{length}
use Rattle.lists.specs.Choice.{pick}
use Rattle.lists.specs.Every.{both_yes}
use Rattle.x86.specs.Mnemonics.{jmp}
use Rattle.record.specs.declared.header.Header.{Header}
use Rattle.record.specs.Header.{header_of}
use Rattle.record.specs.Asked.{first_no}
use Rattle.record.proofs.AskedLaws.{yes_body}
use Rattle.record.specs.Layout.{marks_of}
use Rattle.record.specs.Blocks.{instructions_in, first_instruction}
use Rattle.record.specs.Body.{mnemonic_of, condition_of, operand_kind, operand_number, sets_by_condition, condition_ok}
use Rattle.cfg.specs.Graph.{first_in, count_in, ending_in, branch_to, last_in, is_shown}
use Rattle.structure.specs.Plan.{goes_next}
use Rattle.structure.specs.Demand.{Context, last_silent, silent, unsilenced, unsilenced_in}
use Rattle.structure.specs.Demand.Context.{in_range, last_in_body}
use Rattle.flow.specs.Silent.{folded, is_direct_jmp, is_skipped, is_silent_itself, ending_of}
use Rattle.flow.specs.Rows.{place_of, block_ending, block_branch, block_rows, shown_rows}
use Rattle.flow.specs.SilentList.{body_in, is_silent, unsilent, unsilent_in}
use Rattle.flow.specs.Counted.{Counted}
use Rattle.flow.proofs.Terms.{first_in_lem, count_in_lem, ending_in_lem, branch_to_lem, is_shown_lem}
use Rattle.flow.proofs.Totals.{instructions_within}

-- how a block ends, by whether its last instruction has no condition, is a direct jmp, has a near branch first
abbrev ending : Bool → Bool → Bool → ℕ
ending z j n = pick (not z && n) 2 (pick (not z) 1 (pick j 3 0))

-- a last instruction in a range being written: x is skip-marked, noise or one of the seven; g and r say that a jmp goes to the next block
range_rule : (z j n x g r : Bool) → (j && not z) ≡ false → (ending z j n ≡ 3 → g ≡ r)
    → ((j && (not true || g)) || (not (true && ((not z && n) || false || j)) && x))
    ≡ pick (eqb (ending z j n) 2) false (pick (eqb (ending z j n) 3) r (x || j))
range_rule true true n x g r p q = or-false g ∙ q refl
range_rule true false n x g r p q = sym (or-false x)
range_rule false true n x g r p q = absurd (true≢false p)
range_rule false false true x g r p q = refl
range_rule false false false x g r p q = sym (or-false x)

-- last in a do-body
last_rule : (z j n x : Bool) → ((j && (not true || false)) || (not (true && ((not z && n) || true || j)) && x)) ≡ false
last_rule true true n x = refl
last_rule true false n x = refl
last_rule false true true x = refl
last_rule false true false x = refl
last_rule false false true x = refl
last_rule false false false x = refl

-- an instruction that is not last
before_rule : (j x : Bool) → ((j && true) || x) ≡ (x || j)
before_rule true x = sym (or-true x)
before_rule false x = sym (or-false x)

-- a direct jmp of the record has no condition
abbrev pub PlainJmps : Header → List ℕ → Type 0
PlainJmps h s = (i : ℕ) → i < h.instructions → (is_direct_jmp (body_in h s i) && not (eqb (condition_of (body_in h s i)) 0)) ≡ false

module _ (h : Header) (s : List ℕ) (k : ℕ) (below : k < h.blocks) where
  abbrev first : ℕ
  first = first_instruction (marks_of h s) k

  abbrev count : ℕ
  count = instructions_in (marks_of h s) k

  pub last_is : last_in (block_rows h s) k ≡ first + count - 1
  last_is = rw (first_in_lem h s k below, count_in_lem h s k below)

  module _ (t : Counted h s) (plain : PlainJmps h s) (i : ℕ) (after : first ≤ i) (before : i < first + count) where
    within : i < h.instructions
    within = omega (arith, instructions_within (marks_of h s) k h.blocks below, t.instructions)

    abbrev body : List ℕ
    body = body_in h s i

    abbrev marked : Bool
    marked = is_skipped h.bits h.frame body || folded (mnemonic_of body)

    not_shown : not (is_shown (shown_rows h s) i) ≡ (marked || is_direct_jmp body)
    unfolding is_silent_itself
    not_shown = ap not (is_shown_lem h s i within) ∙ not-not (marked || is_direct_jmp body)

    module _ (e : i ≡ first + count - 1) where
      ends : ending_in (block_rows h s) k ≡ ending (eqb (condition_of body) 0) (is_direct_jmp body) (eqb (operand_kind body 0) 2)
      unfolding block_ending ending_of
      ends =
          let n : (count ≡ 0) → ⊥ = λ z. omega arith in
          ending_in_lem h s k below ∙ rw (ne_eqb count 0 n, ← e)

      goes : (end : ℕ) → ending (eqb (condition_of body) 0) (is_direct_jmp body) (eqb (operand_kind body 0) 2) ≡ 3
          → (eqb (place_of h s (operand_number body 0)) (k + 1) && ltb (k + 1) end) ≡ goes_next (block_rows h s) k end
      unfolding block_branch
      goes end q =
          let b : branch_to (block_rows h s) k ≡ place_of h s (operand_number body 0) = branch_to_lem h s k below ∙ rw (← ending_in_lem h s k below, ends ∙ q, ← e) in
          rw b

      last_silent_lem : (c : Context) → is_silent h s c k i ≡ last_silent (block_rows h s) (shown_rows h s) c k
      unfolding is_silent
      last_silent_lem (in_range end) =
          rw (last_is, ← e, eq-eqb i i refl, ends, not_shown)
          (range_rule (eqb (condition_of body) 0) (is_direct_jmp body) (eqb (operand_kind body 0) 2) marked _ _ (plain i within) (goes end))
      last_silent_lem last_in_body =
          rw (← e, eq-eqb i i refl)
          (last_rule (eqb (condition_of body) 0) (is_direct_jmp body) (eqb (operand_kind body 0) 2) marked)

    before_last : (i ≡ first + count - 1 → ⊥) → (c : Context) → is_silent h s c k i ≡ silent (block_rows h s) (shown_rows h s) c k i
    unfolding is_silent silent
    before_last n c = rw (last_is, ne_eqb i (first + count - 1) n) (before_rule (is_direct_jmp body) marked ∙ sym not_shown)

    at_last : (e : i ≡ first + count - 1) (c : Context) → is_silent h s c k i ≡ silent (block_rows h s) (shown_rows h s) c k i
    unfolding silent
    at_last e c = last_silent_lem e c ∙ rw (last_is, eq-eqb i (first + count - 1) e)

    pub silent_is : (c : Context) → is_silent h s c k i ≡ silent (block_rows h s) (shown_rows h s) c k i
    silent_is c =
        elim (ℕ_discrete i (first + count - 1)) [
          | yes e ↦ at_last e c
          | no e ↦ before_last e c
        ]

  module _ (t : Counted h s) (plain : PlainJmps h s) where
    some_unsilent : (c : Context) (i n : ℕ) → first ≤ i → i + n ≤ first + count → unsilent h s c k i n ≡ unsilenced (block_rows h s) (shown_rows h s) c k i n
    unfolding unsilent unsilenced
    some_unsilent c i zero a b = refl
    some_unsilent c i (suc n) a b = rw (silent_is t plain i a (omega arith) c, some_unsilent c (suc i) n (omega arith) (omega arith))

    block_unsilent : (c : Context) → unsilent h s c k first count ≡ unsilenced (block_rows h s) (shown_rows h s) c k (first_in (block_rows h s) k) (count_in (block_rows h s) k)
    block_unsilent c = rw (first_in_lem h s k below, count_in_lem h s k below) (some_unsilent c first count (le_refl first) (le_refl (first + count)))

-- the instructions of a range's places that are not silent, by the silent list and by the rows
pub unsilent_is : (h : Header) (s : List ℕ) → Counted h s → PlainJmps h s → (k : ℕ) (cs : List Context) → k + length cs ≤ h.blocks
    → unsilent_in h s k cs ≡ unsilenced_in (block_rows h s) (shown_rows h s) k cs
unfolding unsilent_in unsilenced_in
unsilent_is h s t plain k [] le = refl
unsilent_is h s t plain k (c ∷ cs) le = rw (block_unsilent h s k (omega arith) t plain c, unsilent_is h s t plain (suc k) cs (omega arith))

-- ---- question 8: only setcc, cmovcc and other mnemonics have a condition
jmp_rule : (m c : ℕ) (near : Bool) → condition_ok m c ≡ true → (eqb m jmp && near && not (eqb c 0)) ≡ false
jmp_rule m c near ok = by (eqb m jmp) refl
  where
    by : (b : Bool) → eqb m jmp ≡ b → (b && near && not (eqb c 0)) ≡ false
    by false e = refl
    by true e = none (eqb c 0) refl
      where
        none : (z : Bool) → eqb c 0 ≡ z → (true && near && not z) ≡ false
        none true q = and-false near
        none false q =
            let j : condition_ok jmp c ≡ true = ap (λ (x : ℕ). condition_ok x c) (sym (eqb-true m jmp e)) ∙ ok in
            absurd (false≢true (rw q at (both_yes (leb jmp 45 && leb c 16) (beq (sets_by_condition jmp) (not (eqb c 0))) j).1))

pub plain_jmps : (s : List ℕ) (from to : ℕ) → first_no s from to ≡ 0 → PlainJmps (header_of s) s
plain_jmps s from to asked i l =
    let b = body_in (header_of s) s i in
    jmp_rule (mnemonic_of b) (condition_of b) (eqb (operand_kind b 0) 2) (yes_body s from to asked i l).condition
