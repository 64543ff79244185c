-- The rules are steps of the record's processor, so what they run to it comes to after some number of steps; and they run to an end.
-- The tests of each step are those that its rule, the assumptions and question 8 know; its edge leads where the rule does.
use Prim.Native.Nat.{ℕ, suc, ◌+◌, ◌≤◌, ◌<◌}
use mathlib.Core.Bool.{Bool, true, false, not, ◌&&◌, and-true}
use mathlib.Core.List.{List, [], ◌∷◌}
use mathlib.Core.Logic.{◌⊎◌, inl, inr}
use mathlib.Core.Path.{◌≡◌, refl, sym, ap, ◌∙◌}
use native.Mathlib.Decide.{dec_le}
use native.Mathlib.Omega.{arith}
use borrow.Author.Tests.{eqb-true, eqb-false, ne_eqb, lt-ltb, not-true}
use lib.Dec.{eqb}
use Rattle.lists.specs.Every.{both_yes}
use Rattle.lists.specs.Below.{all_at}
use Rattle.x86.specs.Mnemonics.{ret, jmp}
use Rattle.record.specs.declared.header.Header.{Header}
use Rattle.record.specs.Header.{header_of}
use Rattle.record.specs.Layout.{marks_of, addresses_of, bodies_of}
use Rattle.record.specs.Blocks.{instructions_in}
use Rattle.record.specs.Body.{address_at, body_at, mnemonic_of, condition_of, operand_kind, operand_number, sets_by_condition}
use Rattle.record.specs.Asked.{first_no}
use Rattle.cfg.specs.Graph.{first_in, count_in, ends_in_branch, ends_in_jmp, branch_to, is_block, last_in}
use Rattle.structure.specs.Demand.{Context, silent}
use Rattle.flow.specs.Silent.{is_direct_jmp}
use Rattle.flow.specs.SilentList.{is_silent}
use Rattle.flow.specs.Rows.{place_of, last_body, block_rows, shown_rows}
use Rattle.flow.proofs.Terms.{first_in_lem, count_in_lem}
use Rattle.flow.proofs.Silenced.{silent_is, plain_jmps, last_is}
use Rattle.route.specs.Trace.{Trace, chosen, ends}
use Rattle.route.specs.Trace.Stop.{returned, left}
use Rattle.route.specs.Trace.Trace.{met, stop}
use Rattle.route.specs.Processor.{Spot, is_return, is_jump, is_branch, context_of, meeting, leads, run}
use Rattle.route.specs.Processor.Spot.{before, inside}
use Rattle.route.specs.Assumed.{Assumed, is_empty, sets_no_branch}
use Rattle.route.proofs.Stating.{Own, own_at}
use Rattle.route.proofs.Rules.{Goes, Runs, exit_of}
use Rattle.route.proofs.Rules.Exit.{falls, returns, leaves}
use Rattle.route.proofs.Rules.Runs.{run_cut, run_enter, run_pass, run_step, run_over, run_returns, run_leaves, run_quiet, run_jump, run_tail, run_dry, run_taken, run_not}
use Rattle.route.proofs.Endings.{Plain, counted, mid_plain, branch_plain, last_within, branch_last, jmp_last, branch_place, falls_last, returns_last, leaves_last}
use Rattle.route.proofs.Led.{true_led, onward_led, branch_onward_led, jump_led_lem}

module _ (s : List ℕ) (asked : first_no s 0 (header_of s).blocks ≡ 0) (given : Assumed (header_of s) s) where
  abbrev h : Header
  h = header_of s

  abbrev rows : List ℕ
  rows = block_rows h s

  -- an instruction is silent; it is met
  abbrev quiet : ℕ → ℕ → Bool
  quiet k i = silent rows (shown_rows h s) (context_of h s k) k i

  abbrev meets : ℕ → ℕ → Trace → Trace
  meets k i t = met k (address_at (addresses_of h s) i) t

  module _ (k : ℕ) (below : k < h.blocks) where
    abbrev last : List ℕ
    last = last_body h s k

    quiet_is : (i : ℕ) → first_in rows k ≤ i → i < first_in rows k + count_in rows k → is_silent h s (context_of h s k) k i ≡ quiet k i
    quiet_is i a b =
        silent_is h s k below (counted s asked) (plain_jmps s 0 h.blocks asked) i (rw (first_in_lem h s k below) at a)
        (rw (first_in_lem h s k below, count_in_lem h s k below) at b) (context_of h s k)

    -- a last direct jmp is a jmp and no ret, and goes to the place that its row has
    last_jmp : ends_in_jmp rows k ≡ true
        → (is_return last ≡ false) × (is_jump last ≡ true) × ((is_direct_jmp last && is_block (place_of h s (operand_number last 0))) ≡ is_block (branch_to rows k))
    last_jmp e =
        let d = (jmp_last s asked k below e).1 in
        let j = (both_yes (is_jump last) (eqb (operand_kind last 0) 2) d).0 in
        (ap (λ (m : ℕ). eqb m ret) (eqb-true (mnemonic_of last) jmp j), j, rw d (ap is_block (sym (branch_place s asked k below 3 e refl))))

    -- a last conditional branch is no setcc or cmovcc
    last_branch : ends_in_branch rows k ≡ true → (is_return last ≡ false) × (is_jump last ≡ false) × (is_branch last ≡ true)
    unfolding sets_no_branch
    last_branch e =
        let c = branch_last s asked k below e in
        let l = last_within s asked k below c.0 in
        let p = branch_plain s asked _ l c.1 in
        let near = (both_yes (not (eqb (condition_of last) 0)) (eqb (operand_kind last 0) 2) c.1).1 in
        let sets : ℕ → Bool = λ i. let b = body_at (bodies_of h s) i in not (sets_by_condition (mnemonic_of b) && eqb (operand_kind b 0) 2) in
        let m = not-true (sets_by_condition (mnemonic_of last)) (rw (near, and-true) at (all_at sets h.instructions _ given.sets_no_branch_lem l)) in
        (p.0, p.1, rw (c.1, m))

    -- the step at a block's last instruction
    module _ (f n : ℕ) (os : List Bool) (m : ℕ) where
      abbrev at_last : Trace
      at_last = run h s (suc f) (suc n) os (inside k (last_in rows k) (suc m))

      last_step : is_empty h s k ≡ false → at_last ≡ meeting h s (quiet k (last_in rows k)) k (last_in rows k) (leads h s (run h s f) os last k (last_in rows k) m) n
      unfolding run
      last_step z =
          let some = eqb-false (instructions_in (marks_of h s) k) 0 z in
          let q = quiet_is (last_in rows k) (omega (arith, count_in_lem h s k below)) (omega (arith, count_in_lem h s k below)) in
          rw q
          (ap (λ (i : ℕ). meeting h s (quiet k (last_in rows k)) k (last_in rows k) (leads h s (run h s f) os (body_at (bodies_of h s) i) k (last_in rows k) m) n)
          (last_is h s k below))

      at_return : exit_of rows (own_at h s) k ≡ returns → quiet k (last_in rows k) ≡ false → at_last ≡ meets k (last_in rows k) (stop returned)
      at_return e q = let p = returns_last s asked k below e in last_step p.0 ∙ rw (q, p.1)

      at_leave : exit_of rows (own_at h s) k ≡ leaves → quiet k (last_in rows k) ≡ false → at_last ≡ meets k (last_in rows k) (stop left)
      at_leave e q = let p = leaves_last s asked k below e in last_step p.0 ∙ rw (q, p.1, p.3, p.2)

      module _ (e : ends_in_jmp rows k ≡ true) where
        some : is_empty h s k ≡ false
        some = (jmp_last s asked k below e).0

        at_quiet : is_block (branch_to rows k) ≡ true → quiet k (last_in rows k) ≡ true → at_last ≡ run h s f (suc n) os (before (branch_to rows k))
        at_quiet b q = let p = last_jmp e in last_step some ∙ rw (q, p.2 ∙ b, p.0, p.1, jump_led_lem s asked k below given e b)

        at_jump : is_block (branch_to rows k) ≡ true → quiet k (last_in rows k) ≡ false → at_last ≡ meets k (last_in rows k) (run h s f n os (before (branch_to rows k)))
        at_jump b q = let p = last_jmp e in last_step some ∙ rw (q, p.2 ∙ b, p.0, p.1, jump_led_lem s asked k below given e b)

        at_tail : is_block (branch_to rows k) ≡ false → quiet k (last_in rows k) ≡ false → at_last ≡ meets k (last_in rows k) (stop left)
        at_tail b q = let p = last_jmp e in last_step some ∙ rw (q, p.2 ∙ b, p.0, p.1)

      at_branch : ends_in_branch rows k ≡ true → quiet k (last_in rows k) ≡ false
          → at_last ≡ meets k (last_in rows k) (chosen os (λ r. run h s f n r (before (branch_to rows k))) (λ r. run h s f n r (before (k + 1))))
      at_branch e q =
          let p = last_branch e in
          last_step (branch_last s asked k below e).0 ∙ rw (q, p.0, p.1, p.2, true_led s asked k below e, (branch_onward_led s asked k below given e).0)

  -- the step at an instruction that goes on
  module _ (k i : ℕ) (g : Goes rows h.blocks (own_at h s) k i) where
    goes_plain : Plain (body_at (bodies_of h s) i)
    goes_plain = go g.not_last (dec_le (i + 2) (first_in rows k + count_in rows k))
      where
        go : ((i + 1 < first_in rows k + count_in rows k) ⊎ (exit_of rows (own_at h s) k ≡ falls)) → Dec (i + 2 ≤ first_in rows k + count_in rows k)
            → Plain (body_at (bodies_of h s) i)
        go (inl l) d = mid_plain s asked k g.block given i g.from l
        go (inr e) (yes l) = mid_plain s asked k g.block given i g.from (omega arith)
        go (inr e) (no l) =
            let z : i ≡ last_in rows k = omega (arith, g.within) in
            let some : (count_in rows k ≡ 0) → ⊥ = λ q. omega (arith, g.from, g.within) in
            rw (z, last_is h s k g.block) (falls_last s asked k g.block e (rw (← count_in_lem h s k g.block) (ne_eqb (count_in rows k) 0 some)))

    goes_step : (f n : ℕ) (os : List Bool) (m : ℕ) (b : Bool) → quiet k i ≡ b
        → run h s (suc f) (suc n) os (inside k i (suc m)) ≡ meeting h s b k i (λ r. run h s f r os (inside k (suc i) m)) n
    unfolding run
    goes_step f n os m true q = rw (quiet_is k g.block i g.from g.within ∙ q, goes_plain.0, goes_plain.1, goes_plain.2)
    goes_step f n os m false q = rw (quiet_is k g.block i g.from g.within ∙ q, goes_plain.0, goes_plain.1, goes_plain.2)

  pub steps : {n : ℕ} {os : List Bool} {p : Spot} {t : Trace}
      → Runs rows (shown_rows h s) h.blocks (context_of h s) (own_at h s) (address_at (addresses_of h s)) n os p t → (f : ℕ) × (run h s f n os p ≡ t)
  unfolding run
  steps run_cut = (1, refl)
  steps (run_enter {k = k} l r) =
      let p = steps r in
      (suc p.0, rw (lt-ltb k h.blocks l, ← first_in_lem h s k l, ← count_in_lem h s k l) p.1)
  steps (run_pass {n} {os} {k} {i} {m} g q r) = let p = steps r in (suc p.0, goes_step k i g p.0 n os m true q ∙ p.1)
  steps (run_step {n} {os} {k} {i} {m} g q r) = let p = steps r in (suc p.0, goes_step k i g p.0 n os m false q ∙ ap (meets k i) p.1)
  steps (run_over {k = k} l e r) = let p = steps r in (suc p.0, rw (onward_led s asked k l given e).0 p.1)
  steps (run_returns {n} {os} {k} {m} l e q) = (1, at_return k l 0 n os m e q)
  steps (run_leaves {n} {os} {k} {m} l e q) = (1, at_leave k l 0 n os m e q)
  steps (run_quiet {n} {os} {k} {m} l e b q r) = let p = steps r in (suc p.0, at_quiet k l p.0 n os m e b q ∙ p.1)
  steps (run_jump {n} {os} {k} {m} l e b q r) = let p = steps r in (suc p.0, at_jump k l p.0 n os m e b q ∙ ap (meets k (last_in rows k)) p.1)
  steps (run_tail {n} {os} {k} {m} l e b q) = (1, at_tail k l 0 n os m e b q)
  steps (run_dry {n} {k} {m} l e q) = (1, at_branch k l 0 n [] m e q)
  steps (run_taken {n} {os} {k} {m} l e q r) = let p = steps r in (suc p.0, at_branch k l p.0 n (true ∷ os) m e q ∙ ap (meets k (last_in rows k)) p.1)
  steps (run_not {n} {os} {k} {m} l e q r) = let p = steps r in (suc p.0, at_branch k l p.0 n (false ∷ os) m e q ∙ ap (meets k (last_in rows k)) p.1)

-- there is no rule for a block past the last or a goto to nowhere
pub ended : {blocks shown : List ℕ} {B : ℕ} {context : ℕ → Context} {own : ℕ → Own} {address : ℕ → ℕ} {n : ℕ} {os : List Bool} {p : Spot} {t : Trace}
    → Runs blocks shown B context own address n os p t → ends t ≡ true
ended run_cut = refl
ended (run_enter l r) = ended r
ended (run_pass g q r) = ended r
ended (run_step g q r) = ended r
ended (run_over l e r) = ended r
ended (run_returns l e q) = refl
ended (run_leaves l e q) = refl
ended (run_quiet l e b q r) = ended r
ended (run_jump l e b q r) = ended r
ended (run_tail l e b q) = refl
ended (run_dry l e q) = refl
ended (run_taken l e q r) = ended r
ended (run_not l e q r) = ended r
