-- The processor's route as rules over rows, without a number of steps: what the proof of following builds.
-- Each rule asks what the record's processor must know to make that step; there is none for a block past the last or a goto to nowhere.
use Prim.Native.Nat.{ℕ, zero, suc, ◌+◌, ◌≤◌, ◌<◌}
use mathlib.Core.List.{List, [], ◌∷◌}
use mathlib.Core.Bool.{Bool, true, false}
use mathlib.Core.Logic.{◌⊎◌}
use mathlib.Core.Path.{◌≡◌}
use lib.Dec.{eqb}
use Rattle.lists.specs.Choice.{pick}
use Rattle.x86.specs.Words.{same_word}
use Rattle.cfg.specs.Graph.{first_in, count_in, ends_in_branch, ends_in_jmp, branch_to, no_block, is_block, last_in, is_shown, closes_loop}
use Rattle.structure.specs.Plan.{What, Line, line}
use Rattle.structure.specs.Demand.{Context, silent, is_left_out}
use Rattle.route.specs.Trace.{Trace}
use Rattle.route.specs.Trace.Stop.{enough, returned, left, dry}
use Rattle.route.specs.Trace.Trace.{met, stop}
use Rattle.route.specs.Processor.{Spot}
use Rattle.route.specs.Processor.Spot.{before, inside}
use Rattle.route.proofs.Stating.{Own}
use Rattle.route.proofs.Stating.Own.{own_on, own_return, own_leave}

-- how a block is left
pub data Exit : Type 0 where
  falls : Exit
  branches : Exit
  jumps : Exit
  returns : Exit
  leaves : Exit

abbrev pub own_exit : Own → Exit
own_exit own_on = falls
own_exit own_return = returns
own_exit own_leave = leaves

abbrev pub exit_of : List ℕ → (ℕ → Own) → ℕ → Exit
exit_of blocks own k =
    pick (ends_in_branch blocks k) branches
    (pick (ends_in_jmp blocks k) jumps
    (pick (eqb (count_in blocks k) 0) falls (own_exit (own (last_in blocks k)))))

-- instruction i of block k, one of those that go on
pub record Goes (blocks : List ℕ) (B : ℕ) (own : ℕ → Own) (k i : ℕ) : Type 0 where
  pub block : k < B
  pub from : first_in blocks k ≤ i
  pub within : i < first_in blocks k + count_in blocks k
  pub on : own i ≡ own_on
  pub not_last : (i + 1 < first_in blocks k + count_in blocks k) ⊎ (exit_of blocks own k ≡ falls)

-- `context` of a place, `own` what an instruction does, `address` of an instruction
pub data Runs (blocks shown : List ℕ) (B : ℕ) (context : ℕ → Context) (own : ℕ → Own) (address : ℕ → ℕ) : ℕ → List Bool → Spot → Trace → Type 0 where
  run_cut : {os : List Bool} {p : Spot} → Runs blocks shown B context own address zero os p (stop enough)
  run_enter : {n : ℕ} {os : List Bool} {k : ℕ} {t : Trace} → k < B → Runs blocks shown B context own address (suc n) os (inside k (first_in blocks k) (count_in blocks k)) t
      → Runs blocks shown B context own address (suc n) os (before k) t
  run_pass : {n : ℕ} {os : List Bool} {k i m : ℕ} {t : Trace} → Goes blocks B own k i → silent blocks shown (context k) k i ≡ true
      → Runs blocks shown B context own address (suc n) os (inside k (suc i) m) t → Runs blocks shown B context own address (suc n) os (inside k i (suc m)) t
  run_step : {n : ℕ} {os : List Bool} {k i m : ℕ} {t : Trace} → Goes blocks B own k i → silent blocks shown (context k) k i ≡ false
      → Runs blocks shown B context own address n os (inside k (suc i) m) t → Runs blocks shown B context own address (suc n) os (inside k i (suc m)) (met k (address i) t)
  run_over : {n : ℕ} {os : List Bool} {k i : ℕ} {t : Trace} → k < B → exit_of blocks own k ≡ falls → Runs blocks shown B context own address (suc n) os (before (k + 1)) t
      → Runs blocks shown B context own address (suc n) os (inside k i zero) t
  run_returns : {n : ℕ} {os : List Bool} {k m : ℕ} → k < B → exit_of blocks own k ≡ returns → silent blocks shown (context k) k (last_in blocks k) ≡ false
      → Runs blocks shown B context own address (suc n) os (inside k (last_in blocks k) (suc m)) (met k (address (last_in blocks k)) (stop returned))
  run_leaves : {n : ℕ} {os : List Bool} {k m : ℕ} → k < B → exit_of blocks own k ≡ leaves → silent blocks shown (context k) k (last_in blocks k) ≡ false
      → Runs blocks shown B context own address (suc n) os (inside k (last_in blocks k) (suc m)) (met k (address (last_in blocks k)) (stop left))
  run_quiet : {n : ℕ} {os : List Bool} {k m : ℕ} {t : Trace} → k < B → ends_in_jmp blocks k ≡ true → is_block (branch_to blocks k) ≡ true
      → silent blocks shown (context k) k (last_in blocks k) ≡ true → Runs blocks shown B context own address (suc n) os (before (branch_to blocks k)) t
      → Runs blocks shown B context own address (suc n) os (inside k (last_in blocks k) (suc m)) t
  run_jump : {n : ℕ} {os : List Bool} {k m : ℕ} {t : Trace} → k < B → ends_in_jmp blocks k ≡ true → is_block (branch_to blocks k) ≡ true
      → silent blocks shown (context k) k (last_in blocks k) ≡ false → Runs blocks shown B context own address n os (before (branch_to blocks k)) t
      → Runs blocks shown B context own address (suc n) os (inside k (last_in blocks k) (suc m)) (met k (address (last_in blocks k)) t)
  run_tail : {n : ℕ} {os : List Bool} {k m : ℕ} → k < B → ends_in_jmp blocks k ≡ true → is_block (branch_to blocks k) ≡ false
      → silent blocks shown (context k) k (last_in blocks k) ≡ false
      → Runs blocks shown B context own address (suc n) os (inside k (last_in blocks k) (suc m)) (met k (address (last_in blocks k)) (stop left))
  run_dry : {n k m : ℕ} → k < B → ends_in_branch blocks k ≡ true → silent blocks shown (context k) k (last_in blocks k) ≡ false
      → Runs blocks shown B context own address (suc n) [] (inside k (last_in blocks k) (suc m)) (met k (address (last_in blocks k)) (stop dry))
  run_taken : {n : ℕ} {os : List Bool} {k m : ℕ} {t : Trace} → k < B → ends_in_branch blocks k ≡ true → silent blocks shown (context k) k (last_in blocks k) ≡ false
      → Runs blocks shown B context own address n os (before (branch_to blocks k)) t
      → Runs blocks shown B context own address (suc n) (true ∷ os) (inside k (last_in blocks k) (suc m)) (met k (address (last_in blocks k)) t)
  run_not : {n : ℕ} {os : List Bool} {k m : ℕ} {t : Trace} → k < B → ends_in_branch blocks k ≡ true → silent blocks shown (context k) k (last_in blocks k) ≡ false
      → Runs blocks shown B context own address n os (before (k + 1)) t
      → Runs blocks shown B context own address (suc n) (false ∷ os) (inside k (last_in blocks k) (suc m)) (met k (address (last_in blocks k)) t)

-- what the proof of following asks of rows, besides that every goto has its label
pub record Rowed (blocks edges shown : List ℕ) (B : ℕ) (name target : ℕ → List ℕ) (own : ℕ → Own) : Type 0 where
  -- no place is 65535, which stands for no block
  pub few : B ≤ no_block
  -- only a block's last instruction can turn away
  pub mid : (k i : ℕ) → k < B → first_in blocks k ≤ i → i + 1 < first_in blocks k + count_in blocks k → own i ≡ own_on
  -- a last return or indirect jump has its line
  pub seen_return : (k : ℕ) → k < B → exit_of blocks own k ≡ returns → is_shown shown (last_in blocks k) ≡ true
  pub seen_leave : (k : ℕ) → k < B → exit_of blocks own k ≡ leaves → is_shown shown (last_in blocks k) ≡ true
  -- branches and jumps to blocks, and what follows a block that falls or branches, lie within the record
  pub branch_in : (k : ℕ) → k < B → ends_in_branch blocks k ≡ true → (is_block (branch_to blocks k) ≡ true) × (branch_to blocks k < B)
  pub jump_in : (k : ℕ) → k < B → is_block (branch_to blocks k) ≡ true → branch_to blocks k < B
  pub falls_in : (k : ℕ) → k < B → exit_of blocks own k ≡ falls → k + 1 < B
  pub past_branch : (k : ℕ) → k < B → ends_in_branch blocks k ≡ true → k + 1 < B
  -- a block that closes a loop ends in a branch back to its head
  pub closes : (i j : ℕ) → i < B → j < B → closes_loop blocks edges i j ≡ true → (ends_in_branch blocks j ≡ true) × (branch_to blocks j ≡ i)
  -- labels of two places differ, and a branch or jump to a block names that block's label
  pub named : (j t : ℕ) → j < B → t < B → same_word (name j) (name t) ≡ eqb j t
  pub targets_named : (k : ℕ) → k < B → is_block (branch_to blocks k) ≡ true → target (last_in blocks k) ≡ name (branch_to blocks k)

-- a list's addresses of lines that stay are those of their instructions
abbrev pub Addressed : (Line → ℕ) → (ℕ → ℕ) → Type 0
Addressed line-address address = (w : What) (k i d : ℕ) → is_left_out w ≡ false → line-address (line w k i d) ≡ address i
