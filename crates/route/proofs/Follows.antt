-- Following lines leads where the processor goes, if that holds of the lines behind them: of each line, block, loop, region and tree.
-- Gotos and loops lead back, with one instruction fewer to meet: induction on n. All else goes forward: induction on the tree.
use mathlib.Core.Path.{◌≡◌, refl, sym, ap, ◌∙◌, subst, subst₂}
use mathlib.Core.Bool.{Bool, true, false, not, ◌&&◌, ◌||◌}
use mathlib.Core.List.{List, [], ◌∷◌, ◌++◌, map, append_assoc}
use mathlib.Core.Logic.{inl, inr}
use Prim.Native.Nat.{ℕ, zero, suc, ◌+◌, ◌-◌, ◌<◌, ◌≤◌}
use native.Mathlib.Nat.{le_refl}
use native.Mathlib.Numerals.{add-one}
use native.Mathlib.Omega.{arith}
use lib.Dec.{eqb, ltb}
use borrow.Author.Tests.{eqb-true, eq-eqb, ne_eqb, ltb-true}
use Rattle.lists.specs.Choice.{pick}
use Rattle.lists.specs.Every.{both_yes, every}
use Rattle.cfg.specs.Graph.{first_in, count_in, label_wanted, ending_in, ends_in_branch, ends_in_jmp, branch_to, no_block, is_block, last_in, is_shown, closes_loop}
use Rattle.cfg.proofs.Within.{ends_some}
use Rattle.structure.specs.Tree.{Tree}
use Rattle.structure.specs.Tree.Tree.{over, plain, region, loop}
use Rattle.structure.specs.Plan.{What, Line, line, label_if, labelled, head_labelled, inner_labelled, shown_lines, body_count, body_lines, goes_next, jump_lines}
use Rattle.structure.specs.Plan.{closing_lines, block_lines, plain_lines, flat_lines, test_block, loop_lines, tree_lines}
use Rattle.structure.specs.Plan.What.{label_line, do_line, open_line, if_goto, while_line, close_line, goto_line, tail_call, insn_line}
use Rattle.structure.specs.Demand.{Context, silent, last_silent}
use Rattle.structure.specs.Demand.Context.{in_range, last_in_body}
use Rattle.structure.proofs.Grown.{Fits}
use Rattle.structure.proofs.Unsilenced.{is_last, not_last}
use Rattle.x86.specs.Words.{same_word}
use Rattle.route.specs.Assumed.{label_stands, is_labelled}
use Rattle.route.specs.Trace.{Trace, chosen}
use Rattle.route.specs.Trace.Trace.{met}
use Rattle.route.specs.Following.{Stated, Stack, seeking, seek, walk, follow}
use Rattle.route.specs.Processor.{Spot}
use Rattle.route.specs.Processor.Spot.{before, inside}
use Rattle.route.proofs.Stating.{Own, own_statement}
use Rattle.route.proofs.Stating.Own.{own_on, own_return, own_leave}
use Rattle.route.proofs.Rules.{own_exit, exit_of, Goes, Runs, Rowed, Addressed}
use Rattle.route.proofs.Rules.Exit.{falls, returns, leaves}
use Rattle.route.proofs.Rules.Runs.{run_cut, run_enter, run_pass, run_step, run_over, run_returns, run_leaves, run_quiet, run_jump, run_tail}
use Rattle.route.proofs.Rules.Runs.{run_dry, run_taken, run_not}
use Rattle.route.proofs.Passed.{told, Passed, passes, behind_brace}

-- for each open brace the lines behind it
abbrev pub Open : Type 0
Open = List (List Line)

-- the place of a spot's block
abbrev pub place_of : Spot → ℕ
place_of (before k) = k
place_of (inside k i m) = k

-- where the regions write blocks agrees with their contexts
abbrev pub Agrees : (ℕ → Context) → Tree → ℕ → ℕ → Type 0
Agrees context over i to = Unit {0}
Agrees context (plain r) i to = (context i ≡ in_range to) × Agrees context r (i + 1) to
Agrees context (region t a r) i to = Agrees context a (i + 1) t × Agrees context r t to
Agrees context (loop j r) i to = ((k : ℕ) → i ≤ k → k < j → context k ≡ in_range (j + 1)) × Agrees context r (j + 1) to

own_sought : (o : Own) (w : List ℕ) (go : Stack → List Stated → Trace) (st : Stack) (ls : List Stated) (on : Stack → Trace)
    → seeking (own_statement o) w go st ls on ≡ on st
own_sought own_on w go st ls on = refl
own_sought own_return w go st ls on = refl
own_sought own_leave w go st ls on = refl

-- ---- which instructions of block k are silent

module _ (blocks shown : List ℕ) (k : ℕ) where
  branch_loud : (c : Context) → ends_in_branch blocks k ≡ true → silent blocks shown c k (last_in blocks k) ≡ false
  branch_loud c e = is_last blocks shown c k (last_in blocks k) refl ∙ by c
    where
      by : (c : Context) → last_silent blocks shown c k ≡ false
      by last_in_body = refl
      by (in_range to) = rw e

-- ---- the simulation

module _ (blocks edges shown : List ℕ) (B : ℕ) (context : ℕ → Context) (name target : ℕ → List ℕ) (own : ℕ → Own) (address : ℕ → ℕ)
    (line-address : Line → ℕ) (whole : List Line) where
  -- at the last instruction of block k, whether it is silent, and a line for it
  abbrev last_spot : ℕ → Spot
  last_spot k = inside k (last_in blocks k) 1

  abbrev quiet : ℕ → Bool
  quiet k = silent blocks shown (context k) k (last_in blocks k)

  abbrev last_line : What → ℕ → ℕ → Line
  last_line w k d = line w k (last_in blocks k) d

  abbrev pub says : List Line → List Stated
  says ls = told name target own line-address ls

  abbrev pub Meets : ℕ → List Bool → Spot → Trace → Type 0
  Meets m os s t = Runs blocks shown B context own address m os s t

  -- the listing's route from lines, and from a label in them
  abbrev pub leads : ℕ → List Bool → Open → List Line → Trace
  leads m os st ls = follow (says whole) m os (map says st) (says ls)

  abbrev pub leads_from : ℕ → ℕ → List Bool → Open → List Line → Trace
  leads_from k m os st ls = seek (name k) (follow (says whole) m os) (says ls) (map says st)

  -- from a spot and from lines both routes meet the same, for each number up to n; of a place past the last block nothing is said
  abbrev pub Sim : ℕ → Spot → Open → List Line → Type 0
  Sim n s st ls = place_of s < B → (m : ℕ) (os : List Bool) → m ≤ n → Meets m os s (leads m os st ls)

  -- so they do from each label that stands in the lines
  abbrev pub Finds : ℕ → Open → List Line → Type 0
  Finds n st ls = (k : ℕ) → k < B → label_stands k ls ≡ true → (m : ℕ) (os : List Bool) → m ≤ n → Meets m os (before k) (leads_from k m os st ls)

  -- each goto in the lines names a label that stands in the listing
  abbrev pub Aims : List Line → Type 0
  Aims ls = every (is_labelled blocks whole) ls ≡ true

  abbrev pub Ok : ℕ → Spot → Open → List Line → Type 0
  Ok n s st ls = Aims ls → Sim n s st ls × Finds n st ls

  -- gotos lead right, for fewer than n
  abbrev pub Jumps : ℕ → Type 0
  Jumps n = (k : ℕ) → k < B → label_stands k whole ≡ true → (m : ℕ) (os : List Bool) → m < n → Meets m os (before k) (leads_from k m os [] whole)

  -- with a goto of block k in front
  aims_first : (k : ℕ) (ls : List Line) → (label_stands (branch_to blocks k) whole && every (is_labelled blocks whole) ls) ≡ true
      → (label_stands (branch_to blocks k) whole ≡ true) × Aims ls
  aims_first k ls a = both_yes (label_stands (branch_to blocks k) whole) (every (is_labelled blocks whole) ls) a

  aims_behind : (xs ys : List Line) → Aims (xs ++ ys) → Aims ys
  aims_behind [] ys a = a
  aims_behind (x ∷ xs) ys a = aims_behind xs ys (both_yes (is_labelled blocks whole x) (every (is_labelled blocks whole) (xs ++ ys)) a).1

  module _ (rowed : Rowed blocks edges shown B name target own) (addressed : Addressed line-address address) where
    module _ (n : ℕ) (jumps : Jumps n) where
      ok_as : (s t : Spot) (st : Open) (xs ys : List Line) → s ≡ t → xs ≡ ys → Ok n t st ys → Ok n s st xs
      ok_as s t st xs ys e f o = subst₂ (λ (p : Spot) (l : List Line). Ok n p st l) (sym e) (sym f) o

      -- none asked for, none met
      from_one : (s : Spot) (st : Open) (ls : List Line)
          → (place_of s < B → (m : ℕ) (os : List Bool) → m < n → Meets (suc m) os s (leads (suc m) os st ls)) → Sim n s st ls
      unfolding follow
      from_one s st ls f p zero os le = run_cut
      from_one s st ls f p (suc m) os le = f p m os le

      -- ---- one line in front, or one step without a line

      ok_label : (b : Bool) (k d : ℕ) (st : Open) (ls : List Line) → k < B → Ok n (before k) st ls → Ok n (before k) st (label_if b k d ++ ls)
      unfolding follow walk seek label_stands
      ok_label false k d st ls h o a = o a
      ok_label true k d st ls h o a = (from_one (before k) st (line label_line k 0 (d - 1) ∷ ls) (λ p m os le. (o a).0 p (suc m) os le), finds)
        where
          finds : Finds n st (line label_line k 0 (d - 1) ∷ ls)
          finds j p q m os le = by (eqb k j) refl q
            where
              named : same_word (name k) (name j) ≡ eqb k j
              named = rowed.named k j h p

              by : (b : Bool) → eqb k j ≡ b → (b || label_stands j ls) ≡ true
                  → Meets m os (before j) (pick (same_word (name k) (name j)) (leads m os st ls) (leads_from j m os st ls))
              by true e q = rw (named, e) (subst (λ (x : ℕ). Meets m os (before x) (leads m os st ls)) (eqb-true k j e) ((o a).0 h m os le))
              by false e q = rw (named, e) ((o a).1 j p q m os le)

      ok_enter : (k : ℕ) (st : Open) (ls : List Line) → Ok n (inside k (first_in blocks k) (count_in blocks k)) st ls → Ok n (before k) st ls
      ok_enter k st ls o a = (from_one (before k) st ls (λ p m os le. run_enter p ((o a).0 p (suc m) os le)), (o a).1)

      past_own : (k i d : ℕ) (st : Open) (ls : List Line) → Finds n st ls → Finds n st (line insn_line k i d ∷ ls)
      unfolding seek label_stands
      past_own k i d st ls f j p q m os le = rw (own_sought (own i)) (f j p q m os le)

      -- an instruction that goes on, with a line or none; xs are the lines of its block's instructions behind it
      ok_insn : (k i m d : ℕ) (st : Open) (xs ls : List Line) → Goes blocks B own k i → silent blocks shown (context k) k i ≡ not (is_shown shown i)
          → Ok n (inside k (suc i) m) st (xs ++ ls) → Ok n (inside k i (suc m)) st (pick (is_shown shown i) (line insn_line k i d ∷ xs) xs ++ ls)
      unfolding follow walk
      ok_insn k i m d st xs ls g q o = by (is_shown shown i) q
        where
          by : (b : Bool) → silent blocks shown (context k) k i ≡ not b → Ok n (inside k i (suc m)) st (pick b (line insn_line k i d ∷ xs) xs ++ ls)
          by true e a = (
            from_one (inside k i (suc m)) st (line insn_line k i d ∷ (xs ++ ls))
                (λ p r os le. rw (addressed insn_line k i d refl, g.on) (run_step g e ((o a).0 p r os (omega arith)))),
            past_own k i d st (xs ++ ls) (o a).1,
          )
          by false e a = (from_one (inside k i (suc m)) st (xs ++ ls) (λ p r os le. run_pass g e ((o a).0 p (suc r) os le)), (o a).1)

      ok_over : (k i : ℕ) (st : Open) (ls : List Line) → exit_of blocks own k ≡ falls → Ok n (before (k + 1)) st ls → Ok n (inside k i 0) st ls
      ok_over k i st ls e o a = (from_one (inside k i 0) st ls (λ p m os le. run_over p e ((o a).0 (rowed.falls_in k p e) (suc m) os le)), (o a).1)

      -- a last instruction's own line, by what the processor does there
      ok_last : (k d : ℕ) (st : Open) (ls : List Line) → is_shown shown (last_in blocks k) ≡ true
          → (k < B → (m : ℕ) (os : List Bool) → m < n → Meets (suc m) os (last_spot k) (leads (suc m) os st (last_line insn_line k d ∷ ls)))
          → Ok n (before (k + 1)) st ls → Ok n (last_spot k) st (shown_lines shown k (last_in blocks k) 1 d ++ ls)
      unfolding shown_lines
      ok_last k d st ls s f o = rw s (λ a. (from_one (last_spot k) st (last_line insn_line k d ∷ ls) f, past_own k (last_in blocks k) d st ls (o a).1))

      ok_tail : (k d : ℕ) (st : Open) (ls : List Line) → ends_in_jmp blocks k ≡ true → is_block (branch_to blocks k) ≡ false → quiet k ≡ false
          → Ok n (before (k + 1)) st ls → Ok n (last_spot k) st (last_line tail_call k d ∷ ls)
      unfolding follow walk seek label_stands
      ok_tail k d st ls e f q o a =
          (from_one (last_spot k) st (last_line tail_call k d ∷ ls) (λ p m os le. rw (addressed tail_call k (last_in blocks k) d refl) (run_tail p e f q)), (o a).1)

      ok_goto : (k d : ℕ) (st : Open) (ls : List Line) → ends_in_jmp blocks k ≡ true → is_block (branch_to blocks k) ≡ true → quiet k ≡ false
          → Ok n (before (k + 1)) st ls → Ok n (last_spot k) st (last_line goto_line k d ∷ ls)
      unfolding follow walk seek label_stands
      ok_goto k d st ls e f q o a =
          let x = aims_first k ls a in (
            from_one (last_spot k) st (last_line goto_line k d ∷ ls)
                (λ p m os le.
                rw (addressed goto_line k (last_in blocks k) d refl, rowed.targets_named k p f)
                (run_jump p e f q (jumps (branch_to blocks k) (rowed.jump_in k p f) x.0 m os le))),
            (o x.1).1,
          )

      -- a jump without a line
      ok_quiet : (k : ℕ) (st : Open) (ls : List Line) → ends_in_jmp blocks k ≡ true → is_block (branch_to blocks k) ≡ true → quiet k ≡ true
          → Ok n (before (branch_to blocks k)) st ls → Ok n (last_spot k) st ls
      ok_quiet k st ls e f q o a =
          (from_one (last_spot k) st ls (λ p m os le. run_quiet p e f q ((o a).0 (rowed.jump_in k p f) (suc m) os le)), (o a).1)

      -- by a branch's outcome
      branched : (k m : ℕ) (os : List Bool) (taken else : List Bool → Trace) → k < B → ends_in_branch blocks k ≡ true
          → ((r : List Bool) → Meets m r (before (branch_to blocks k)) (taken r)) → ((r : List Bool) → Meets m r (before (k + 1)) (else r))
          → Meets (suc m) os (last_spot k) (met k (address (last_in blocks k)) (chosen os taken else))
      branched k m [] t f p e x y = run_dry p e (branch_loud blocks shown k (context k) e)
      branched k m (true ∷ os) t f p e x y = run_taken p e (branch_loud blocks shown k (context k) e) (x os)
      branched k m (false ∷ os) t f p e x y = run_not p e (branch_loud blocks shown k (context k) e) (y os)

      ok_if_goto : (k d : ℕ) (st : Open) (ls : List Line) → ends_in_branch blocks k ≡ true
          → Ok n (before (k + 1)) st ls → Ok n (last_spot k) st (last_line if_goto k d ∷ ls)
      unfolding follow walk seek label_stands
      ok_if_goto k d st ls e o a =
          let x = aims_first k ls a in (
            from_one (last_spot k) st (last_line if_goto k d ∷ ls)
                (λ p m os le.
                let b = rowed.branch_in k p e in
                rw (addressed if_goto k (last_in blocks k) d refl, rowed.targets_named k p b.0)
                (branched k m os _ _ p e (λ r. jumps (branch_to blocks k) b.1 x.0 m r le) (λ r. (o x.1).0 (rowed.past_branch k p e) m r (omega arith)))),
            (o x.1).1,
          )

      -- us follow the region's brace
      ok_open : (k d : ℕ) (st : Open) (inner us : List Line) → ends_in_branch blocks k ≡ true → Passed name target own line-address inner
          → Ok n (before (branch_to blocks k)) st us
          → Ok n (before (k + 1)) ((inner ++ (line close_line k 0 d ∷ us)) ∷ st) (inner ++ (line close_line k 0 d ∷ us))
          → Ok n (last_spot k) st (last_line open_line k d ∷ (inner ++ (line close_line k 0 d ∷ us)))
      unfolding follow walk seek label_stands
      ok_open k d st inner us e q v o a =
          let x = v (aims_behind inner (line close_line k 0 d ∷ us) a) in (
            from_one (last_spot k) st (last_line open_line k d ∷ (inner ++ (line close_line k 0 d ∷ us)))
                (λ p m os le.
                rw (addressed open_line k (last_in blocks k) d refl, behind_brace name target own line-address k d inner us q)
                (branched k m os _ _ p e (λ r. x.0 (rowed.branch_in k p e).1 m r (omega arith)) (λ r. (o a).0 (rowed.past_branch k p e) m r (omega arith)))),
            (o a).1,
          )

      ok_close : (s : Spot) (k d : ℕ) (b : List Line) (st : Open) (ls : List Line) → Ok n s st ls → Ok n s (b ∷ st) (line close_line k 0 d ∷ ls)
      unfolding follow walk seek label_stands
      ok_close s k d b st ls o a = (from_one s (b ∷ st) (line close_line k 0 d ∷ ls) (λ p m os le. (o a).0 p (suc m) os le), (o a).1)

      ok_do : (s : Spot) (k d : ℕ) (st : Open) (ls : List Line) → Ok n s (ls ∷ st) ls → Ok n s st (line do_line k 0 d ∷ ls)
      unfolding follow walk seek label_stands
      ok_do s k d st ls o a = (from_one s st (line do_line k 0 d ∷ ls) (λ p m os le. (o a).0 p (suc m) os le), (o a).1)

      -- b are the lines behind the do
      ok_while : (k d : ℕ) (b : List Line) (st : Open) (ls : List Line) → ends_in_branch blocks k ≡ true
          → ((m : ℕ) (os : List Bool) → m < n → Meets m os (before (branch_to blocks k)) (leads m os (b ∷ st) b))
          → Ok n (before (k + 1)) st ls → Ok n (last_spot k) (b ∷ st) (last_line while_line k d ∷ ls)
      unfolding follow walk seek label_stands
      ok_while k d b st ls e back o a = (
        from_one (last_spot k) (b ∷ st) (last_line while_line k d ∷ ls)
            (λ p m os le.
            rw (addressed while_line k (last_in blocks k) d refl)
            (branched k m os _ _ p e (λ r. back m r le) (λ r. (o a).0 (rowed.past_branch k p e) m r (omega arith)))),
        (o a).1,
      )

      -- ---- a block in front

      -- from instruction i of block k, c before its last; the lines are of these c, and of the last too if q is 1
      ok_insns : (k i c m q d : ℕ) (st : Open) (ls : List Line) → k < B → first_in blocks k ≤ i → i + suc c ≡ first_in blocks k + count_in blocks k → c + q ≡ m
          → Ok n (last_spot k) st (shown_lines shown k (last_in blocks k) q d ++ ls) → Ok n (inside k i (suc c)) st (shown_lines shown k i m d ++ ls)
      unfolding shown_lines
      ok_insns k i zero m q d st ls h f g e o =
          let x : i ≡ last_in blocks k = omega arith in
          let y : m ≡ q = omega arith in
          ok_as (inside k i 1) (last_spot k) st (shown_lines shown k i m d ++ ls) (shown_lines shown k (last_in blocks k) q d ++ ls) (rw x) (rw (x, y)) o
      ok_insns k i (suc c) zero q d st ls h f g e o = absurd (omega arith)
      ok_insns k i (suc c) (suc m) q d st ls h f g e o =
          let next : i + 1 < first_in blocks k + count_in blocks k = omega arith in
          ok_insn k i (suc c) d st (shown_lines shown k (suc i) m d) ls
          (record { block = h; from = f; within = omega arith; on = rowed.mid k i h f next; not_last = inl next })
          (not_last blocks shown (context k) k i (omega arith)) (ok_insns k (suc i) c m q d st ls h (omega arith) (omega arith) (omega arith) o)

      -- the label and the instructions of a block that has some
      ok_head : (b : Bool) (k m q d : ℕ) (st : Open) (ls : List Line) → k < B → 1 ≤ count_in blocks k → count_in blocks k - 1 + q ≡ m
          → Ok n (last_spot k) st (shown_lines shown k (last_in blocks k) q d ++ ls)
          → Ok n (before k) st (label_if b k d ++ (shown_lines shown k (first_in blocks k) m d ++ ls))
      ok_head b k m q d st ls h c e o =
          let i = first_in blocks k in
          let all : count_in blocks k ≡ suc (count_in blocks k - 1) = omega arith in
          ok_label b k d st (shown_lines shown k i m d ++ ls) h
          (ok_enter k st (shown_lines shown k i m d ++ ls)
          (ok_as (inside k i (count_in blocks k)) (inside k i (suc (count_in blocks k - 1))) st _ _ (ap (inside k i) all) refl
          (ok_insns k i (count_in blocks k - 1) m q d st ls h (le_refl i) (omega arith) e o)))

      -- the last instruction of a block that ends in no branch and no direct jmp
      ok_own : (k d : ℕ) (st : Open) (ls : List Line) → k < B → 1 ≤ count_in blocks k → exit_of blocks own k ≡ own_exit (own (last_in blocks k))
          → quiet k ≡ not (is_shown shown (last_in blocks k))
          → Ok n (before (k + 1)) st ls → Ok n (last_spot k) st (shown_lines shown k (last_in blocks k) 1 d ++ ls)
      unfolding shown_lines follow walk
      ok_own k d st ls h c e q o = by (own (last_in blocks k)) refl
        where
          by : (w : Own) → own (last_in blocks k) ≡ w → Ok n (last_spot k) st (shown_lines shown k (last_in blocks k) 1 d ++ ls)
          by own_on f =
              let x : exit_of blocks own k ≡ falls = e ∙ ap own_exit f in
              ok_insn k (last_in blocks k) 0 d st [] ls (record { block = h; from = omega arith; within = omega arith; on = f; not_last = inr x }) q
              (ok_over k (suc (last_in blocks k)) st ls x o)
          by own_return f =
              let x : exit_of blocks own k ≡ returns = e ∙ ap own_exit f in
              let s = rowed.seen_return k h x in
              ok_last k d st ls s (λ p m os le. rw (addressed insn_line k (last_in blocks k) d refl, f) (run_returns p x (q ∙ rw s))) o
          by own_leave f =
              let x : exit_of blocks own k ≡ leaves = e ∙ ap own_exit f in
              let s = rowed.seen_leave k h x in
              ok_last k d st ls s (λ p m os le. rw (addressed insn_line k (last_in blocks k) d refl, f) (run_leaves p x (q ∙ rw s))) o

      ok_plain : (b : Bool) (k to d : ℕ) (st : Open) (ls : List Line) → k < B → context k ≡ in_range to → ends_in_branch blocks k ≡ false → ends_in_jmp blocks k ≡ false
          → Ok n (before (k + 1)) st ls → Ok n (before k) st (label_if b k d ++ (shown_lines shown k (first_in blocks k) (count_in blocks k) d ++ ls))
      unfolding shown_lines
      ok_plain b k to d st ls h c p q o = by (count_in blocks k) refl
        where
          by : (m : ℕ) → count_in blocks k ≡ m → Ok n (before k) st (label_if b k d ++ (shown_lines shown k (first_in blocks k) (count_in blocks k) d ++ ls))
          by zero e = rw e (ok_label b k d st ls h (ok_enter k st ls (rw e (ok_over k (first_in blocks k) st ls (rw (p, q, e)) o))))
          by (suc m) e =
              ok_head b k (count_in blocks k) 1 d st ls h (omega arith) (omega arith)
              (ok_own k d st ls h (omega arith) (rw (p, q, ne_eqb (count_in blocks k) 0 (omega arith))) (is_last blocks shown (context k) k (last_in blocks k) refl ∙ rw (c, p, q)) o)

      ok_jump : (k to d : ℕ) (st : Open) (ls : List Line) → to ≤ B → context k ≡ in_range to → ends_in_branch blocks k ≡ false → ends_in_jmp blocks k ≡ true
          → Ok n (before (k + 1)) st ls → Ok n (last_spot k) st (jump_lines blocks k to d ++ ls)
      ok_jump k to d st ls h c p q o = by (goes_next blocks k to) (is_block (branch_to blocks k)) refl refl
        where
          silenced : quiet k ≡ goes_next blocks k to
          silenced = is_last blocks shown (context k) k (last_in blocks k) refl ∙ rw (c, p, q)

          by : (x y : Bool) → goes_next blocks k to ≡ x → is_block (branch_to blocks k) ≡ y
              → Ok n (last_spot k) st (pick x [] (last_line (pick y goto_line tail_call) k d ∷ []) ++ ls)
          by true y e f =
              let g = both_yes (eqb (branch_to blocks k) (k + 1)) (ltb (k + 1) to) e in
              let next = eqb-true (branch_to blocks k) (k + 1) g.0 in
              let some = ne_eqb (branch_to blocks k) no_block (omega (arith, ltb-true (k + 1) to g.1, rowed.few)) in
              ok_quiet k st ls q (ap not some) (silenced ∙ e) (ok_as (before (branch_to blocks k)) (before (k + 1)) st ls ls (ap before next) refl o)
          by false true e f = ok_goto k d st ls q f (silenced ∙ e) o
          by false false e f = ok_tail k d st ls q f (silenced ∙ e) o

      ok_block : (b : Bool) (k to d : ℕ) (st : Open) (ls : List Line) → k < B → to ≤ B → context k ≡ in_range to
          → Ok n (before (k + 1)) st ls → Ok n (before k) st (block_lines blocks shown b k to d ++ ls)
      unfolding block_lines body_count closing_lines shown_lines
      ok_block b k to d st ls h t c o =
          ok_as (before k) (before k) st _ (label_if b k d ++ (body_lines blocks shown k d ++ (closing_lines blocks k to d ++ ls))) refl (simp append_assoc)
          (by (ends_in_branch blocks k) (ends_in_jmp blocks k) refl refl)
        where
          by : (x y : Bool) → ends_in_branch blocks k ≡ x → ends_in_jmp blocks k ≡ y
              → Ok n (before k) st (label_if b k d ++ (shown_lines shown k (first_in blocks k) (pick (x || y) (count_in blocks k - 1) (count_in blocks k)) d
              ++ (pick x (last_line if_goto k d ∷ []) (pick y (jump_lines blocks k to d) []) ++ ls)))
          by true y p q = ok_head b k (count_in blocks k - 1) 0 d st _ h (ends_some blocks k 1 p) (omega arith) (ok_if_goto k d st ls p o)
          by false true p q = ok_head b k (count_in blocks k - 1) 0 d st _ h (ends_some blocks k 2 q) (omega arith) (ok_jump k to d st ls t c p q o)
          by false false p q = ok_plain b k to d st ls h c p q o

      -- ---- the blocks of a do-body, and its test

      ok_flats : (i j k c d : ℕ) (st : Open) (ls : List Line) → k + c ≡ j → j < B → ((x : ℕ) → k ≤ x → x < j → context x ≡ in_range (j + 1))
          → Ok n (before j) st ls → Ok n (before k) st (flat_lines blocks shown i j k c d ++ ls)
      unfolding flat_lines
      ok_flats i j k zero d st ls e h w o = let z : k ≡ j = omega arith in ok_as (before k) (before j) st ls ls (ap before z) refl o
      ok_flats i j k (suc c) d st ls e h w o =
          let here = block_lines blocks shown (inner_labelled blocks i k) k (j + 1) d in
          let later = flat_lines blocks shown i j (suc k) c d in
          ok_as (before k) (before k) st _ (here ++ (later ++ ls)) refl (append_assoc here later ls)
          (ok_block (inner_labelled blocks i k) k (j + 1) d st (later ++ ls) (omega arith) (omega arith) (w k (le_refl k) (omega arith))
          (ok_as (before (k + 1)) (before (suc k)) st (later ++ ls) (later ++ ls) (ap before (add-one k)) refl
          (ok_flats i j (suc k) c d st ls (omega arith) h (λ x g l. w x (omega arith) l) o)))

      -- b are the lines behind the do
      ok_turn : (i j d : ℕ) (b : List Line) (st : Open) (ls : List Line) → i < j → j < B → ends_in_branch blocks j ≡ true
          → ((x : ℕ) → i ≤ x → x < j → context x ≡ in_range (j + 1))
          → ((m : ℕ) (os : List Bool) → m < n → Meets m os (before (branch_to blocks j)) (leads m os (b ∷ st) b))
          → Ok n (before (j + 1)) st ls → Ok n (before i) (b ∷ st) (flat_lines blocks shown i j i (j - i) (d + 1) ++ (test_block blocks shown j d ++ ls))
      unfolding test_block shown_lines
      ok_turn i j d b st ls p q e w back o =
          let lab = label_if (label_wanted blocks j) j (d + 1) in
          let body = shown_lines shown j (first_in blocks j) (count_in blocks j - 1) (d + 1) in
          let test = last_line while_line j d ∷ ls in
          ok_flats i j i (j - i) (d + 1) (b ∷ st) _ (omega arith) q w
          (ok_as (before j) (before j) (b ∷ st) _ (lab ++ (body ++ test)) refl (simp append_assoc)
          (ok_head (label_wanted blocks j) j (count_in blocks j - 1) 0 (d + 1) (b ∷ st) test q (ends_some blocks j 1 e) (omega arith) (ok_while j d b st ls e back o)))

    -- ---- a loop in front: by induction on n, its body leads back

    fewer : (n m : ℕ) → m ≤ n → Jumps n → Jumps m
    fewer n m h jumps k p q l os lt = jumps k p q l os (omega arith)

    ok_fewer : (n m : ℕ) (s : Spot) (st : Open) (ls : List Line) → m ≤ n → Ok n s st ls → Ok m s st ls
    ok_fewer n m s st ls h o a = (λ p l os le. (o a).0 p l os (omega arith), λ k p q l os le. (o a).1 k p q l os (omega arith))

    module _ (i j d : ℕ) (st : Open) (ls : List Line) (p : i < j) (q : j < B) (e : closes_loop blocks edges i j ≡ true)
        (w : (x : ℕ) → i ≤ x → x < j → context x ≡ in_range (j + 1)) where
      abbrev behind : List Line
      behind = flat_lines blocks shown i j i (j - i) (d + 1) ++ (test_block blocks shown j d ++ ls)

      shut : (ends_in_branch blocks j ≡ true) × (branch_to blocks j ≡ i)
      shut = rowed.closes i j (omega arith) q e

      back : Aims behind → (n : ℕ) → Jumps n → Ok n (before (j + 1)) st ls
          → (m : ℕ) (os : List Bool) → m < n → Meets m os (before (branch_to blocks j)) (leads m os (behind ∷ st) behind)
      back a zero jumps o m os h = absurd (omega arith)
      back a (suc n) jumps o m os h =
          let fewer-jumps = fewer (suc n) n (omega arith) jumps in
          let fewer-ok = ok_fewer (suc n) n (before (j + 1)) st ls (omega arith) o in
          rw shut.1
          ((ok_turn n fewer-jumps i j d behind st ls p q shut.0 w (back a n fewer-jumps fewer-ok) fewer-ok a).0 (omega arith) m os (omega arith))

      ok_loop : (n : ℕ) → Jumps n → Ok n (before (j + 1)) st ls → Ok n (before i) st (loop_lines blocks edges shown B i j d ++ ls)
      unfolding loop_lines
      ok_loop n jumps o =
          let lab = head_labelled blocks edges B i j in
          ok_as n jumps (before i) (before i) st _ (label_if lab i d ++ (line do_line i 0 d ∷ behind)) refl (simp append_assoc)
          (ok_label n jumps lab i d st (line do_line i 0 d ∷ behind) (omega arith)
          (ok_do n jumps (before i) i d st behind (λ a. ok_turn n jumps i j d behind st ls p q shut.0 w (back a n jumps o) o a)))

    -- ---- a tree in front

    pub ok_tree : (n : ℕ) → Jumps n → (t : Tree) (from i to d : ℕ) (st : Open) (ls : List Line) → Fits blocks edges t i to → i ≤ to → to ≤ B → Agrees context t i to
        → Ok n (before to) st ls → Ok n (before i) st (tree_lines blocks edges shown B t from i to d ++ ls)
    unfolding tree_lines body_count shown_lines
    ok_tree n jumps over from i to d st ls f h k g o = let e : i ≡ to = omega arith in ok_as n jumps (before i) (before to) st ls ls (ap before e) refl o
    ok_tree n jumps (plain r) from i to d st ls f h k g o =
        let here = plain_lines blocks edges shown B from i to d in
        let rest = tree_lines blocks edges shown B r from (i + 1) to d in
        ok_as n jumps (before i) (before i) st _ (here ++ (rest ++ ls)) refl (append_assoc here rest ls)
        (ok_block n jumps (labelled blocks edges B from i to) i to d st (rest ++ ls) (omega arith) k g.0
        (ok_tree n jumps r from (i + 1) to d st ls f.1 (omega arith) k g.1 o))
    ok_tree n jumps (region t a r) from i to d st ls f h k g o =
        let lab = labelled blocks edges B from i to in
        let inner = tree_lines blocks edges shown B a (i + 1) (i + 1) t (d + 1) in
        let rest = tree_lines blocks edges shown B r from t to d ++ ls in
        let b = inner ++ (line close_line i 0 d ∷ rest) in
        let e : ends_in_branch blocks i ≡ true = eq-eqb (ending_in blocks i) 2 f.2 in
        let after : Ok n (before t) st rest = ok_tree n jumps r from t to d st ls f.5 (omega arith) k g.1 o in
        ok_as n jumps (before i) (before i) st _ (label_if lab i d ++ (body_lines blocks shown i d ++ (last_line open_line i d ∷ b))) refl (simp append_assoc)
        (ok_head n jumps lab i (body_count blocks i) 0 d st (last_line open_line i d ∷ b) (omega arith) (ends_some blocks i 1 e) (rw e (omega arith))
        (ok_open n jumps i d st inner rest e (passes name target own line-address blocks edges shown B a (i + 1) (i + 1) t (d + 1)) (rw f.3 after)
        (ok_tree n jumps a (i + 1) (i + 1) t (d + 1) (b ∷ st) (line close_line i 0 d ∷ rest) f.4 (omega arith) (omega arith) g.0
        (ok_close n jumps (before t) i d b st rest after))))
    ok_tree n jumps (loop j r) from i to d st ls f h k g o =
        let here = loop_lines blocks edges shown B i j d in
        let rest = tree_lines blocks edges shown B r from (j + 1) to d in
        ok_as n jumps (before i) (before i) st _ (here ++ (rest ++ ls)) refl (append_assoc here rest ls)
        (ok_loop i j d st (rest ++ ls) f.0 (omega arith) f.2 g.0 n jumps (ok_tree n jumps r from (j + 1) to d st ls f.3 (omega arith) k g.1 o))
