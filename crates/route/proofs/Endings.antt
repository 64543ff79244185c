-- How a block of an accepted record ends and is left, by its last instruction's body; those before it turn nowhere.
-- The rows' tests are the body's, for question 8 gives ret and jmp no condition; an exit is taken apart by cases on the tests that lead to it.
use Prim.Native.Nat.{ℕ, ◌+◌, ◌-◌, ◌≤◌, ◌<◌}
use mathlib.Core.Bool.{Bool, true, false, not, ◌&&◌, ◌||◌, beq, true≢false}
use mathlib.Core.List.{List}
use mathlib.Core.Path.{◌≡◌, refl, sym, ap, ◌∙◌}
use native.Mathlib.Omega.{arith}
use borrow.Author.Tests.{eqb-true, eqb-false, not-true}
use lib.Dec.{eqb, leb}
use Rattle.lists.specs.Choice.{pick, all_below}
use Rattle.lists.specs.Every.{both_yes, neither}
use Rattle.lists.specs.Below.{all_at}
use Rattle.x86.specs.Mnemonics.{ret, jmp}
use Rattle.record.specs.declared.header.Header.{Header}
use Rattle.record.specs.Header.{header_of}
use Rattle.record.specs.Layout.{marks_of, bodies_of}
use Rattle.record.specs.Blocks.{instructions_in, first_instruction}
use Rattle.record.specs.Body.{body_at, mnemonic_of, condition_of, operand_kind, operand_number, is_conditional_branch, sets_by_condition, condition_ok}
use Rattle.record.specs.Asked.{first_no}
use Rattle.record.proofs.AskedLaws.{yes_body, yes_marks}
use Rattle.cfg.specs.Graph.{first_in, count_in, ending_in, ends_in_branch, ends_in_jmp, branch_to, last_in}
use Rattle.flow.specs.Silent.{is_direct_jmp, ending_of}
use Rattle.flow.specs.Rows.{place_of, last_body, block_ending, block_branch, block_rows}
use Rattle.flow.specs.Counted.{Counted}
use Rattle.flow.proofs.Terms.{first_in_lem, count_in_lem, ending_in_lem, branch_to_lem}
use Rattle.flow.proofs.Totals.{instructions_within, marks_counted}
use Rattle.flow.proofs.Silenced.{last_is, plain_jmps}
use Rattle.route.specs.Processor.{is_return, is_jump}
use Rattle.route.specs.Assumed.{Assumed, is_empty, turns, turns_last}
use Rattle.route.proofs.Stating.{own_at}
use Rattle.route.proofs.Stating.Own.{own_on, own_return, own_leave}
use Rattle.route.proofs.Rules.{Exit, own_exit, exit_of}
use Rattle.route.proofs.Rules.Exit.{falls, branches, jumps, returns, leaves}

-- ---- by tests: the block ends in a branch, in a direct jmp, is empty; its last instruction is a ret, a jmp

-- what the tests are where an exit is taken
abbrev Left : Bool → Bool → Bool → Bool → Bool → Exit → Type 0
Left b j z r t falls = (b ≡ false) × (z ≡ false → (r ≡ false) × (t ≡ false))
Left b j z r t branches = Unit {0}
Left b j z r t jumps = Unit {0}
Left b j z r t returns = (z ≡ false) × (r ≡ true)
Left b j z r t leaves = (j ≡ false) × (z ≡ false) × (r ≡ false) × (t ≡ true)

left_by : (b j z r t : Bool) → Left b j z r t (pick b branches (pick j jumps (pick z falls (own_exit (pick r own_return (pick t own_leave own_on))))))
left_by true j z r t = tt
left_by false true z r t = tt
left_by false false true r t = (refl, λ q. absurd (true≢false q))
left_by false false false true t = (refl, refl)
left_by false false false false true = (refl, refl, refl, refl)
left_by false false false false false = (refl, λ q. (refl, refl))

-- the ending's number is that of a branch; of a direct jmp, which has no condition (e)
branch_number : (z b c j : Bool) → eqb (pick z 0 (pick b 2 (pick c 1 (pick j 3 0)))) 2 ≡ (not z && b)
branch_number true b c j = refl
branch_number false true c j = refl
branch_number false false true j = refl
branch_number false false false true = refl
branch_number false false false false = refl

jmp_number : (z e n j : Bool) → (z ≡ false → (j && not e) ≡ false) → eqb (pick z 0 (pick (not e && n) 2 (pick (not e) 1 (pick j 3 0)))) 3 ≡ (not z && j)
jmp_number true e n j p = refl
jmp_number false true n true p = refl
jmp_number false true n false p = refl
jmp_number false false n true p = absurd (true≢false (p refl))
jmp_number false false true false p = refl
jmp_number false false false false p = refl

some_last : (z b : Bool) → (not z && b) ≡ true → (z ≡ false) × (b ≡ true)
some_last z b e = let p = both_yes (not z) b e in (not-true z p.0, p.1)

last_not : (z b : Bool) → (not z && b) ≡ false → z ≡ false → b ≡ false
last_not true b e q = absurd (true≢false q)
last_not false b e q = e

-- "non-zero for setcc and cmovcc, zero for other mnemonics above 0": y for mnemonic 0, b for those two, z for no condition
none_by : (y b z : Bool) → (y || b) ≡ false → (y || beq b (not z)) ≡ true → z ≡ true
none_by true b z p e = absurd (true≢false p)
none_by false true z p e = absurd (true≢false p)
none_by false false true p e = refl
none_by false false false p e = e

no_condition : (x m c : ℕ) → (eqb x 0 || sets_by_condition x) ≡ false → condition_ok m c ≡ true → eqb m x ≡ true → eqb c 0 ≡ true
no_condition x m c plain ok e =
    let q : condition_ok x c ≡ true = ap (λ (n : ℕ). condition_ok n c) (sym (eqb-true m x e)) ∙ ok in
    none_by (eqb x 0) (sets_by_condition x) (eqb c 0) plain (both_yes (leb x 45 && leb c 16) _ q).1

-- an instruction that turns nowhere
abbrev pub Plain : List ℕ → Type 0
Plain b = (is_return b ≡ false) × (is_jump b ≡ false) × (is_conditional_branch b ≡ false)

module _ (s : List ℕ) (asked : first_no s 0 (header_of s).blocks ≡ 0) where
  abbrev h : Header
  h = header_of s

  abbrev rows : List ℕ
  rows = block_rows h s

  abbrev body_in : ℕ → List ℕ
  body_in i = body_at (bodies_of h s) i

  pub counted : Counted h s
  counted = marks_counted h s (yes_marks s 0 h.blocks asked)

  -- a conditional branch is no ret and no jmp
  pub branch_plain : (i : ℕ) → i < h.instructions → is_conditional_branch (body_in i) ≡ true
      → (is_return (body_in i) ≡ false) × (is_jump (body_in i) ≡ false)
  branch_plain i l c = (other ret refl, other jmp refl)
    where
      b : List ℕ
      b = body_in i

      other : (x : ℕ) → (eqb x 0 || sets_by_condition x) ≡ false → eqb (mnemonic_of b) x ≡ false
      other x plain = go (eqb (mnemonic_of b) x) refl
        where
          go : (t : Bool) → eqb (mnemonic_of b) x ≡ t → t ≡ false
          go true e =
              let z = no_condition x (mnemonic_of b) (condition_of b) plain (yes_body s 0 h.blocks asked i l).condition e in
              sym z ∙ not-true (eqb (condition_of b) 0) (both_yes (not (eqb (condition_of b) 0)) (eqb (operand_kind b 0) 2) c).0
          go false e = refl

  module _ (k : ℕ) (below : k < h.blocks) where
    abbrev last : List ℕ
    last = last_body h s k

    abbrev empty : Bool
    empty = is_empty h s k

    pub last_within : empty ≡ false → first_instruction (marks_of h s) k + instructions_in (marks_of h s) k - 1 < h.instructions
    last_within e =
        omega (arith, eqb-false (instructions_in (marks_of h s) k) 0 e, instructions_within (marks_of h s) k h.blocks below, counted.instructions)

    pub ends_branch : ends_in_branch rows k ≡ (not empty && is_conditional_branch last)
    unfolding block_ending ending_of
    ends_branch =
        ap (λ (x : ℕ). eqb x 2) (ending_in_lem h s k below) ∙ branch_number empty (is_conditional_branch last) (not (eqb (condition_of last) 0)) (is_direct_jmp last)

    pub ends_jmp : ends_in_jmp rows k ≡ (not empty && is_direct_jmp last)
    unfolding block_ending ending_of
    ends_jmp =
        ap (λ (x : ℕ). eqb x 3) (ending_in_lem h s k below)
        ∙ jmp_number empty (eqb (condition_of last) 0) (eqb (operand_kind last 0) 2) (is_direct_jmp last) (λ e. plain_jmps s 0 h.blocks asked _ (last_within e))

    pub branch_last : ends_in_branch rows k ≡ true → (empty ≡ false) × (is_conditional_branch last ≡ true)
    branch_last e = some_last _ _ (sym ends_branch ∙ e)

    pub jmp_last : ends_in_jmp rows k ≡ true → (empty ≡ false) × (is_direct_jmp last ≡ true)
    jmp_last e = some_last _ _ (sym ends_jmp ∙ e)

    pub branch_place : (n : ℕ) → eqb (ending_in rows k) n ≡ true → leb 2 n ≡ true → branch_to rows k ≡ place_of h s (operand_number last 0)
    unfolding block_branch
    branch_place n e l = branch_to_lem h s k below ∙ rw (← ending_in_lem h s k below, eqb-true (ending_in rows k) n e, l)

    -- "jumps, conditional branches and returns stand only last in a block"
    pub mid_plain : Assumed h s → (i : ℕ) → first_in rows k ≤ i → i + 1 < first_in rows k + count_in rows k → Plain (body_in i)
    unfolding turns_last
    mid_plain given i a b =
        let first = first_instruction (marks_of h s) k in
        let n = instructions_in (marks_of h s) k - 1 in
        let z : first + (i - first) ≡ i = omega (arith, first_in_lem h s k below) in
        let straight : ℕ → ℕ → Bool = λ k m. not (turns (body_in (first_instruction (marks_of h s) k + m))) in
        let all = all_at (λ k. all_below (straight k) (instructions_in (marks_of h s) k - 1)) h.blocks k given.turns_last_lem below in
        let here = all_at (straight k) n (i - first) all (omega (arith, first_in_lem h s k below, count_in_lem h s k below)) in
        let t = neither (is_return (body_in i) || is_jump (body_in i)) (is_conditional_branch (body_in i)) (not-true (turns (body_in i)) (rw z at here)) in
        let r = neither (is_return (body_in i)) (is_jump (body_in i)) t.0 in
        (r.0, r.1, t.1)

    left_at : (x : Exit) → exit_of rows (own_at h s) k ≡ x → Left (ends_in_branch rows k) (ends_in_jmp rows k) empty (is_return last) (is_jump last) x
    left_at x e =
        let b = body_in (last_in rows k) in
        rw (e, last_is h s k below, count_in_lem h s k below) at (left_by (ends_in_branch rows k) (ends_in_jmp rows k) (eqb (count_in rows k) 0) (is_return b) (is_jump b))

    pub falls_last : exit_of rows (own_at h s) k ≡ falls → empty ≡ false → Plain last
    falls_last e z =
        let p = left_at falls e in
        let q = p.1 z in
        (q.0, q.1, last_not _ _ (sym ends_branch ∙ p.0) z)

    pub returns_last : exit_of rows (own_at h s) k ≡ returns → (empty ≡ false) × (is_return last ≡ true)
    returns_last e = left_at returns e

    -- of jmps only an indirect one
    pub leaves_last : exit_of rows (own_at h s) k ≡ leaves
        → (empty ≡ false) × (is_return last ≡ false) × (is_jump last ≡ true) × (is_direct_jmp last ≡ false)
    leaves_last e =
        let p = left_at leaves e in
        (p.1, p.2, p.3, last_not _ _ (sym ends_jmp ∙ p.0) p.1)
