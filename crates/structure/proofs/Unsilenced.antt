-- The instructions of a block's lines are those that are not silent there: of a block in a range, of the last in a do-body.
-- A block's lines are its shown instructions and at most one line for the last; so is the silent list.
use mathlib.Core.Path.{◌≡◌, refl, sym, ap, ◌∙◌}
use mathlib.Core.Bool.{Bool, true, false, not}
use mathlib.Core.List.{List, [], ◌∷◌, ◌++◌, append_assoc}
use Prim.Native.Nat.{ℕ, zero, suc, ◌+◌, ◌-◌, ◌≤◌}
use native.Mathlib.Nat.{add-zero}
use native.Mathlib.Omega.{arith}
use lib.Dec.{eqb}
use lib.ListN.{length}
use borrow.Author.Tests.{eqb-true, eq-eqb, ne_eqb}
use Rattle.lists.specs.Choice.{pick}
use Rattle.cfg.specs.Graph.{first_in, count_in, ending_in, ends_in_branch, ends_in_jmp, branch_to, is_block, last_in, is_shown}
use Rattle.cfg.proofs.Within.{ends_some}
use Rattle.structure.specs.Plan.{What, Line, line, shown_lines, body_count, body_lines, goes_next, jump_lines, closing_lines}
use Rattle.structure.specs.Plan.What.{label_line, do_line, open_line, if_goto, while_line, close_line, goto_line, tail_call, insn_line}
use Rattle.structure.specs.Demand.{Context, Owned, owned, last_silent, silent, unsilenced, unsilenced_in, count, counted}
use Rattle.structure.specs.Demand.Context.{in_range, last_in_body}

-- ---- the instructions of two runs of lines

count_join : (w : What) (o : Owned) (r s : List Owned) → count w o (r ++ s) ≡ count w o r ++ s
count_join label_line o r s = refl
count_join do_line o r s = refl
count_join open_line o r s = refl
count_join if_goto o r s = refl
count_join while_line o r s = refl
count_join close_line o r s = refl
count_join goto_line o r s = refl
count_join tail_call o r s = refl
count_join insn_line o r s = refl

pub counted_join : (xs ys : List Line) → counted (xs ++ ys) ≡ counted xs ++ counted ys
unfolding counted
counted_join [] ys = refl
counted_join (x ∷ xs) ys = rw (counted_join xs ys) (count_join x.what (owned x.place x.at) (counted xs) (counted ys))

module _ (blocks shown : List ℕ) where
  pub unsilenced_join : (k : ℕ) (cs ds : List Context)
      → unsilenced_in blocks shown k (cs ++ ds) ≡ unsilenced_in blocks shown k cs ++ unsilenced_in blocks shown (k + length cs) ds
  unfolding unsilenced_in
  unsilenced_join k [] ds = rw add-zero
  unsilenced_join k (c ∷ cs) ds =
      let e : suc k + length cs ≡ k + suc (length cs) = omega arith in
      rw (unsilenced_join (suc k) cs ds, e)
      (sym (append_assoc (unsilenced blocks shown c k (first_in blocks k) (count_in blocks k)) (unsilenced_in blocks shown (suc k) cs) (unsilenced_in blocks shown (k + suc (length cs)) ds)))

  abbrev lines : ℕ → ℕ → ℕ → ℕ → List Line
  lines k i n d = shown_lines shown k i n d

  abbrev left : Context → ℕ → ℕ → ℕ → List Owned
  left c k i n = unsilenced blocks shown c k i n

  -- block k's last instruction, which it owns
  abbrev pub last_owned : ℕ → Owned
  last_owned k = owned k (last_in blocks k)

  -- where the silent mark alone decides of instruction i
  pub not_last : (c : Context) (k i : ℕ) → (i ≡ last_in blocks k → ⊥) → silent blocks shown c k i ≡ not (is_shown shown i)
  unfolding silent
  not_last c k i h = rw (ne_eqb i (last_in blocks k) h)

  pub is_last : (c : Context) (k i : ℕ) → i ≡ last_in blocks k → silent blocks shown c k i ≡ last_silent blocks shown c k
  unfolding silent
  is_last c k i h = rw (eq-eqb i (last_in blocks k) h)

  shown_more : (b : Bool) (k i d : ℕ) (ls : List Line) (r : List Owned)
      → pick (not b) (counted ls ++ r) (owned k i ∷ (counted ls ++ r)) ≡ counted (pick b (line insn_line k i d ∷ ls) ls) ++ r
  unfolding counted
  shown_more true k i d ls r = refl
  shown_more false k i d ls r = refl

  -- where the silent mark decides of every instruction
  left_all : (c : Context) (k i n d : ℕ) → ((j : ℕ) → silent blocks shown c k j ≡ not (is_shown shown j)) → left c k i n ≡ counted (lines k i n d) ++ []
  unfolding unsilenced shown_lines counted
  left_all c k i zero d h = refl
  left_all c k i (suc n) d h = rw (h i, left_all c k (suc i) n d h) (shown_more (is_shown shown i) k i d (lines k (suc i) n d) [])

  -- up to the last
  left_until : (c : Context) (k n i d : ℕ) (b : Bool) → i + n ≡ last_in blocks k → last_silent blocks shown c k ≡ b
      → left c k i (suc n) ≡ counted (lines k i n d) ++ pick b [] (last_owned k ∷ [])
  unfolding unsilenced shown_lines counted
  left_until c k zero i d b h e =
      let z : i ≡ last_in blocks k = omega arith in
      rw (is_last c k i z, z, e)
  left_until c k (suc n) i d b h e =
      rw (not_last c k i (omega arith), left_until c k n (suc i) d b (omega arith) e)
      (shown_more (is_shown shown i) k i d (lines k (suc i) n d) (pick b [] (last_owned k ∷ [])))

  left_last : (c : Context) (k d : ℕ) (b : Bool) → 1 ≤ count_in blocks k → last_silent blocks shown c k ≡ b
      → left c k (first_in blocks k) (count_in blocks k) ≡ counted (lines k (first_in blocks k) (count_in blocks k - 1) d) ++ pick b [] (last_owned k ∷ [])
  left_last c k d b h e =
      let s : count_in blocks k ≡ suc (count_in blocks k - 1) = omega arith in
      ap (left c k (first_in blocks k)) s ∙ left_until c k (count_in blocks k - 1) (first_in blocks k) d b (omega arith) e

  all_alike : (c : Context) (k : ℕ) → last_silent blocks shown c k ≡ not (is_shown shown (last_in blocks k))
      → (j : ℕ) → silent blocks shown c k j ≡ not (is_shown shown j)
  unfolding silent
  all_alike c k h j = by (eqb j (last_in blocks k)) refl
    where
      by : (b : Bool) → eqb j (last_in blocks k) ≡ b → pick b (last_silent blocks shown c k) (not (is_shown shown j)) ≡ not (is_shown shown j)
      by true e = h ∙ ap (λ (i : ℕ). not (is_shown shown i)) (sym (eqb-true j (last_in blocks k) e))
      by false e = refl

  -- the lines of a block's shown instructions, and one for the last
  one_more : (k i n d : ℕ) (ls : List Line) (r : List Owned) → counted ls ≡ r → counted (lines k i n d ++ ls) ≡ counted (lines k i n d) ++ r
  one_more k i n d ls r e = rw (counted_join (lines k i n d) ls, e)

  -- the last block of a do-body
  pub last_counted : (k d : ℕ) → 1 ≤ count_in blocks k
      → counted (lines k (first_in blocks k) (count_in blocks k - 1) (d + 1) ++ (line while_line k (last_in blocks k) d ∷ [])) ≡ left last_in_body k (first_in blocks k) (count_in blocks k)
  unfolding counted
  last_counted k d h = one_more k _ _ _ _ _ refl ∙ sym (left_last last_in_body k (d + 1) false h refl)

  -- with a closing branch or jmp, of which the context says whether it is silent
  closing_counted : (c : Context) (k d : ℕ) (ls : List Line) (b : Bool) → 1 ≤ count_in blocks k → last_silent blocks shown c k ≡ b
      → counted ls ≡ pick b [] (last_owned k ∷ [])
      → counted (lines k (first_in blocks k) (count_in blocks k - 1) d ++ ls) ≡ left c k (first_in blocks k) (count_in blocks k)
  closing_counted c k d ls b h f g = one_more k _ _ _ _ _ g ∙ sym (left_last c k d b h f)

  -- with neither
  other_counted : (c : Context) (k d : ℕ) → last_silent blocks shown c k ≡ not (is_shown shown (last_in blocks k))
      → counted (lines k (first_in blocks k) (count_in blocks k) d ++ []) ≡ left c k (first_in blocks k) (count_in blocks k)
  unfolding counted
  other_counted c k d f = one_more k _ _ _ _ _ refl ∙ sym (left_all c k (first_in blocks k) (count_in blocks k) d (all_alike c k f))

  jump_counted : (k d : ℕ) (b w : Bool)
      → counted (pick b [] (line (pick w goto_line tail_call) k (last_in blocks k) d ∷ [])) ≡ pick b [] (last_owned k ∷ [])
  unfolding counted
  jump_counted k d true w = refl
  jump_counted k d false true = refl
  jump_counted k d false false = refl

  pub block_counted : (k to d : ℕ)
      → counted (body_lines blocks shown k d ++ closing_lines blocks k to d) ≡ left (in_range to) k (first_in blocks k) (count_in blocks k)
  unfolding closing_lines body_count counted
  block_counted k to d = by (ends_in_branch blocks k) (ends_in_jmp blocks k) refl refl
    where
      by : (b₂ b₃ : Bool) → ends_in_branch blocks k ≡ b₂ → ends_in_jmp blocks k ≡ b₃
          → counted (body_lines blocks shown k d ++ closing_lines blocks k to d) ≡ left (in_range to) k (first_in blocks k) (count_in blocks k)
      by true b₃ p q = rw p (closing_counted (in_range to) k d (line if_goto k (last_in blocks k) d ∷ []) false (ends_some blocks k 1 p) (rw p) refl)
      by false true p q =
          let skips = goes_next blocks k to in
          rw (p, q) (closing_counted (in_range to) k d (jump_lines blocks k to d) skips (ends_some blocks k 2 q) (rw (p, q)) (jump_counted k d skips (is_block (branch_to blocks k))))
      by false false p q = rw (p, q) (other_counted (in_range to) k d (rw (p, q)))

  -- the block of an if-region
  pub head_counted : (k to d : ℕ) → ending_in blocks k ≡ 2
      → counted (body_lines blocks shown k d) ++ (last_owned k ∷ []) ≡ left (in_range to) k (first_in blocks k) (count_in blocks k)
  unfolding body_count
  head_counted k to d e =
      let p : ends_in_branch blocks k ≡ true = eq-eqb (ending_in blocks k) 2 e in
      rw p (sym (left_last (in_range to) k d false (ends_some blocks k 1 p) (rw p)))
