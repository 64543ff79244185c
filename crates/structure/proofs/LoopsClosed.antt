-- Each while-line of a plan is that of a block which closes a loop to the block of the latest do-line (#108, #109).
-- An induction over the tree: a loop's lines hold one do-line and one while-line, and all others are passed.
use mathlib.Core.Path.{◌≡◌, refl}
use mathlib.Core.Bool.{Bool, true}
use mathlib.Core.List.{List, [], ◌∷◌, ◌++◌, append_assoc, append-nil}
use Prim.Native.Nat.{ℕ, ◌+◌, ◌-◌, ◌≤◌, ◌<◌}
use native.Mathlib.Nat.{le_refl}
use native.Mathlib.Omega.{arith}
use Rattle.cfg.specs.Graph.{closes_loop, last_in, label_wanted}
use Rattle.structure.specs.Tree.{Tree, tree_of}
use Rattle.structure.specs.Tree.Tree.{over, plain, region, loop}
use Rattle.structure.specs.Plan.{What, Line, line, label_if, labelled, head_labelled, body_lines, plain_lines, loop_lines, test_block, region_lines, tree_lines, range_lines, plan_of}
use Rattle.structure.specs.Plan.What.{label_line, do_line, open_line, if_goto, while_line, close_line, goto_line, tail_call, insn_line}
use Rattle.structure.proofs.Grown.{Fits, tree_fits}
use Rattle.structure.proofs.Plain.{Braceless, Stands, labels_all, body_all, test_all, block_all, flats_all}

-- a line of place k and instruction `at`, read with the place i of the latest do-line; then the rest of the lines
abbrev pub loop_then : (ℕ → ℕ → ℕ → Type 0) → What → ℕ → ℕ → ℕ → (ℕ → Type 0) → Type 0
loop_then P do_line i k at rest = rest k
loop_then P while_line i k at rest = P i k at × rest i
loop_then P label_line i k at rest = rest i
loop_then P open_line i k at rest = rest i
loop_then P if_goto i k at rest = rest i
loop_then P close_line i k at rest = rest i
loop_then P goto_line i k at rest = rest i
loop_then P tail_call i k at rest = rest i
loop_then P insn_line i k at rest = rest i

-- P holds of each while-line: of the latest do-line's place, its own place and its instruction
abbrev pub LoopsBy : (ℕ → ℕ → ℕ → Type 0) → ℕ → List Line → Type 0
LoopsBy P i [] = Unit {0}
LoopsBy P i (l ∷ ls) = loop_then P l.what i l.place l.at (λ i'. LoopsBy P i' ls)

-- block j, before `to`, closes a loop to block i before it, by its last instruction
abbrev pub ClosesBy : List ℕ → List ℕ → ℕ → ℕ → ℕ → ℕ → Type 0
ClosesBy blocks edges to i j at = (closes_loop blocks edges i j ≡ true) × (i < j) × (j < to) × (at ≡ last_in blocks j)

module _ (blocks edges shown : List ℕ) (B m : ℕ) where
  abbrev By : ℕ → List Line → Type 0
  By i ls = LoopsBy (ClosesBy blocks edges m) i ls

  -- lines without a do-line, which the latest one's place passes
  abbrev Passed : List Line → Type 0
  Passed xs = (i : ℕ) (ys : List Line) → By i ys → By i (xs ++ ys)

  passed_none : Passed []
  passed_none i ys p = p

  passed_join : (xs ys : List Line) → Passed xs → Passed ys → Passed (xs ++ ys)
  passed_join xs ys p q i zs r = rw append_assoc (p i (ys ++ zs) (q i zs r))

  passed_one : (d k : ℕ) (w : What) (i e : ℕ) → Braceless w → Stands blocks w k i → e ≤ d → Passed (line w k i e ∷ [])
  passed_one d k label_line i e l q h at ys p = p
  passed_one d k if_goto i e l q h at ys p = p
  passed_one d k goto_line i e l q h at ys p = p
  passed_one d k tail_call i e l q h at ys p = p
  passed_one d k insn_line i e l q h at ys p = p
  passed_one d k do_line i e l q h at ys p = absurd l
  passed_one d k open_line i e l q h at ys p = absurd l
  passed_one d k while_line i e l q h at ys p = absurd l
  passed_one d k close_line i e l q h at ys p = absurd l

  abbrev passed_labels : (d : ℕ) (b : Bool) (k : ℕ) → Passed (label_if b k d)
  passed_labels d b k = labels_all blocks shown Passed passed_none passed_join d k (passed_one d k) b

  -- whatever holds behind any do-line, holds with these lines in front
  abbrev Kept : List Line → Type 0
  Kept xs = (ys : List Line) → ((i : ℕ) → By i ys) → (i : ℕ) → By i (xs ++ ys)

  kept_join : (xs ys : List Line) → Kept xs → Kept ys → Kept (xs ++ ys)
  kept_join xs ys p q zs r i = rw append_assoc (p (ys ++ zs) (q zs r) i)

  kept : (xs : List Line) → Passed xs → Kept xs
  kept xs p ys r i = p i ys (r i)

  loop_kept : (i j d : ℕ) → i < j → j < m → closes_loop blocks edges i j ≡ true → Kept (loop_lines blocks edges shown B i j d)
  unfolding loop_lines test_block
  loop_kept i j d p q c =
      kept_join (label_if (head_labelled blocks edges B i j) i d) _ (kept (label_if (head_labelled blocks edges B i j) i d) (passed_labels d (head_labelled blocks edges B i j) i))
      (λ ys r k.
      simp append_assoc
      (flats_all blocks shown Passed passed_none passed_join (d + 1) i j i (j - i) (λ n a b. passed_one (d + 1) n) i _
      (passed_labels (d + 1) (label_wanted blocks j) j i _
      (test_all blocks shown Passed passed_none passed_join (d + 1) j (passed_one (d + 1) j) i (line while_line j (last_in blocks j) d ∷ ys) ((c, p, q, refl), r i)))))

  region_kept : (from i to d : ℕ) (inner : List Line) → Kept inner → Kept (region_lines blocks edges shown B inner from i to d)
  region_kept from i to d inner p =
      let label = label_if (labelled blocks edges B from i to) i d in
      kept_join label _ (kept label (passed_labels d (labelled blocks edges B from i to) i))
      (kept_join (body_lines blocks shown i d) _ (kept (body_lines blocks shown i d) (body_all blocks shown Passed passed_none passed_join d i (passed_one d i)))
      (λ ys r k. simp append_assoc (p (line close_line i 0 d ∷ ys) r k)))

  tree_kept : (t : Tree) (from i to d : ℕ) → Fits blocks edges t i to → to ≤ m → Kept (tree_lines blocks edges shown B t from i to d)
  unfolding tree_lines
  tree_kept over from i to d f le = kept [] passed_none
  tree_kept (plain r) from i to d f le =
      let lines = plain_lines blocks edges shown B from i to d in
      kept_join lines _ (kept lines (block_all blocks shown Passed passed_none passed_join d i (passed_one d i) (labelled blocks edges B from i to) to))
      (tree_kept r from (i + 1) to d f.1 le)
  tree_kept (region t a r) from i to d f le =
      let inner = tree_lines blocks edges shown B a (i + 1) (i + 1) t (d + 1) in
      kept_join (region_lines blocks edges shown B inner from i to d) _
      (region_kept from i to d inner (tree_kept a (i + 1) (i + 1) t (d + 1) f.4 (omega arith)))
      (tree_kept r from t to d f.5 le)
  tree_kept (loop j r) from i to d f le =
      kept_join (loop_lines blocks edges shown B i j d) _ (loop_kept i j d f.0 (omega arith) f.2) (tree_kept r from (j + 1) to d f.3 le)

-- read with any place for the latest do-line: from one at `to` or behind, no while-line stands before a do-line
pub loops_closed : (blocks edges shown starts targets : List ℕ) (B from to d i : ℕ)
    → LoopsBy (ClosesBy blocks edges to) i (plan_of blocks edges shown starts targets B from to d)
unfolding range_lines
loops_closed blocks edges shown starts targets B from to d i =
    rw (← append-nil (plan_of blocks edges shown starts targets B from to d))
    (tree_kept blocks edges shown B to (tree_of blocks edges starts targets B from to) from from to d
    (tree_fits blocks edges starts targets B from to) (le_refl to) [] (λ k. tt) i)
