-- The search for the brace that closes an if passes over all lines of the region, so it ends behind the region's own brace.
-- An induction over the tree: lines without braces by `Plain`, do-lines and while-lines count for nothing, an inner if's two braces cancel.
use mathlib.Core.Path.{◌≡◌, refl, ◌∙◌}
use mathlib.Core.Bool.{Bool}
use mathlib.Core.List.{List, [], ◌∷◌, ◌++◌, map, append_assoc}
use Prim.Native.Nat.{ℕ, suc, ◌+◌, ◌-◌, ◌≤◌}
use Rattle.cfg.specs.Graph.{first_in, count_in, last_in, label_wanted}
use Rattle.structure.specs.Tree.{Tree}
use Rattle.structure.specs.Tree.Tree.{over, plain, region, loop}
use Rattle.structure.specs.Plan.{What, Line, line, label_if, labelled, head_labelled, shown_lines, body_lines, plain_lines, flat_lines, test_block, loop_lines, region_lines, tree_lines}
use Rattle.structure.specs.Plan.What.{label_line, do_line, open_line, if_goto, while_line, close_line, goto_line, tail_call, insn_line}
use Rattle.structure.proofs.Plain.{Braceless, Stands, labels_all, body_all, test_all, block_all, flats_all}
use Rattle.route.specs.Following.{Stated, skipping, skip}
use Rattle.route.proofs.Stating.{Own, own_statement, stated_as}
use Rattle.route.proofs.Stating.Own.{own_on, own_return, own_leave}

module _ (name target : ℕ → List ℕ) (own : ℕ → Own) (line-address : Line → ℕ) where
  -- lines as a route reads them
  abbrev pub told : List Line → List Stated
  told ls = map (stated_as name target own line-address) ls

  -- these lines are passed
  abbrev pub Passed : List Line → Type 0
  Passed xs = (ys : List Line) (e : ℕ) → skip (told (xs ++ ys)) e ≡ skip (told ys) e

  passed_none : Passed []
  passed_none ys e = refl

  passed_join : (xs ys : List Line) → Passed xs → Passed ys → Passed (xs ++ ys)
  passed_join xs ys p q zs e = rw append_assoc (p (ys ++ zs) e ∙ q zs e)

  own_passed : (o : Own) (e : ℕ) (ls : List Stated) (on : ℕ → List Stated) → skipping (own_statement o) e ls on ≡ on e
  own_passed own_on e ls on = refl
  own_passed own_return e ls on = refl
  own_passed own_leave e ls on = refl

  passed_one : (blocks : List ℕ) (d k : ℕ) (w : What) (i e : ℕ) → Braceless w → Stands blocks w k i → e ≤ d → Passed (line w k i e ∷ [])
  unfolding skip
  passed_one blocks d k label_line i e l q h ys f = refl
  passed_one blocks d k if_goto i e l q h ys f = refl
  passed_one blocks d k goto_line i e l q h ys f = refl
  passed_one blocks d k tail_call i e l q h ys f = refl
  passed_one blocks d k insn_line i e l q h ys f = own_passed (own i) f (told ys) (skip (told ys))
  passed_one blocks d k do_line i e l q h ys f = absurd l
  passed_one blocks d k open_line i e l q h ys f = absurd l
  passed_one blocks d k while_line i e l q h ys f = absurd l
  passed_one blocks d k close_line i e l q h ys f = absurd l

  module _ (blocks edges shown : List ℕ) (B : ℕ) where
    passed_label : (b : Bool) (k d : ℕ) → Passed (label_if b k d)
    passed_label b k d = labels_all blocks shown Passed passed_none passed_join d k (passed_one blocks d k) b

    passed_test : (j d : ℕ) → Passed (test_block blocks shown j d)
    unfolding test_block skip
    passed_test j d =
        let body = shown_lines shown j (first_in blocks j) (count_in blocks j - 1) (d + 1) in
        let test = line while_line j (last_in blocks j) d ∷ [] in
        passed_join (label_if (label_wanted blocks j) j (d + 1)) (body ++ test) (passed_label (label_wanted blocks j) j (d + 1))
        (passed_join body test (test_all blocks shown Passed passed_none passed_join (d + 1) j (passed_one blocks (d + 1) j)) (λ ys e. refl))

    passed_loop : (i j d : ℕ) → Passed (loop_lines blocks edges shown B i j d)
    unfolding loop_lines skip
    passed_loop i j d =
        let lab = head_labelled blocks edges B i j in
        let flats = flat_lines blocks shown i j i (j - i) (d + 1) in
        passed_join (label_if lab i d) (line do_line i 0 d ∷ (flats ++ test_block blocks shown j d)) (passed_label lab i d)
        (passed_join flats (test_block blocks shown j d)
        (flats_all blocks shown Passed passed_none passed_join (d + 1) i j i (j - i) (λ k a b. passed_one blocks (d + 1) k)) (passed_test j d))

    passed_region : (from i to d : ℕ) (inner : List Line) → Passed inner → Passed (region_lines blocks edges shown B inner from i to d)
    unfolding skip
    passed_region from i to d inner p =
        let lab = labelled blocks edges B from i to in
        let opened = line open_line i (last_in blocks i) d ∷ (inner ++ (line close_line i 0 d ∷ [])) in
        passed_join (label_if lab i d) (body_lines blocks shown i d ++ opened) (passed_label lab i d)
        (passed_join (body_lines blocks shown i d) opened (body_all blocks shown Passed passed_none passed_join d i (passed_one blocks d i))
        (λ ys e. rw (append_assoc inner (line close_line i 0 d ∷ []) ys) (p (line close_line i 0 d ∷ ys) (suc e))))

    pub passes : (t : Tree) (from i to d : ℕ) → Passed (tree_lines blocks edges shown B t from i to d)
    unfolding tree_lines
    passes over from i to d = passed_none
    passes (plain r) from i to d =
        passed_join (plain_lines blocks edges shown B from i to d) _
        (block_all blocks shown Passed passed_none passed_join d i (passed_one blocks d i) (labelled blocks edges B from i to) to) (passes r from (i + 1) to d)
    passes (region t a r) from i to d =
        let inner = tree_lines blocks edges shown B a (i + 1) (i + 1) t (d + 1) in
        passed_join (region_lines blocks edges shown B inner from i to d) _ (passed_region from i to d inner (passes a (i + 1) (i + 1) t (d + 1))) (passes r from t to d)
    passes (loop j r) from i to d = passed_join (loop_lines blocks edges shown B i j d) _ (passed_loop i j d) (passes r from (j + 1) to d)

  pub behind_brace : (i d : ℕ) (inner ys : List Line) → Passed inner → skip (told (inner ++ (line close_line i 0 d ∷ ys))) 0 ≡ told ys
  unfolding skip
  behind_brace i d inner ys p = p (line close_line i 0 d ∷ ys) 0
