-- The instructions of a range's lines are those of its blocks that are not silent, in order; the contexts are one a place.
-- An induction over the tree: each block's by `Unsilenced`, the rest's by induction.
use mathlib.Core.Path.{◌≡◌, refl, sym, ◌∙◌}
use mathlib.Core.Bool.{Bool, true, false}
use mathlib.Core.List.{List, [], ◌∷◌, ◌++◌, append-nil, append_assoc}
use Prim.Native.Nat.{ℕ, zero, suc, ◌+◌, ◌-◌, ◌≤◌}
use native.Mathlib.Numerals.{add-one}
use native.Mathlib.Omega.{arith}
use lib.ListN.{length, replicate, length-append, length-replicate}
use Rattle.cfg.specs.Graph.{first_in, count_in, ending_in, last_in, label_wanted}
use Rattle.cfg.proofs.Within.{closes_some}
use Rattle.structure.specs.Tree.{Tree}
use Rattle.structure.specs.Tree.Tree.{over, plain, region, loop}
use Rattle.structure.specs.Plan.{Line, label_if, labelled, head_labelled, inner_labelled, body_lines, block_lines, plain_lines, flat_lines, test_block, loop_lines, region_lines, tree_lines}
use Rattle.structure.specs.Demand.{Context, Owned, owned, contexts, unsilenced, unsilenced_in, counted}
use Rattle.structure.specs.Demand.Context.{in_range, last_in_body}
use Rattle.structure.proofs.Grown.{Fits}
use Rattle.structure.proofs.Unsilenced.{counted_join, unsilenced_join, last_counted, block_counted, head_counted}

pub contexts_length : (blocks edges : List ℕ) (t : Tree) (i to : ℕ) → Fits blocks edges t i to → length (contexts t i to) ≡ to - i
unfolding contexts
contexts_length blocks edges over i to f = omega arith
contexts_length blocks edges (plain r) i to f = omega (arith, contexts_length blocks edges r (i + 1) to f.1)
contexts_length blocks edges (region t a r) i to f =
    simp length-append (omega (arith, contexts_length blocks edges a (i + 1) t f.4, contexts_length blocks edges r t to f.5))
contexts_length blocks edges (loop j r) i to f =
    simp (length-append, length-replicate) (omega (arith, contexts_length blocks edges r (j + 1) to f.3))

-- a label counts for nothing
label_counted : (b : Bool) (k d : ℕ) (ls : List Line) → counted (label_if b k d ++ ls) ≡ counted ls
unfolding counted
label_counted true k d ls = refl
label_counted false k d ls = refl

module _ (blocks edges shown : List ℕ) (B : ℕ) where
  abbrev left : Context → ℕ → List Owned
  left c k = unsilenced blocks shown c k (first_in blocks k) (count_in blocks k)

  abbrev left_in : ℕ → List Context → List Owned
  left_in k cs = unsilenced_in blocks shown k cs

  -- the contexts' places go on where the first ones end
  left_then : (k m : ℕ) (cs ds : List Context) → k + length cs ≡ m → left_in k (cs ++ ds) ≡ left_in k cs ++ left_in m ds
  left_then k m cs ds e = unsilenced_join blocks shown k cs ds ∙ rw e

  one_block : (c : Context) (k : ℕ) (cs : List Context) → left_in k (c ∷ cs) ≡ left c k ++ left_in (k + 1) cs
  unfolding unsilenced_in
  one_block c k cs = rw (add-one k)

  block_addresses : (b : Bool) (k to d : ℕ) → counted (block_lines blocks shown b k to d) ≡ left (in_range to) k
  unfolding block_lines
  block_addresses b k to d = label_counted b k d _ ∙ block_counted blocks shown k to d

  flats_addresses : (i j k n d : ℕ) → counted (flat_lines blocks shown i j k n d) ≡ left_in k (replicate n (in_range (j + 1)))
  unfolding flat_lines counted unsilenced_in
  flats_addresses i j k zero d = refl
  flats_addresses i j k (suc n) d =
      counted_join (block_lines blocks shown (inner_labelled blocks i k) k (j + 1) d) (flat_lines blocks shown i j (suc k) n d)
      ∙ rw (block_addresses (inner_labelled blocks i k) k (j + 1) d, flats_addresses i j (suc k) n d)

  loop_addresses : (i j d : ℕ) → 1 ≤ count_in blocks j
      → counted (loop_lines blocks edges shown B i j d) ≡ left_in i (replicate (j - i) (in_range (j + 1))) ++ left last_in_body j
  unfolding loop_lines test_block counted
  loop_addresses i j d h =
      label_counted (head_labelled blocks edges B i j) i d _
      ∙ counted_join (flat_lines blocks shown i j i (j - i) (d + 1)) (test_block blocks shown j d)
      ∙ rw (flats_addresses i j i (j - i) (d + 1), label_counted (label_wanted blocks j) j (d + 1), last_counted blocks shown j d h)

  region_addresses : (from i to d : ℕ) (inner : List Line) → ending_in blocks i ≡ 2
      → counted (region_lines blocks edges shown B inner from i to d) ≡ left (in_range to) i ++ counted inner
  unfolding counted
  region_addresses from i to d inner e =
      label_counted (labelled blocks edges B from i to) i d _
      ∙ counted_join (body_lines blocks shown i d) _
      ∙ rw (counted_join inner, append-nil (counted inner), ← head_counted blocks shown i to d e)
      (sym (append_assoc (counted (body_lines blocks shown i d)) (owned i (last_in blocks i) ∷ []) (counted inner)))

  pub tree_addresses : (t : Tree) (from i to d : ℕ) → Fits blocks edges t i to
      → counted (tree_lines blocks edges shown B t from i to d) ≡ unsilenced_in blocks shown i (contexts t i to)
  unfolding tree_lines contexts counted unsilenced_in
  tree_addresses over from i to d f = refl
  tree_addresses (plain r) from i to d f =
      counted_join (plain_lines blocks edges shown B from i to d) (tree_lines blocks edges shown B r from (i + 1) to d)
      ∙ rw (block_addresses (labelled blocks edges B from i to) i to d, tree_addresses r from (i + 1) to d f.1) (sym (one_block (in_range to) i (contexts r (i + 1) to)))
  tree_addresses (region t a r) from i to d f =
      let e : i + 1 + length (contexts a (i + 1) t) ≡ t = omega (arith, contexts_length blocks edges a (i + 1) t f.4) in
      counted_join (region_lines blocks edges shown B (tree_lines blocks edges shown B a (i + 1) (i + 1) t (d + 1)) from i to d) (tree_lines blocks edges shown B r from t to d)
      ∙ rw (region_addresses from i to d (tree_lines blocks edges shown B a (i + 1) (i + 1) t (d + 1)) f.2, tree_addresses a (i + 1) (i + 1) t (d + 1) f.4, tree_addresses r from t to d f.5)
      (append_assoc (left (in_range to) i) _ _
      ∙ sym (one_block (in_range to) i (contexts a (i + 1) t ++ contexts r t to) ∙ rw (left_then (i + 1) t (contexts a (i + 1) t) (contexts r t to) e)))
  tree_addresses (loop j r) from i to d f =
      let e : i + length (replicate (j - i) (in_range (j + 1))) ≡ j = rw length-replicate (omega arith) in
      counted_join (loop_lines blocks edges shown B i j d) (tree_lines blocks edges shown B r from (j + 1) to d)
      ∙ rw (loop_addresses i j d (closes_some blocks edges i j f.2), tree_addresses r from (j + 1) to d f.3)
      (append_assoc (left_in i (replicate (j - i) (in_range (j + 1)))) _ _
      ∙ sym (left_then i j (replicate (j - i) (in_range (j + 1))) (last_in_body ∷ contexts r (j + 1) to) e ∙ rw (one_block last_in_body j (contexts r (j + 1) to))))
