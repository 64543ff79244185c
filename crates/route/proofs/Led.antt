-- Where the edges of an accepted record lead: the place after a block, or the place of its branch's or jmp's target.
-- Edges of a kind, at least one, that all lead to an address lead to its place; and starts that differ give each block its own place.
use Prim.Native.Nat.{ℕ, zero, suc, ◌+◌, ◌-◌, ◌≤◌, ◌<◌, zero-le}
use mathlib.Core.Bool.{Bool, true, false, not, ◌&&◌, ◌||◌, true≢false, false≢true}
use mathlib.Core.List.{List}
use mathlib.Core.Path.{◌≡◌, refl, sym, ap, ◌∙◌}
use native.Mathlib.Omega.{arith}
use borrow.Author.Tests.{eqb-true, eqb-false, ltb-true, not-true}
use lib.Dec.{eqb, leb, ltb}
use Rattle.lists.specs.Choice.{pick, sum_below}
use Rattle.lists.specs.Every.{both_yes}
use Rattle.lists.specs.Below.{all_at}
use Rattle.record.specs.declared.header.Header.{Header}
use Rattle.std.specs.Prelude.{Option}
use Rattle.record.specs.Header.{header_of}
use Rattle.record.specs.Layout.{starts_of, marks_of, targets_of, edge_kinds_of, bodies_of}
use Rattle.record.specs.Blocks.{start_at, edges_in, first_edge, target_at, edge_kind_at, differ, start_is_new, starts_differ}
use Rattle.record.specs.Body.{operand_number}
use Rattle.record.specs.Branches.{true_count, true_lead, branch_agrees, branch_ok, branches_ok}
use Rattle.record.specs.Asked.{branches_asked, first_no}
use Rattle.record.proofs.AskedLaws.{yes_starts, yes_branches}
use Rattle.record.proofs.SearchLaws.{find_first, find_kept}
use Rattle.cfg.specs.Graph.{ends_in_branch, ends_in_jmp, branch_to, is_block}
use Rattle.flow.specs.Silent.{is_direct_jmp}
use Rattle.flow.specs.Rows.{place_found, place_of, last_body, block_ending, block_branch, block_rows}
use Rattle.flow.proofs.Terms.{branch_to_lem}
use Rattle.route.specs.Processor.{is_return, is_jump, uncond, true_edge, onward, edge_from, edge_of}
use Rattle.route.specs.Assumed.{Assumed, is_empty, count_of, lead_to, one_to, jumps_led, others_led}
use Rattle.route.proofs.Stating.{own_at}
use Rattle.route.proofs.Rules.{exit_of}
use Rattle.route.proofs.Rules.Exit.{falls}
use Rattle.route.proofs.Endings.{Plain, branch_plain, last_within, branch_last, jmp_last, branch_place, falls_last}

-- one of those counted
some_of : (p : ℕ → Bool) (n : ℕ) → 1 ≤ sum_below (λ m. pick (p m) 1 0) n → (m : ℕ) × (m < n) × (p m ≡ true)
some_of p zero l = absurd (omega arith)
some_of p (suc n) l = go (p n) refl (some_of p n) l
  where
    go : (b : Bool) → p n ≡ b → (1 ≤ sum_below (λ m. pick (p m) 1 0) n → (m : ℕ) × (m < n) × (p m ≡ true))
        → 1 ≤ sum_below (λ m. pick (p m) 1 0) n + pick b 1 0 → (m : ℕ) × (m < suc n) × (p m ≡ true)
    go true q ih l = (n, omega arith, q)
    go false q ih l = let r = ih (omega arith) in (r.0, omega (arith, r.1), r.2)

module _ (h : Header) (s : List ℕ) where
  abbrev is_kind : (ℕ → Bool) → ℕ → Bool
  is_kind kind e = kind (edge_kind_at (edge_kinds_of h s) e)

  -- of n edges from e on number m is of a kind, and those of the kind lead to an address
  edge_from_lem : (kind : ℕ → Bool) (va e n m : ℕ) → e ≤ m → m < e + n → is_kind kind m ≡ true
      → ((i : ℕ) → e ≤ i → i < e + n → is_kind kind i ≡ true → target_at (targets_of h s) i ≡ va) → edge_from h s kind e n ≡ place_of h s va
  unfolding edge_from
  edge_from_lem kind va e zero m a b q all = absurd (omega arith)
  edge_from_lem kind va e (suc n) m a b q all =
      go (is_kind kind e) refl (λ l. edge_from_lem kind va (suc e) n m l (omega arith) q (λ i c d. all i (omega arith) (omega arith)))
    where
      go : (t : Bool) → is_kind kind e ≡ t → (e < m → edge_from h s kind (suc e) n ≡ place_of h s va)
          → pick t (place_of h s (target_at (targets_of h s) e)) (edge_from h s kind (suc e) n) ≡ place_of h s va
      go true t on = ap (place_of h s) (all e (omega arith) (omega arith) t)
      go false t on = let other : (e ≡ m) → ⊥ = λ z. true≢false (sym q ∙ ap (is_kind kind) (sym z) ∙ t) in on (omega arith)

  pub edges_led : (kind : ℕ → Bool) (k va : ℕ) → 1 ≤ count_of h s kind k → lead_to h s kind k va ≡ true → edge_of h s kind k ≡ place_of h s va
  unfolding count_of lead_to edge_of
  edges_led kind k va l all = edge_from_lem kind va e n (e + m.0) (omega arith) (omega (arith, m.1)) m.2 leads
    where
      e : ℕ
      e = first_edge (marks_of h s) k

      n : ℕ
      n = edges_in (marks_of h s) k

      m : (m : ℕ) × (m < n) × (is_kind kind (e + m) ≡ true)
      m = some_of (λ m. is_kind kind (e + m)) n l

      leads : (i : ℕ) → e ≤ i → i < e + n → is_kind kind i ≡ true → target_at (targets_of h s) i ≡ va
      leads i a b t =
          let z : e + (i - e) ≡ i = omega arith in
          eqb-true (target_at (targets_of h s) i) va
          (rw (z, t) at (all_at (λ m. not (is_kind kind (e + m)) || eqb (target_at (targets_of h s) (e + m)) va) n (i - e) all (omega arith)))

  one_led : (kind : ℕ → Bool) (k va : ℕ) → one_to h s kind k va ≡ true → edge_of h s kind k ≡ place_of h s va
  one_led kind k va e =
      let p = both_yes (eqb (count_of h s kind k) 1) (lead_to h s kind k va) e in
      edges_led kind k va (omega (arith, eqb-true (count_of h s kind k) 1 p.0)) p.1

  -- a place that a search finds is one of the record's
  pub place_within : (va : ℕ) → is_block (place_of h s va) ≡ true → place_of h s va < h.blocks
  unfolding place_of
  place_within va =
      find_kept (starts_of h s) va (λ (f : Option ℕ). is_block (place_found f) ≡ true → place_found f < h.blocks) 0 h.blocks h.blocks (omega arith)
      (λ e. absurd (false≢true e)) (λ j l e. l)

module _ (s : List ℕ) (asked : first_no s 0 (header_of s).blocks ≡ 0) where
  abbrev h : Header
  h = header_of s

  abbrev rows : List ℕ
  rows = block_rows h s

  abbrev last : ℕ → List ℕ
  last k = last_body h s k

  pub place_of_start : (k : ℕ) → k < h.blocks → place_of h s (start_at (starts_of h s) k) ≡ k
  unfolding place_of starts_differ start_is_new differ
  place_of_start k below =
      let new = all_at (start_is_new (starts_of h s)) h.blocks k (yes_starts s 0 h.blocks asked) below in
      ap place_found
      (find_first (starts_of h s) (start_at (starts_of h s) k) 0 h.blocks k zero-le (omega arith)
      (λ j l. eqb-false (start_at (starts_of h s) j) (start_at (starts_of h s) k) (not-true _ (all_at (differ (starts_of h s) k) k j new l)))
      refl)

  module _ (k : ℕ) (below : k < h.blocks) where
    -- "exactly one True edge, to that branch's target"
    pub true_led : ends_in_branch rows k ≡ true → edge_of h s true_edge k ≡ branch_to rows k
    unfolding branches_asked branches_ok branch_ok branch_agrees true_count true_lead count_of lead_to
    true_led e =
        let p = branch_last s asked k below e in
        let q = all_at (branch_ok (targets_of h s) (edge_kinds_of h s) (marks_of h s) (bodies_of h s)) h.blocks k (yes_branches s 0 h.blocks asked) below in
        one_led h s true_edge k (operand_number (last k) 0) (rw (p.0, p.1) at q) ∙ sym (branch_place s asked k below 2 e refl)

    -- a place that a branch's or jmp's target has
    pub target_within : is_block (branch_to rows k) ≡ true → branch_to rows k < h.blocks
    unfolding block_branch
    target_within = rw (branch_to_lem h s k below) (go (leb 2 (block_ending h s k)))
      where
        go : (b : Bool) → is_block (pick b (place_of h s (operand_number (last k) 0)) 65535) ≡ true → pick b (place_of h s (operand_number (last k) 0)) 65535 < h.blocks
        go true e = place_within h s (operand_number (last k) 0) e
        go false e = absurd (false≢true e)

    module _ (given : Assumed h s) where
      -- a block that ends in no jmp or ret
      onward_by : (not (is_empty h s k) && (is_jump (last k) || is_return (last k))) ≡ false → (edge_of h s onward k ≡ k + 1) × (k + 1 < h.blocks)
      unfolding others_led
      onward_by e =
          let next : ℕ → Bool = λ k. ltb (k + 1) h.blocks && one_to h s onward k (start_at (starts_of h s) (k + 1)) in
          let q = all_at (λ k. (not (is_empty h s k) && (is_jump (last k) || is_return (last k))) || next k) h.blocks k given.others_led_lem below in
          let p = both_yes (ltb (k + 1) h.blocks) (one_to h s onward k (start_at (starts_of h s) (k + 1))) (rw e at q) in
          let l = ltb-true (k + 1) h.blocks p.0 in
          (one_led h s onward k (start_at (starts_of h s) (k + 1)) p.1 ∙ place_of_start (k + 1) l, l)

      pub onward_led : exit_of rows (own_at h s) k ≡ falls → (edge_of h s onward k ≡ k + 1) × (k + 1 < h.blocks)
      onward_led e = onward_by (go (is_empty h s k) (falls_last s asked k below e))
        where
          go : (z : Bool) → (z ≡ false → Plain (last k)) → (not z && (is_jump (last k) || is_return (last k))) ≡ false
          go true p = refl
          go false p = let q = p refl in rw (q.0, q.1)

      pub branch_onward_led : ends_in_branch rows k ≡ true → (edge_of h s onward k ≡ k + 1) × (k + 1 < h.blocks)
      branch_onward_led e =
          let p = branch_last s asked k below e in
          let q = branch_plain s asked _ (last_within s asked k below p.0) p.1 in
          onward_by (rw (p.0, q.0, q.1))

      pub jump_led_lem : ends_in_jmp rows k ≡ true → is_block (branch_to rows k) ≡ true → edge_of h s uncond k ≡ branch_to rows k
      unfolding jumps_led
      jump_led_lem e b =
          let p = jmp_last s asked k below e in
          let to : ℕ → ℕ = λ k. operand_number (last k) 0 in
          let place = branch_place s asked k below 3 e refl in
          let inside : is_block (place_of h s (to k)) ≡ true = ap is_block (sym place) ∙ b in
          let q =
          all_at (λ k. is_empty h s k || not (is_direct_jmp (last k) && is_block (place_of h s (to k))) || one_to h s uncond k (to k)) h.blocks k given.jumps_led_lem below in
          one_led h s uncond k (to k) (rw (p.0, p.1, inside) at q) ∙ sym place
