-- True edges of an accepted record lead where the branches go (#108): a block that closes a loop to a place ends in a conditional near
-- branch to that place. Question 15 of the block, read at the edge that closes the loop.
use Prim.Native.Nat.{ℕ, zero, suc, ◌+◌, ◌≤◌, ◌<◌}
use mathlib.Core.Bool.{Bool, true, false, not, ◌&&◌, ◌||◌, or-false, false≢true}
use mathlib.Core.List.{List}
use mathlib.Core.Path.{◌≡◌, refl, sym, ap, ◌∙◌}
use native.Mathlib.Omega.{arith}
use borrow.Author.Tests.{eqb-true, eq-eqb, ne_eqb}
use lib.Dec.{eqb}
use Rattle.lists.specs.Choice.{pick, any_below}
use Rattle.lists.specs.Every.{both_yes}
use Rattle.lists.specs.Below.{all_at}
use Rattle.record.specs.declared.header.Header.{Header}
use Rattle.std.specs.Prelude.{Some}
use Rattle.record.specs.Header.{header_of}
use Rattle.record.specs.Layout.{starts_of, marks_of, targets_of, edge_kinds_of, bodies_of}
use Rattle.record.specs.Blocks.{start_at, instructions_in, edges_in, first_edge, target_at, edge_kind_at}
use Rattle.record.specs.Body.{body_at, is_conditional_branch, operand_number}
use Rattle.record.specs.Branches.{is_true, true_count, true_lead, branch_agrees, branch_ok, branches_ok}
use Rattle.record.specs.Search.{number_at, find_from}
use Rattle.record.specs.Asked.{branches_asked, first_no}
use Rattle.record.proofs.AskedLaws.{yes_limits, yes_marks, yes_branches}
use Rattle.cfg.specs.Graph.{ending_in, branch_to, last_in, has_condition, true_edge_to, has_edge, closes_loop}
use Rattle.cfg.specs.Graph as flow
use Rattle.flow.specs.Silent.{ending_of}
use Rattle.flow.specs.Rows.{place_found, place_of, last_body, block_ending, block_branch, block_rows, edge_rows}
use Rattle.flow.specs.Counted.{Counted}
use Rattle.flow.proofs.Silenced.{last_is}
use Rattle.flow.proofs.Terms.{first_edge_in_lem, edges_in_lem, ending_in_lem, branch_to_lem, edge_to_lem, edge_kind_lem}
use Rattle.flow.proofs.Totals.{sum_grows, edges_within, marks_counted, limits_small}

-- what follows from a test that passes at some number, follows if one passes
any_then : {G : Type 0} (p : ℕ → Bool) (n : ℕ) → any_below p n ≡ true → ((i : ℕ) → i < n → p i ≡ true → G) → G
any_then p zero e f = absurd (false≢true e)
any_then {G} p (suc n) e f = go (p n) refl (any_then p n) e
  where
    go : (b : Bool) → p n ≡ b → (any_below p n ≡ true → ((i : ℕ) → i < n → p i ≡ true → G) → G) → (any_below p n || b) ≡ true → G
    go true q ih e = f n (omega arith) q
    go false q ih e = ih (sym (or-false (any_below p n)) ∙ e) (λ i l. f i (omega arith))

-- a place that a search found has the number that was sought
pub found_is : (numbers : List ℕ) (x k n i : ℕ) → place_found (find_from numbers x k n) ≡ i → i < 65535 → number_at numbers i ≡ x
unfolding find_from
found_is numbers x k zero i e l = absurd (omega arith)
found_is numbers x k (suc n) i e l = go (eqb (number_at numbers k) x) refl (λ q. found_is numbers x (suc k) n i q l) e
  where
    go : (b : Bool) → eqb (number_at numbers k) x ≡ b → (place_found (find_from numbers x (suc k) n) ≡ i → number_at numbers i ≡ x)
        → place_found (pick b (Some k) (find_from numbers x (suc k) n)) ≡ i → number_at numbers i ≡ x
    go true q ih e = ap (number_at numbers) (sym e) ∙ eqb-true (number_at numbers k) x q
    go false q ih e = ih e

-- of a block with c instructions and n edges from e on, where number m of these is True
module _ (targets kinds last : List ℕ) (c e n m : ℕ) (agrees : branch_agrees targets kinds last c e n ≡ true) (l : m < n) (q : is_true kinds (e + m) ≡ true) where
  some_true : 1 ≤ true_count kinds e n
  unfolding true_count
  some_true =
      let f : ℕ → ℕ = λ m. pick (is_true kinds (e + m)) 1 0 in
      let one : f m ≡ 1 = rw q in
      omega (arith, one, sum_grows f (suc m) n l)

  leads : true_lead targets kinds (operand_number last 0) e n ≡ true → target_at targets (e + m) ≡ operand_number last 0
  unfolding true_lead
  leads h =
      eqb-true (target_at targets (e + m)) (operand_number last 0)
      (rw q at (all_at (λ m. not (is_true kinds (e + m)) || eqb (target_at targets (e + m)) (operand_number last 0)) n m h l))

  branch_leads : (0 < c) × (is_conditional_branch last ≡ true) × (target_at targets (e + m) ≡ operand_number last 0)
  unfolding branch_agrees
  branch_leads = go (not (eqb c 0) && is_conditional_branch last) refl agrees
    where
      go : (b : Bool) → (not (eqb c 0) && is_conditional_branch last) ≡ b
          → pick b (eqb (true_count kinds e n) 1 && true_lead targets kinds (operand_number last 0) e n) (eqb (true_count kinds e n) 0) ≡ true
          → (0 < c) × (is_conditional_branch last ≡ true) × (target_at targets (e + m) ≡ operand_number last 0)
      go true p h =
          let b = both_yes (not (eqb c 0)) (is_conditional_branch last) p in
          let some : (c ≡ 0) → ⊥ = λ z. false≢true (rw (eq-eqb c 0 z) at b.0) in
          (omega arith, b.1, leads (both_yes (eqb (true_count kinds e n) 1) _ h).1)
      go false p h = absurd (omega (arith, some_true, eqb-true (true_count kinds e n) 0 h))

-- a block's last instruction is a conditional near branch
abbrev pub Branches : Header → List ℕ → ℕ → Type 0
Branches h s k = (0 < instructions_in (marks_of h s) k) × (is_conditional_branch (last_body h s k) ≡ true)

-- block j ends in a conditional near branch to block i
pub record ClosesTo (h : Header) (s : List ℕ) (i j : ℕ) : Type 0 where
  pub conditional : is_conditional_branch (body_at (bodies_of h s) (last_in (block_rows h s) j)) ≡ true
  pub target : operand_number (body_at (bodies_of h s) (last_in (block_rows h s) j)) 0 ≡ start_at (starts_of h s) i
  pub ending : ending_in (block_rows h s) j ≡ 2
  pub branch : branch_to (block_rows h s) j ≡ i

module _ (h : Header) (s : List ℕ) (k : ℕ) (below : k < h.blocks) where
  abbrev last : List ℕ
  last = last_body h s k

  branch_ending : Branches h s k → ending_in (block_rows h s) k ≡ 2
  unfolding block_ending ending_of
  branch_ending b =
      let n : (instructions_in (marks_of h s) k ≡ 0) → ⊥ = λ z. omega arith in
      ending_in_lem h s k below ∙ rw (ne_eqb (instructions_in (marks_of h s) k) 0 n, b.1)

  branch_place : Branches h s k → branch_to (block_rows h s) k ≡ place_of h s (operand_number last 0)
  unfolding block_branch
  branch_place b = branch_to_lem h s k below ∙ rw (← ending_in_lem h s k below, branch_ending b)

  module _ (ok : branches_ok (targets_of h s) (edge_kinds_of h s) (marks_of h s) (bodies_of h s) h.blocks ≡ true) where
    -- number m of block k's edges, if it is True
    edge_leads : (m : ℕ) → m < edges_in (marks_of h s) k → is_true (edge_kinds_of h s) (first_edge (marks_of h s) k + m) ≡ true
        → Branches h s k × (target_at (targets_of h s) (first_edge (marks_of h s) k + m) ≡ operand_number last 0)
    unfolding branches_ok branch_ok
    edge_leads m l q =
        let b =
        branch_leads (targets_of h s) (edge_kinds_of h s) last (instructions_in (marks_of h s) k) (first_edge (marks_of h s) k) (edges_in (marks_of h s) k) m
        (all_at (branch_ok (targets_of h s) (edge_kinds_of h s) (marks_of h s) (bodies_of h s)) h.blocks k ok below) l q
        in
        ((b.0, b.1), b.2)

    module _ (t : Counted h s) (i : ℕ) (small : i < 65535) where
      closes_by : (m : ℕ) → m < edges_in (marks_of h s) k → true_edge_to (edge_rows h s) i (first_edge (marks_of h s) k + m) ≡ true → ClosesTo h s i k
      unfolding place_of
      closes_by m l q =
          let e = first_edge (marks_of h s) k + m in
          let within : e < h.edges = omega (arith, edges_within (marks_of h s) k h.blocks below, t.edges) in
          let p = both_yes (flow.goes_to (edge_rows h s) i e) (eqb (flow.edge_kind (edge_rows h s) e) 1) q in
          let b = edge_leads m l (ap (λ (x : ℕ). eqb x 1) (sym (edge_kind_lem h s e within)) ∙ p.1) in
          let place : place_of h s (operand_number last 0) ≡ i =
          ap (place_of h s) (sym b.1) ∙ sym (edge_to_lem h s e within) ∙ eqb-true (flow.edge_to (edge_rows h s) e) i p.0 in
          record {
            conditional = rw (last_is h s k below) b.0.1;
            target = rw (last_is h s k below) (sym (found_is (starts_of h s) (operand_number last 0) 0 h.blocks i place small));
            ending = branch_ending b.0;
            branch = branch_place b.0 ∙ place;
          }

      closes_to : closes_loop (block_rows h s) (edge_rows h s) i k ≡ true → ClosesTo h s i k
      unfolding closes_loop has_edge
      closes_to c =
          any_then (λ m. true_edge_to (edge_rows h s) i (first_edge (marks_of h s) k + m)) (edges_in (marks_of h s) k)
          (rw (first_edge_in_lem h s k below, edges_in_lem h s k below) at (both_yes (has_edge (block_rows h s) (true_edge_to (edge_rows h s) i) k) (has_condition (block_rows h s) k) c).0)
          closes_by

-- of a record for which all questions got a yes
module _ (s : List ℕ) (from to : ℕ) (yes : first_no s from to ≡ 0) where
  -- "exactly one True edge, to that branch's target; any other block must have none": of a True edge, number m of block k's
  pub true_edge : (k m : ℕ) → k < (header_of s).blocks → m < edges_in (marks_of (header_of s) s) k
      → edge_kind_at (edge_kinds_of (header_of s) s) (first_edge (marks_of (header_of s) s) k + m) ≡ 1
      → Branches (header_of s) s k × (target_at (targets_of (header_of s) s) (first_edge (marks_of (header_of s) s) k + m) ≡ operand_number (last_body (header_of s) s k) 0)
  unfolding branches_asked
  true_edge k m below l q = edge_leads (header_of s) s k below (yes_branches s from to yes) m l (eq-eqb _ 1 q)

  -- a block that closes a loop to block i ends in a conditional branch to it
  pub loop_closes : (i j : ℕ) → closes_loop (block_rows (header_of s) s) (edge_rows (header_of s) s) i j ≡ true → i < j → j < (header_of s).blocks → ClosesTo (header_of s) s i j
  unfolding branches_asked
  loop_closes i j c l below =
      closes_to (header_of s) s j below (yes_branches s from to yes) (marks_counted (header_of s) s (yes_marks s from to yes)) i
      (omega (arith, (limits_small (header_of s) (yes_limits s from to yes)).blocks)) c
