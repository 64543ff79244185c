-- What the proof of following asks of rows holds of an accepted record under the assumptions.
-- Each premise is read off an assumption at the block in question, or off question 15.
use Prim.Native.Nat.{ℕ, ◌+◌, ◌<◌}
use mathlib.Core.Bool.{true, false, not, ◌&&◌, ◌||◌}
use mathlib.Core.List.{List}
use mathlib.Core.Path.{◌≡◌, refl, sym, ap, ◌∙◌}
use native.Mathlib.Omega.{arith}
use borrow.Author.Tests.{eqb-true, eq-eqb, ne_eqb, not-true}
use lib.Dec.{eqb}
use Rattle.lists.specs.Every.{both_yes}
use Rattle.lists.specs.Below.{all_at, any_gives}
use Rattle.x86.specs.Mnemonics.{ret, jmp}
use Rattle.x86.specs.Words.{same_word}
use Rattle.record.specs.declared.header.Header.{Header}
use Rattle.record.specs.Header.{header_of}
use Rattle.record.specs.Layout.{marks_of}
use Rattle.record.specs.Blocks.{instructions_in, edges_in, first_edge}
use Rattle.record.specs.Body.{mnemonic_of, skip_mark, operand_number, is_conditional_branch}
use Rattle.record.specs.Asked.{first_no}
use Rattle.record.proofs.AskedLaws.{yes_limits}
use Rattle.cfg.specs.Graph.{ends_in_branch, branch_to, is_block, last_in, is_shown, edge_to, edge_kind, goes_to, true_edge_to, has_condition, has_edge, closes_loop}
use Rattle.flow.specs.Classes.{silent_class}
use Rattle.flow.specs.Silent.{is_prologue_noise, is_direct_jmp, is_silent_itself}
use Rattle.flow.specs.Rows.{place_of, last_body, block_rows, edge_rows, shown_rows}
use Rattle.flow.proofs.Classes.{class_shown}
use Rattle.flow.proofs.Closing.{true_edge}
use Rattle.flow.proofs.Terms.{first_edge_in_lem, edges_in_lem, edge_to_lem, edge_kind_lem, is_shown_lem}
use Rattle.flow.proofs.Totals.{edges_within, limits_small}
use Rattle.flow.proofs.Silenced.{last_is}
use Rattle.route.specs.Processor.{is_return, is_jump}
use Rattle.route.specs.Assumed.{Assumed, is_empty, lasts_unmarked, branches_inside}
use Rattle.route.proofs.Stating.{own_at, name_at, target_name}
use Rattle.route.proofs.Rules.{Rowed}
use Rattle.route.proofs.Endings.{counted, last_within, ends_branch, branch_last, branch_place, mid_plain, returns_last, leaves_last}
use Rattle.route.proofs.Led.{target_within, onward_led, branch_onward_led}

-- an instruction that is not skip-marked is not silent by itself: a ret, an indirect jmp
module _ (bits frame : ℕ) (b : List ℕ) (k : eqb (skip_mark b) 1 ≡ false) where
  ret_shown : is_return b ≡ true → is_silent_itself bits frame b ≡ false
  unfolding silent_class
  ret_shown e = class_shown bits frame b (rw (eqb-true (mnemonic_of b) ret e)) k

  jmp_shown : is_jump b ≡ true → is_direct_jmp b ≡ false → is_silent_itself bits frame b ≡ false
  unfolding is_silent_itself is_prologue_noise
  jmp_shown e d = rw (k, d, eqb-true (mnemonic_of b) jmp e)

module _ (s : List ℕ) (asked : first_no s 0 (header_of s).blocks ≡ 0) where
  abbrev h : Header
  h = header_of s

  abbrev rows : List ℕ
  rows = block_rows h s

  module _ (k : ℕ) (below : k < h.blocks) where
    abbrev last : List ℕ
    last = last_body h s k

    -- number m of block k's edges is a True edge to block i
    closes_by : (i m : ℕ) → m < edges_in (marks_of h s) k → true_edge_to (edge_rows h s) i (first_edge (marks_of h s) k + m) ≡ true
        → (ends_in_branch rows k && eqb (branch_to rows k) i) ≡ true
    closes_by i m l q =
        let e = first_edge (marks_of h s) k + m in
        let within : e < h.edges = omega (arith, edges_within (marks_of h s) k h.blocks below, (counted s asked).edges) in
        let p = both_yes (goes_to (edge_rows h s) i e) (eqb (edge_kind (edge_rows h s) e) 1) q in
        let t = true_edge s 0 h.blocks asked k m below l (sym (edge_kind_lem h s e within) ∙ eqb-true (edge_kind (edge_rows h s) e) 1 p.1) in
        let some : is_empty h s k ≡ false = ne_eqb (instructions_in (marks_of h s) k) 0 (λ z. omega (arith, t.0.0)) in
        let c : ends_in_branch rows k ≡ true = ends_branch s asked k below ∙ rw (some, t.0.1) in
        let place : branch_to rows k ≡ i =
        branch_place s asked k below 2 c refl ∙ ap (place_of h s) (sym t.1) ∙ sym (edge_to_lem h s e within) ∙ eqb-true (edge_to (edge_rows h s) e) i p.0 in
        rw (c, eq-eqb (branch_to rows k) i place)

    closes_to : (i : ℕ) → closes_loop rows (edge_rows h s) i k ≡ true → (ends_in_branch rows k ≡ true) × (branch_to rows k ≡ i)
    unfolding closes_loop has_edge
    closes_to i c =
        let some = (both_yes (has_edge rows (true_edge_to (edge_rows h s) i) k) (has_condition rows k) c).0 in
        let b =
        any_gives (λ m. true_edge_to (edge_rows h s) i (first_edge (marks_of h s) k + m)) (edges_in (marks_of h s) k) (ends_in_branch rows k && eqb (branch_to rows k) i)
        (rw (first_edge_in_lem h s k below, edges_in_lem h s k below) at some) (closes_by i) in
        let e = both_yes (ends_in_branch rows k) (eqb (branch_to rows k) i) b in
        (e.0, eqb-true (branch_to rows k) i e.1)

    module _ (given : Assumed h s) where
      -- "no last instruction is skip-marked"
      last_shown : is_empty h s k ≡ false → (eqb (skip_mark last) 1 ≡ false → is_silent_itself h.bits h.frame last ≡ false) → is_shown (shown_rows h s) (last_in rows k) ≡ true
      unfolding lasts_unmarked
      last_shown z q =
          let u = all_at (λ k. is_empty h s k || not (eqb (skip_mark (last_body h s k)) 1)) h.blocks k given.lasts_unmarked_lem below in
          rw (last_is h s k below) (is_shown_lem h s _ (last_within s asked k below z) ∙ ap not (q (not-true (eqb (skip_mark last) 1) (rw z at u))))

      branch_inside_lem : ends_in_branch rows k ≡ true → is_block (branch_to rows k) ≡ true
      unfolding branches_inside
      branch_inside_lem e =
          let p = branch_last s asked k below e in
          let place : ℕ → ℕ = λ k. place_of h s (operand_number (last_body h s k) 0) in
          let b = all_at (λ k. is_empty h s k || not (is_conditional_branch (last_body h s k)) || is_block (place k)) h.blocks k given.branches_inside_lem below in
          ap is_block (branch_place s asked k below 2 e refl) ∙ rw (p.0, p.1) at b

  module _ (given : Assumed h s) where
    pub rowed : ((j t : ℕ) → j < h.blocks → t < h.blocks → same_word (name_at h s j) (name_at h s t) ≡ eqb j t)
        → ((k : ℕ) → k < h.blocks → is_block (branch_to rows k) ≡ true → target_name h s (last_in rows k) ≡ name_at h s (branch_to rows k))
        → Rowed rows (edge_rows h s) (shown_rows h s) h.blocks (name_at h s) (target_name h s) (own_at h s)
    rowed names targets =
        record {
          few = let b = (limits_small h (yes_limits s 0 h.blocks asked)).blocks in omega (arith, b);
          mid = λ k i l a b. let p = mid_plain s asked k l given i a b in rw (p.0, p.1);
          seen_return = λ k l e. let p = returns_last s asked k l e in last_shown k l given p.0 (λ u. ret_shown h.bits h.frame (last_body h s k) u p.1);
          seen_leave = λ k l e. let p = leaves_last s asked k l e in last_shown k l given p.0 (λ u. jmp_shown h.bits h.frame (last_body h s k) u p.2 p.3);
          branch_in = λ k l e. let b = branch_inside_lem k l given e in (b, target_within s asked k l b);
          jump_in = λ k l b. target_within s asked k l b;
          falls_in = λ k l e. (onward_led s asked k l given e).1;
          past_branch = λ k l e. (branch_onward_led s asked k l given e).1;
          closes = λ i j a b c. closes_to j b i c;
          named = names;
          targets_named = targets;
        }
