-- The checker's tests over the rows of an accepted record are the assumptions of #109 over the record.
-- Block by block: a row's numbers are the record's, and how a block ends says what its last instruction is.
use mathlib.Core.Path.{◌≡◌, refl, ◌∙◌}
use mathlib.Core.Bool.{Bool, true, false, not, ◌&&◌, ◌||◌, not-not, true≢false}
use mathlib.Core.List.{List}
use Prim.Native.Nat.{ℕ, zero, suc, ◌+◌, ◌-◌, ◌<◌}
use native.Mathlib.Omega.{arith}
use borrow.Author.Tests.{eqb-false}
use lib.Dec.{eqb, leb, ltb}
use Rattle.lists.specs.Choice.{pick, all_below}
use Rattle.record.specs.declared.header.Header.{Header}
use Rattle.record.specs.Layout.{starts_of, marks_of, targets_of, edge_kinds_of, bodies_of}
use Rattle.record.specs.Blocks.{start_at, instructions_in, first_instruction}
use Rattle.record.specs.Body.{body_at, condition_of, is_conditional_branch, skip_mark, operand_kind, operand_number}
use Rattle.cfg.specs.Graph.{is_block}
use Rattle.flow.specs.Silent.{is_direct_jmp, ending_of}
use Rattle.flow.specs.Rows.{place_of, last_body, block_ending, block_branch, block_rows}
use Rattle.flow.specs.Counted.{Counted}
use Rattle.flow.proofs.Terms.{first_in_lem, count_in_lem, first_edge_in_lem, edges_in_lem, ending_in_lem, branch_to_lem}
use Rattle.flow.proofs.Totals.{instructions_within}
use Rattle.flow.proofs.Silenced.{PlainJmps}
use Rattle.route.specs.Processor.{is_return, is_jump, uncond, onward}
use Rattle.route.specs.Assumed.{turns, is_empty, count_of, lead_to, one_to, turns_last, lasts_unmarked, jumps_led, others_led, branches_inside}
use Rattle.checker.specs.declared.edges.Kind.{Kind}
use Rattle.checker.specs.declared.edges.Kind.TheVariants.{Uncond, Onward}
use Rattle.checker.specs.Edges.{of_kind}
use Rattle.checker.specs.Rows.{one_edge_to, turns_inside, last_marked, jump_led, other_led, branch_inside}

-- tests that agree at each number below n
all_same : (p q : ℕ → Bool) (n : ℕ) → ((k : ℕ) → k < n → p k ≡ q k) → all_below p n ≡ all_below q n
all_same p q zero h = refl
all_same p q (suc n) h = rw (all_same p q n (λ k l. h k (omega arith)), h n (omega arith))

not_both : (a b : Bool) → not (not a && b) ≡ (a || not b)
not_both true b = refl
not_both false b = refl

pick_or : (a b : Bool) → pick a b true ≡ (not a || b)
pick_or true b = refl
pick_or false b = refl

-- how a block ends, by whether it is empty and whether its last instruction has no condition, is a direct jmp, has a near branch first
abbrev ending : Bool → Bool → Bool → Bool → ℕ
ending e z j n = pick e 0 (pick (not z && n) 2 (pick (not z) 1 (pick j 3 0)))

-- and where its branch goes
abbrev goal : ℕ → ℕ → ℕ
goal ending p = pick (leb 2 ending) p 65535

jump_rule : (e z j n o : Bool) (p : ℕ) → (e ≡ false → (j && not z) ≡ false)
    → pick (eqb (ending e z j n) 3 && is_block (goal (ending e z j n) p)) o true ≡ (e || not (j && is_block p) || o)
jump_rule true z j n o p h = refl
jump_rule false true true n o p h = pick_or (is_block p) o
jump_rule false true false n o p h = refl
jump_rule false false true n o p h = absurd (true≢false (h refl))
jump_rule false false false true o p h = refl
jump_rule false false false false o p h = refl

branch_rule : (e z j n : Bool) (p : ℕ) → (not (eqb (ending e z j n) 2) || is_block (goal (ending e z j n) p)) ≡ (e || not (not z && n) || is_block p)
branch_rule true z j n p = refl
branch_rule false true true n p = refl
branch_rule false true false n p = refl
branch_rule false false j true p = refl
branch_rule false false j false p = refl

module _ (h : Header) (s : List ℕ) where
  abbrev rows : List ℕ
  rows = block_rows h s

  module _ (k : ℕ) (below : k < h.blocks) where
    abbrev last : List ℕ
    last = last_body h s k

    one_edge : (kind : Kind) (va : ℕ) → one_edge_to (targets_of h s) (edge_kinds_of h s) rows kind k va ≡ one_to h s (of_kind kind) k va
    unfolding one_edge_to count_of lead_to
    one_edge kind va = rw (first_edge_in_lem h s k below, edges_in_lem h s k below)

    turns_in : not (turns_inside (bodies_of h s) rows k)
        ≡ all_below (λ m. not (turns (body_at (bodies_of h s) (first_instruction (marks_of h s) k + m)))) (instructions_in (marks_of h s) k - 1)
    unfolding turns_inside
    turns_in = rw (first_in_lem h s k below, count_in_lem h s k below) (not-not _)

    marked_in : not (last_marked (bodies_of h s) rows k) ≡ (is_empty h s k || not (eqb (skip_mark last) 1))
    unfolding last_marked
    marked_in = rw (first_in_lem h s k below, count_in_lem h s k below) (not_both (is_empty h s k) (eqb (skip_mark last) 1))

    other_in : other_led (targets_of h s) (edge_kinds_of h s) (bodies_of h s) rows (starts_of h s) h.blocks k
        ≡ ((not (is_empty h s k) && (is_jump last || is_return last)) || (ltb (k + 1) h.blocks && one_to h s onward k (start_at (starts_of h s) (k + 1))))
    unfolding other_led
    other_in = rw (first_in_lem h s k below, count_in_lem h s k below, one_edge Onward (start_at (starts_of h s) (k + 1)))

    branch_in : branch_inside rows k ≡ (is_empty h s k || not (is_conditional_branch last) || is_block (place_of h s (operand_number last 0)))
    unfolding branch_inside block_branch block_ending ending_of
    branch_in =
        rw (ending_in_lem h s k below, branch_to_lem h s k below)
        (branch_rule (is_empty h s k) (eqb (condition_of last) 0) (is_direct_jmp last) (eqb (operand_kind last 0) 2) (place_of h s (operand_number last 0)))

    -- a last direct jmp has no condition
    plain_last : Counted h s → PlainJmps h s → is_empty h s k ≡ false → (is_direct_jmp last && not (eqb (condition_of last) 0)) ≡ false
    plain_last t plain e =
        let n = eqb-false (instructions_in (marks_of h s) k) 0 e in
        plain (first_instruction (marks_of h s) k + instructions_in (marks_of h s) k - 1)
        (omega (arith, n, instructions_within (marks_of h s) k h.blocks below, t.instructions))

    jump_in : Counted h s → PlainJmps h s → jump_led (targets_of h s) (edge_kinds_of h s) (bodies_of h s) rows k
        ≡ (is_empty h s k || not (is_direct_jmp last && is_block (place_of h s (operand_number last 0))) || one_to h s uncond k (operand_number last 0))
    unfolding jump_led block_branch block_ending ending_of
    jump_in t plain =
        rw (ending_in_lem h s k below, branch_to_lem h s k below, first_in_lem h s k below, count_in_lem h s k below, one_edge Uncond (operand_number last 0))
        (jump_rule (is_empty h s k) (eqb (condition_of last) 0) (is_direct_jmp last) (eqb (operand_kind last 0) 2) (one_to h s uncond k (operand_number last 0))
        (place_of h s (operand_number last 0)) (plain_last t plain))

  pub turns_last_is : all_below (λ k. not (turns_inside (bodies_of h s) rows k)) h.blocks ≡ turns_last h s
  unfolding turns_last
  turns_last_is = all_same _ _ h.blocks turns_in

  pub lasts_unmarked_is : all_below (λ k. not (last_marked (bodies_of h s) rows k)) h.blocks ≡ lasts_unmarked h s
  unfolding lasts_unmarked
  lasts_unmarked_is = all_same _ _ h.blocks marked_in

  others_led_is : all_below (other_led (targets_of h s) (edge_kinds_of h s) (bodies_of h s) rows (starts_of h s) h.blocks) h.blocks ≡ others_led h s
  unfolding others_led
  others_led_is = all_same _ _ h.blocks other_in

  pub branches_inside_is : all_below (branch_inside rows) h.blocks ≡ branches_inside h s
  unfolding branches_inside
  branches_inside_is = all_same _ _ h.blocks branch_in

  jumps_led_is : Counted h s → PlainJmps h s → all_below (jump_led (targets_of h s) (edge_kinds_of h s) (bodies_of h s) rows) h.blocks ≡ jumps_led h s
  unfolding jumps_led
  jumps_led_is t plain = all_same _ _ h.blocks (λ k l. jump_in k l t plain)

-- what was read of a record: its targets, kinds of edges, bodies and rows
pub record Parts (h : Header) (s targets kinds bodies blocks : List ℕ) : Type 0 where
  pub targets_are : targets ≡ targets_of h s
  pub kinds_are : kinds ≡ edge_kinds_of h s
  pub bodies_are : bodies ≡ bodies_of h s
  pub rows_are : blocks ≡ block_rows h s

module _ (h : Header) (s targets kinds bodies blocks : List ℕ) (p : Parts h s targets kinds bodies blocks) where
  pub jumps_told : Counted h s → PlainJmps h s → (r : Bool) → r ≡ all_below (jump_led targets kinds bodies blocks) h.blocks → r ≡ jumps_led h s
  jumps_told t plain r e = e ∙ rw (p.targets_are, p.kinds_are, p.bodies_are, p.rows_are) (jumps_led_is h s t plain)

  pub others_told : (starts : List ℕ) (r : Bool) → starts ≡ starts_of h s → r ≡ all_below (other_led targets kinds bodies blocks starts h.blocks) h.blocks → r ≡ others_led h s
  others_told starts r q e = e ∙ rw (p.targets_are, p.kinds_are, p.bodies_are, p.rows_are, q) (others_led_is h s)
