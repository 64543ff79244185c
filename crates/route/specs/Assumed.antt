-- What #109 assumes of a record, in its words and order, less what the theorem does without: Case edges, which neither route follows, and
-- names, since the kinds of tokens tell lines apart.
use Rattle.std.specs.Prelude.{ℕ, ◌+◌, ◌-◌, ◌≤◌, List, [], ◌∷◌, Bool, true, false, not, ◌&&◌, ◌||◌, ◌≡◌, eqb, ltb}
use Rattle.lists.specs.Choice.{pick, all_below, sum_below}
use Rattle.lists.specs.Every.{every}
use Rattle.record.specs.declared.header.Header.{Header}
use Rattle.std.specs.Prelude.{Option, Some, None}
use Rattle.record.specs.Layout.{starts_of, marks_of, targets_of, edge_kinds_of, bodies_of}
use Rattle.record.specs.Blocks.{start_at, instructions_in, edges_in, first_instruction, first_edge, target_at, edge_kind_at}
use Rattle.record.specs.Body.{body_at, mnemonic_of, is_conditional_branch, sets_by_condition, skip_mark, operand_kind, operand_number}
use Rattle.cfg.specs.Graph.{is_block, branch_to}
use Rattle.structure.specs.Plan.{What, Line, is}
use Rattle.structure.specs.Plan.What.{label_line, if_goto, goto_line}
use Rattle.operand.specs.Names.{entry_at}
use Rattle.flow.specs.Silent.{is_direct_jmp}
use Rattle.flow.specs.Rows.{place_of, last_body, block_rows}
use Rattle.flow.specs.Planned.{record_plan}
use Rattle.route.specs.Processor.{is_return, is_jump, uncond, onward}

-- a search found nothing
abbrev pub is_nothing : Option ℕ → Bool
is_nothing (Some k) = false
is_nothing None = true

-- "jumps, conditional branches and returns"
abbrev pub turns : List ℕ → Bool
turns b = is_return b || is_jump b || is_conditional_branch b

-- a label of place k stands in lines
unfoldable pub label_stands : ℕ → List Line → Bool
label_stands k [] = false
label_stands k (l ∷ ls) = (is l.what label_line && eqb l.place k) || label_stands k ls

-- the label of the block that a goto or a branch's goto leads to does
abbrev pub is_labelled : List ℕ → List Line → Line → Bool
is_labelled blocks plan l = not (is l.what goto_line || is l.what if_goto) || label_stands (branch_to blocks l.place) plan

unfoldable pub all_labelled : List ℕ → List Line → Bool
all_labelled blocks plan = every (is_labelled blocks plan) plan

module _ (h : Header) (s : List ℕ) where
  abbrev every_block : (ℕ → Bool) → Bool
  every_block p = all_below p h.blocks

  abbrev pub is_empty : ℕ → Bool
  is_empty k = eqb (instructions_in (marks_of h s) k) 0

  -- how many edges of block k are of a kind
  unfoldable pub count_of : (ℕ → Bool) → ℕ → ℕ
  count_of kind k = sum_below (λ m. pick (kind (edge_kind_at (edge_kinds_of h s) (first_edge (marks_of h s) k + m))) 1 0) (edges_in (marks_of h s) k)

  -- each of them leads to an address
  unfoldable pub lead_to : (ℕ → Bool) → ℕ → ℕ → Bool
  lead_to kind k va =
      all_below (λ m. let e = first_edge (marks_of h s) k + m in not (kind (edge_kind_at (edge_kinds_of h s) e)) || eqb (target_at (targets_of h s) e) va) (edges_in (marks_of h s) k)

  -- "its one" edge of a kind, to an address
  abbrev pub one_to : (ℕ → Bool) → ℕ → ℕ → Bool
  one_to kind k va = eqb (count_of kind k) 1 && lead_to kind k va

  -- "jumps, conditional branches and returns stand only last in a block"
  unfoldable pub turns_last : Bool
  turns_last =
      every_block (λ k. all_below (λ m. not (turns (body_at (bodies_of h s) (first_instruction (marks_of h s) k + m)))) (instructions_in (marks_of h s) k - 1))

  -- "no last instruction is skip-marked"
  unfoldable pub lasts_unmarked : Bool
  lasts_unmarked = every_block (λ k. is_empty k || not (eqb (skip_mark (last_body h s k)) 1))

  -- "no setcc or cmovcc has a near branch"
  unfoldable pub sets_no_branch : Bool
  sets_no_branch = all_below (λ i. let b = body_at (bodies_of h s) i in not (sets_by_condition (mnemonic_of b) && eqb (operand_kind b 0) 2)) h.instructions

  -- "no atlas entry has a block's start as its address"
  unfoldable pub starts_unnamed : Bool
  starts_unnamed = every_block (λ k. is_nothing (entry_at h s (start_at (starts_of h s) k)))

  -- "a direct jump to a block of the record has its one Uncond edge to that block"
  unfoldable pub jumps_led : Bool
  jumps_led =
      every_block
      (λ k.
      let b = last_body h s k in
      is_empty k || not (is_direct_jmp b && is_block (place_of h s (operand_number b 0))) || one_to uncond k (operand_number b 0))

  -- "a block that does not end in a jmp or return has the next block as its one Fall or False edge"
  unfoldable pub others_led : Bool
  others_led =
      every_block
      (λ k.
      let b = last_body h s k in
      (not (is_empty k) && (is_jump b || is_return b)) || (ltb (k + 1) h.blocks && one_to onward k (start_at (starts_of h s) (k + 1))))

  -- "every conditional branch goes to a block of the record"
  unfoldable pub branches_inside : Bool
  branches_inside = every_block (λ k. let b = last_body h s k in is_empty k || not (is_conditional_branch b) || is_block (place_of h s (operand_number b 0)))

  -- "every goto to a block names a label that stands in the listing"
  unfoldable pub gotos_labelled : Bool
  gotos_labelled = all_labelled (block_rows h s) (record_plan h s 0 h.blocks)

  pub record Assumed : Type 0 where
    -- "a whole record of at least one block"
    pub some : 1 ≤ h.blocks
    pub turns_last_lem : turns_last ≡ true
    pub lasts_unmarked_lem : lasts_unmarked ≡ true
    pub sets_no_branch_lem : sets_no_branch ≡ true
    pub starts_unnamed_lem : starts_unnamed ≡ true
    pub jumps_led_lem : jumps_led ≡ true
    pub others_led_lem : others_led ≡ true
    pub branches_inside_lem : branches_inside ≡ true
    pub gotos_labelled_lem : gotos_labelled ≡ true
