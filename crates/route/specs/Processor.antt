-- The processor's route (#109), from the record alone: "met by following the edges from the first block: True if taken, Uncond after a
-- jump, else Fall or False".
use Rattle.std.specs.Prelude.{ℕ, zero, suc, List, [], ◌∷◌, Bool, true, false, not, ◌&&◌, ◌||◌, eqb, ltb, get_or}
use Rattle.lists.specs.Choice.{pick}
use Rattle.x86.specs.Mnemonics.{ret, jmp}
use Rattle.record.specs.declared.header.Header.{Header}
use Rattle.record.specs.Layout.{starts_of, marks_of, targets_of, edge_kinds_of, addresses_of, bodies_of}
use Rattle.record.specs.Blocks.{instructions_in, edges_in, first_instruction, first_edge, target_at, edge_kind_at}
use Rattle.record.specs.Body.{address_at, body_at, mnemonic_of, is_conditional_branch, sets_by_condition, operand_number}
use Rattle.cfg.specs.Graph.{no_block, is_block}
use Rattle.structure.specs.Tree.{tree_of}
use Rattle.structure.specs.Demand.{Context, contexts}
use Rattle.structure.specs.Demand.Context.{last_in_body}
use Rattle.flow.specs.Silent.{is_direct_jmp}
use Rattle.flow.specs.SilentList.{is_silent}
use Rattle.flow.specs.Rows.{place_of, block_rows, edge_rows}
use Rattle.route.specs.Trace.{Stop, Trace, chosen}
use Rattle.route.specs.Trace.Stop.{enough, returned, left, past, spent}
use Rattle.route.specs.Trace.Trace.{met, stop}

-- before a block, or in block k at instruction i, with so many left of the block
pub data Spot : Type 0 where
  before : ℕ → Spot
  inside : ℕ → ℕ → ℕ → Spot

abbrev pub is_return : List ℕ → Bool
is_return b = eqb (mnemonic_of b) ret

abbrev pub is_jump : List ℕ → Bool
is_jump b = eqb (mnemonic_of b) jmp

-- a branch by a condition: setcc and cmovcc go nowhere
abbrev pub is_branch : List ℕ → Bool
is_branch b = is_conditional_branch b && not (sets_by_condition (mnemonic_of b))

-- "0 Uncond, 1 True, 2 False, 3 Fall, 4 Case"
abbrev pub uncond : ℕ → Bool
uncond c = eqb c 0

abbrev pub true_edge : ℕ → Bool
true_edge c = eqb c 1

abbrev pub onward : ℕ → Bool
onward c = eqb c 2 || eqb c 3

module _ (h : Header) (s : List ℕ) where
  -- of n edges from e on, where the first leads that is of a kind; 65535 if there is none or it leads to no block
  unfoldable pub edge_from : (ℕ → Bool) → ℕ → ℕ → ℕ
  edge_from kind e zero = no_block
  edge_from kind e (suc n) = pick (kind (edge_kind_at (edge_kinds_of h s) e)) (place_of h s (target_at (targets_of h s) e)) (edge_from kind (suc e) n)

  -- the block's own edges
  unfoldable pub edge_of : (ℕ → Bool) → ℕ → ℕ
  edge_of kind k = edge_from kind (first_edge (marks_of h s) k) (edges_in (marks_of h s) k)

  -- the context that the regions of the whole record give block k
  unfoldable pub context_of : ℕ → Context
  context_of k =
      get_or (contexts (tree_of (block_rows h s) (edge_rows h s) (starts_of h s) (targets_of h s) h.blocks 0 h.blocks) 0 h.blocks) k last_in_body

  -- "instructions that are not silent": a silent one is passed and does not count
  abbrev pub meeting : Bool → ℕ → ℕ → (ℕ → Trace) → ℕ → Trace
  meeting true k i next n = next (suc n)
  meeting false k i next n = met k (address_at (addresses_of h s) i) (next n)

  -- a jump: "Uncond after a jump"; an indirect one, and one to no block of the record, is an ending
  abbrev pub jumps : (ℕ → List Bool → Spot → Trace) → List Bool → List ℕ → ℕ → ℕ → Trace
  jumps go os b k n = pick (is_direct_jmp b && is_block (place_of h s (operand_number b 0))) (go n os (before (edge_of uncond k))) (stop left)

  -- where instruction i of block k leads, by its body b, with m more of the block behind it
  abbrev pub leads : (ℕ → List Bool → Spot → Trace) → List Bool → List ℕ → ℕ → ℕ → ℕ → ℕ → Trace
  leads go os b k i m n =
      pick (is_return b) (stop returned)
      (pick (is_jump b) (jumps go os b k n)
      (pick (is_branch b) (chosen os (λ r. go n r (before (edge_of true_edge k))) (λ r. go n r (before (edge_of onward k))))
      (go n os (inside k (suc i) m))))

  -- one step, with n more instructions to meet than the one that comes next
  abbrev pub step : (ℕ → List Bool → Spot → Trace) → ℕ → List Bool → Spot → Trace
  step go n os (before k) = pick (ltb k h.blocks) (go (suc n) os (inside k (first_instruction (marks_of h s) k) (instructions_in (marks_of h s) k))) (stop past)
  step go n os (inside k i zero) = go (suc n) os (before (edge_of onward k))
  step go n os (inside k i (suc m)) = meeting (is_silent h s (context_of k) k i) k i (leads go os (body_at (bodies_of h s) i) k i m) n

  -- at most f steps
  unfoldable pub run : ℕ → ℕ → List Bool → Spot → Trace
  run zero n os p = stop spent
  run (suc f) zero os p = stop enough
  run (suc f) (suc n) os p = step (run f) n os p
