-- The silent list of document 01, over a record's bytes: which instructions of a block have no line, in the context that the regions
-- give the block's place.
use Rattle.std.specs.Prelude.{ℕ, zero, suc, ◌+◌, ◌-◌, Bool, true, false, not, ◌&&◌, ◌||◌, List, [], ◌∷◌, ◌++◌, eqb, ltb}
use Rattle.lists.specs.Choice.{pick}
use Rattle.record.specs.declared.header.Header.{Header}
use Rattle.record.specs.Layout.{marks_of, bodies_of}
use Rattle.record.specs.Blocks.{instructions_in, first_instruction}
use Rattle.record.specs.Body.{body_at, mnemonic_of, is_conditional_branch, operand_number}
use Rattle.structure.specs.Demand.{Context, Owned, owned}
use Rattle.structure.specs.Demand.Context.{in_range, last_in_body}
use Rattle.flow.specs.Silent.{folded, is_direct_jmp, is_skipped}
use Rattle.flow.specs.Rows.{place_of}

-- last in a do-body, where the last instruction is the loop's closing test
abbrev pub closes_body : Context → Bool
closes_body (in_range end) = false
closes_body last_in_body = true

module _ (h : Header) (s : List ℕ) where
  abbrev pub body_in : ℕ → List ℕ
  body_in i = body_at (bodies_of h s) i

  -- instruction i is block k's last
  abbrev pub is_last : ℕ → ℕ → Bool
  is_last k i = eqb i (first_instruction (marks_of h s) k + instructions_in (marks_of h s) k - 1)

  -- "goes to the next block when that lies in the range being written"; to a block of a do-body the loop is that range
  abbrev pub jumps_next : Context → ℕ → ℕ → Bool
  jumps_next (in_range end) k i = eqb (place_of h s (operand_number (body_in i) 0)) (k + 1) && ltb (k + 1) end
  jumps_next last_in_body k i = false

  -- "a direct jmp that isn't last, .. or goes to the next block when that lies in the range being written"; #101: one in a do-body too gets
  -- "the same goto or return line as elsewhere, unless the target is the next block"
  abbrev pub is_silent_jmp : Context → ℕ → ℕ → Bool
  is_silent_jmp c k i = is_direct_jmp (body_in i) && (not (is_last k i) || jumps_next c k i)

  -- "A block's closing conditional branch, a loop's closing test and a last direct jmp .. aren't silenced by the skip mark."; of jumps in a
  -- do-body #101: "The silent list loses that entry, and the skip mark, for those jumps."
  abbrev pub is_spared : Context → ℕ → ℕ → Bool
  is_spared c k i = is_last k i && (is_conditional_branch (body_in i) || closes_body c || is_direct_jmp (body_in i))

  -- "Silent: skip-marked or prologue noise (`is_prologue_noise` says so); cmp, test, push, cdq, cqo, cdqe, cwde; a direct jmp that
  -- isn't last, .."
  unfoldable pub is_silent : Context → ℕ → ℕ → Bool
  is_silent c k i =
      is_silent_jmp c k i || (not (is_spared c k i) && (is_skipped h.bits h.frame (body_in i) || folded (mnemonic_of (body_in i))))

  -- of n instructions of block k from i on, those that are not silent
  unfoldable pub unsilent : Context → ℕ → ℕ → ℕ → List Owned
  unsilent c k i zero = []
  unsilent c k i (suc n) = pick (is_silent c k i) (unsilent c k (suc i) n) (owned k i ∷ unsilent c k (suc i) n)

  -- "in block order": of blocks from place k on, each in its context
  unfoldable pub unsilent_in : ℕ → List Context → List Owned
  unsilent_in k [] = []
  unsilent_in k (c ∷ cs) = unsilent c k (first_instruction (marks_of h s) k) (instructions_in (marks_of h s) k) ++ unsilent_in (suc k) cs
