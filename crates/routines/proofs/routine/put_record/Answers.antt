-- `routine::put_record` meets its contract.
-- The header and six arrays, one behind the other; each begins where the one before ends.
use mathlib.Core.Path.{◌≡◌, sym, ◌∙◌}
use mathlib.Core.List.{List, ◌++◌}
use Prim.Native.Nat.{ℕ, ◌+◌}
use native.Mathlib.Nat.{zero-add}
use native.Mathlib.Omega.{arith}
use lib.ListN.{length, length-append}
use Rattle.lists.specs.Put.{put}
use Rattle.lists.specs.PutLaws.{put_append}
use Rattle.routines.specs.Numbered.{routine_at}
use Rattle.routines.specs.Written.{record_of}
use Rattle.routines.proofs.Sizes.{length_header, length_parts, length_record}
use Rattle.routines.proofs.routine.put_record.Goals as goal

-- a text that is stored from the start on, and another from where it ends
abbrev Stands : ℕ → List ℕ → List ℕ → List ℕ → Type 0
Stands n s l o = (n ≡ length s) × (o ≡ put 0 s l)

behind : (n m : ℕ) (s t l o p : List ℕ) → Stands n s l o → m ≡ n + length t → p ≡ put n t o → Stands m (s ++ t) l p
behind n m s t l o p h q r = (omega (arith, h.0, length-append s t), r ∙ rw (h.1, h.0, put_append 0 s t l, zero-add))

pub put_header-starts-requires : goal.put_header-starts-requires
put_header-starts-requires c = (omega arith, omega arith, omega (arith, length_record (routine_at c.args.k)))

pub put_array-marks-requires : goal.put_array-marks-requires
put_array-marks-requires c = let parts = length_parts (routine_at c.args.k) in let all = length_record (routine_at c.args.k) in (omega arith, omega arith, omega arith)

pub put_array-targets-requires : goal.put_array-targets-requires
put_array-targets-requires c = let parts = length_parts (routine_at c.args.k) in let all = length_record (routine_at c.args.k) in (omega arith, omega arith, omega arith)

pub put_array-kinds-requires : goal.put_array-kinds-requires
put_array-kinds-requires c = let parts = length_parts (routine_at c.args.k) in let all = length_record (routine_at c.args.k) in (omega arith, omega arith, omega arith)

pub put_array-addresses-requires : goal.put_array-addresses-requires
put_array-addresses-requires c = let parts = length_parts (routine_at c.args.k) in let all = length_record (routine_at c.args.k) in (omega arith, omega arith, omega arith)

pub put_array-bodies-requires : goal.put_array-bodies-requires
put_array-bodies-requires c = let parts = length_parts (routine_at c.args.k) in let all = length_record (routine_at c.args.k) in (omega arith, omega arith, omega arith)

pub put_array-requires : goal.put_array-requires
put_array-requires c = let parts = length_parts (routine_at c.args.k) in let all = length_record (routine_at c.args.k) in (omega arith, omega arith, omega arith)

pub returns : goal.returns
unfolding record_of
returns c =
    let header = rw (c.blocks_of.ensures.0, c.edges_of.ensures.0) at c.put_header-starts.ensures.bytes in
    let starts = behind _ _ _ _ _ _ _ (c.put_header-starts.ensures.end ∙ sym (length_header _ _), header) c.put_array-marks.ensures.end c.put_array-marks.ensures.bytes in
    let marks = behind _ _ _ _ _ _ _ starts c.put_array-targets.ensures.end c.put_array-targets.ensures.bytes in
    let targets = behind _ _ _ _ _ _ _ marks c.put_array-kinds.ensures.end c.put_array-kinds.ensures.bytes in
    let kinds = behind _ _ _ _ _ _ _ targets c.put_array-addresses.ensures.end c.put_array-addresses.ensures.bytes in
    let addresses = behind _ _ _ _ _ _ _ kinds c.put_array-bodies.ensures.end c.put_array-bodies.ensures.bytes in
    (behind _ _ _ _ _ _ _ addresses c.put_array.ensures.end c.put_array.ensures.bytes).1
