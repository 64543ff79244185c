-- Every routine's record is accepted for its whole range, and none is longer than 405 bytes.
-- One test, computed along the list of all; past it stands the routine without blocks, whose record passes too.
use mathlib.Core.Path.{◌≡◌}
use mathlib.Core.Bool.{Bool, ◌&&◌}
use mathlib.Core.List.{List, []}
use Prim.Native.Nat.{ℕ, ◌≤◌}
use lib.Dec.{T, eqb, leb, eqb→eq, leb→le}
use lib.ListN.{length}
use Rattle.lists.specs.Every.{every, every_at, both_left, both_right}
use Rattle.lists.specs.Little.{little}
use Rattle.x86.specs.Registers.{register_exists}
use Rattle.record.specs.Header.{header_of}
use Rattle.record.specs.Atlas.{text_start, text_ok, entries_ok, texts_ok, atlas_ok, spans_ok}
use Rattle.record.specs.Blocks.{first_instruction, first_edge, marks_ok, differ, start_is_new, starts_differ, edge_kinds_ok}
use Rattle.record.specs.Body.{operand_ok, fixed_ok, is_name, is_zeros, operands_ok, body_ok, bodies_ok}
use Rattle.record.specs.Branches.{true_count, true_lead, branch_agrees, branch_ok, branches_ok}
use Rattle.record.specs.Asked.{first_no, sizes_no, blocks_no, contents_no, range_no, marks_asked, starts_asked, edge_kinds_asked, bodies_asked, branches_asked, atlas_asked, spans_asked}
use Rattle.routines.specs.Numbered.{routines, routine_at}
use Rattle.routines.specs.Written.{record_of}
use Rattle.routines.specs.declared.ending.Ending.{Ending}

-- the first no of a routine's record
abbrev no_of : List Ending → ℕ
no_of r = first_no (record_of r) 0 (header_of (record_of r)).blocks

abbrev passes : List Ending → Bool
passes r = eqb (no_of r) 0 && leb (length (record_of r)) 405

all_pass : T (every passes routines) × T (passes [])
unfolding little register_exists header_of text_start text_ok entries_ok texts_ok atlas_ok spans_ok first_instruction first_edge marks_ok differ start_is_new starts_differ edge_kinds_ok operand_ok fixed_ok is_name is_zeros operands_ok body_ok bodies_ok true_count true_lead branch_agrees branch_ok branches_ok first_no sizes_no blocks_no contents_no range_no marks_asked starts_asked edge_kinds_asked bodies_asked branches_asked atlas_asked spans_asked routines record_of
all_pass = (tt, tt)

module _ (k : ℕ) where
  pass : T (passes (routine_at k))
  unfolding routine_at
  pass = every_at passes [] all_pass.1 routines k all_pass.0

  pub accepted : no_of (routine_at k) ≡ 0
  accepted = eqb→eq (no_of (routine_at k)) 0 (both_left (eqb (no_of (routine_at k)) 0) (leb (length (record_of (routine_at k))) 405) pass)

  pub short : length (record_of (routine_at k)) ≤ 405
  short = leb→le (length (record_of (routine_at k))) 405 (both_right (eqb (no_of (routine_at k)) 0) (leb (length (record_of (routine_at k))) 405) pass)
