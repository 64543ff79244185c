-- The plan of a range of a record's blocks, and demand 3 in the record's terms.
use Rattle.std.specs.Prelude.{ℕ, List, map}
use Rattle.record.specs.declared.header.Header.{Header}
use Rattle.record.specs.Layout.{starts_of, targets_of}
use Rattle.structure.specs.Plan.{Line, code_of, plan_of}
use Rattle.structure.specs.Looks.{range_looks}
use Rattle.structure.specs.Demand.{Demand3}
use Rattle.flow.specs.Rows.{block_rows, edge_rows, shown_rows}

module _ (h : Header) (s : List ℕ) (from to : ℕ) where
  unfoldable pub record_plan : List Line
  record_plan = plan_of (block_rows h s) (edge_rows h s) (shown_rows h s) (starts_of h s) (targets_of h s) h.blocks from to h.indent

  -- how many edges are read to plan the range (#111)
  unfoldable pub record_looks : ℕ
  record_looks = range_looks (block_rows h s) (edge_rows h s) (starts_of h s) (targets_of h s) h.blocks from from to

  abbrev pub record_codes : List ℕ
  record_codes = map code_of record_plan

  -- demand 3 of the record's plan
  abbrev pub RecordDemand3 : Type 0
  RecordDemand3 = Demand3 (block_rows h s) (edge_rows h s) (shown_rows h s) (starts_of h s) (targets_of h s) h.blocks from to h.indent
