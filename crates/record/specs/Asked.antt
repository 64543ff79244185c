-- The questions 1 to 11 and 15 in their order, and the first that gets a no.
use Rattle.std.specs.Prelude.{ℕ, zero, suc, List, Bool, ◌&&◌, leb}
use Rattle.std.specs.declared.result.Result.{Result}
use Rattle.lists.specs.Choice.{ask}
use Rattle.lists.specs.Question.{Answers}
use Rattle.lists.specs.declared.question.Question.{Question}
use Rattle.x86.specs.Registers.{register_exists}
use Rattle.record.specs.Header.{header_of, header_fits, fields_ok, limits_ok}
use Rattle.record.specs.Layout.{length_ok, starts_of, marks_of, targets_of, edge_kinds_of, bodies_of, entries_of, pairs_of, spans_of, texts_of}
use Rattle.record.specs.Blocks.{marks_ok, starts_differ, edge_kinds_ok}
use Rattle.record.specs.Body.{bodies_ok}
use Rattle.record.specs.Branches.{branches_ok}
use Rattle.record.specs.Atlas.{atlas_ok, spans_ok}
use Rattle.record.specs.declared.header.Header.{Header}

-- a stage's number, or where it has none what the later stages say
abbrev pub or_else : ℕ → ℕ → ℕ
or_else zero later = later
or_else (suc n) later = suc n

-- questions 1 to 4, of the bytes alone
unfoldable pub sizes_no : List ℕ → ℕ
sizes_no s =
    ask 1 (header_fits s)
    (ask 2 (fields_ok (header_of s))
    (ask 3 (limits_ok (header_of s))
    (ask 4 (length_ok (header_of s) s)
    0)))

-- Questions 5 to 10 and 15 of a record that has this header.
module _ (h : Header) (s : List ℕ) where
  -- "5. Instruction counts total I, edge counts E, label marks 0 or 1?"
  unfoldable pub marks_asked : Bool
  marks_asked = marks_ok (marks_of h s) h.blocks h.instructions h.edges

  -- "6. Block starts all different?"
  unfoldable pub starts_asked : Bool
  starts_asked = starts_differ (starts_of h s) h.blocks

  -- "7. Edge kinds 0 to 4?"
  unfoldable pub edge_kinds_asked : Bool
  edge_kinds_asked = edge_kinds_ok (edge_kinds_of h s) h.edges

  -- "8. Mnemonics 0 to 45; .. registers (frame too, and operands of every kind) exist; .. ?"
  unfoldable pub bodies_asked : Bool
  bodies_asked = register_exists h.frame && bodies_ok (bodies_of h s) h.instructions

  -- #108: "15 if a block breaks that rule, asked directly after 8 and before 9"
  unfoldable pub branches_asked : Bool
  branches_asked = branches_ok (targets_of h s) (edge_kinds_of h s) (marks_of h s) (bodies_of h s) h.blocks

  -- "9. Atlas addresses strictly rising, kinds 1 to 3, lengths total T, .. ?"
  unfoldable pub atlas_asked : Bool
  atlas_asked = atlas_ok (entries_of h s) (pairs_of h s) (texts_of h s) h.atlas h.text

  -- "10. Each span's first ≤ last?"
  unfoldable pub spans_asked : Bool
  spans_asked = spans_ok (spans_of h s) h.spans

  unfoldable pub blocks_no : ℕ
  blocks_no = ask 5 marks_asked (ask 6 starts_asked (ask 7 edge_kinds_asked 0))

  unfoldable pub contents_no : ℕ
  contents_no = ask 8 bodies_asked (ask 15 branches_asked (ask 9 atlas_asked (ask 10 spans_asked 0)))

-- "11. from ≤ to ≤ B?"
unfoldable pub range_no : Header → ℕ → ℕ → ℕ
range_no h from to = ask 11 (leb from to && leb to h.blocks) 0

unfoldable pub first_no : List ℕ → ℕ → ℕ → ℕ
first_no s from to =
    or_else (sizes_no s)
    (or_else (blocks_no (header_of s) s)
    (or_else (contents_no (header_of s) s)
    (range_no (header_of s) from to)))

-- What `record` answers: the first question that gets a no, or the record's header.
abbrev pub Answered : List ℕ → ℕ → ℕ → Result Header Question → Type 0
Answered s from to r = Answers (first_no s from to) (header_of s) r
