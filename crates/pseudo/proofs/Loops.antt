-- Each while-line of a listing is written for a branch back to the address of the do-line that it closes (#108).
-- The plan's law of do-lines and while-lines, read with the lines' addresses: a do-line has its block's start, and a block that closes a
-- loop ends in a branch to it.
use mathlib.Core.Path.{◌≡◌, refl}
use mathlib.Core.List.{List, [], ◌∷◌, map}
use Prim.Native.Nat.{ℕ, ◌<◌}
use native.Mathlib.Omega.{arith}
use Rattle.record.specs.Header.{header_of}
use Rattle.record.specs.Layout.{starts_of, targets_of}
use Rattle.record.specs.Blocks.{start_at}
use Rattle.record.specs.Asked.{first_no}
use Rattle.record.specs.declared.header.Header.{Header}
use Rattle.record.proofs.AskedLaws.{yes_range}
use Rattle.structure.specs.Plan.{What, Line}
use Rattle.structure.specs.Plan.What.{label_line, do_line, open_line, if_goto, while_line, close_line, goto_line, tail_call, insn_line}
use Rattle.structure.proofs.LoopsClosed.{loop_then, LoopsBy, ClosesBy, loops_closed}
use Rattle.flow.specs.Rows.{block_rows, edge_rows, shown_rows}
use Rattle.flow.specs.Planned.{record_plan}
use Rattle.flow.proofs.Closing.{loop_closes}
use Rattle.pseudo.specs.Listed.{address_for, line_address, record_lists}
use Rattle.pseudo.specs.Loops.{BranchesTo, close_then, LoopsClose}

module _ (s : List ℕ) (from to : ℕ) (yes : first_no s from to ≡ 0) where
  abbrev h : Header
  h = header_of s

  abbrev Closes : ℕ → ℕ → ℕ → Type 0
  Closes i j at = ClosesBy (block_rows h s) (edge_rows h s) to i j at

  -- an address is the start of block i, if that lies before the range's end
  abbrev Starts : ℕ → ℕ → Type 0
  Starts i va = i < to → va ≡ start_at (starts_of h s) i

  closing_branches : (i va j at : ℕ) → Starts i va → Closes i j at → BranchesTo h s at va
  closing_branches i va j at e c =
      let b = loop_closes s from to yes i j c.0 c.1 (omega (arith, c.2, (yes_range s from to yes).1)) in
      rw (c.3, e (omega (arith, c.1, c.2))) (b.conditional, b.target)

  one_line : (w : What) (i va k at : ℕ) (R Q : ℕ → Type 0) → Starts i va → ((i va : ℕ) → Starts i va → R i → Q va)
      → loop_then Closes w i k at R → close_then h s w va (address_for h s w k at) at Q
  one_line do_line i va k at R Q e f p = f k (start_at (starts_of h s) k) (λ _. refl) p
  one_line while_line i va k at R Q e f p = (closing_branches i va k at e p.0, f i va e p.1)
  one_line label_line i va k at R Q e f p = f i va e p
  one_line open_line i va k at R Q e f p = f i va e p
  one_line if_goto i va k at R Q e f p = f i va e p
  one_line close_line i va k at R Q e f p = f i va e p
  one_line goto_line i va k at R Q e f p = f i va e p
  one_line tail_call i va k at R Q e f p = f i va e p
  one_line insn_line i va k at R Q e f p = f i va e p

  lines_close : (ls : List Line) (i va : ℕ) → Starts i va → LoopsBy Closes i ls → LoopsClose h s va ls (map (line_address h s) ls)
  lines_close [] i va e p = tt
  lines_close (l ∷ ls) i va e p =
      one_line l.what i va l.place l.at (λ i'. LoopsBy Closes i' ls) (λ va'. LoopsClose h s va' ls (map (line_address h s) ls)) e (lines_close ls) p

  -- no do-line stands at the range's end, so that none has been read before the first
  pub loops_close : LoopsClose h s 0 (record_plan h s from to) (record_lists h s from to).addresses
  unfolding record_plan
  loops_close =
      lines_close (record_plan h s from to) to 0 (λ l. absurd (omega arith))
      (loops_closed (block_rows h s) (edge_rows h s) (shown_rows h s) (starts_of h s) (targets_of h s) h.blocks from to h.indent to)
