-- Document 01's example, followed: it meets every assumption, and both routes are the same.
-- All is computed from the definitions.
use Prim.Native.Nat.{ℕ}
use mathlib.Core.Bool.{true, false}
use mathlib.Core.List.{List, [], ◌∷◌, flatten, flat_map}
use mathlib.Core.Path.{◌≡◌, refl}
use Rattle.x86.specs.Mnemonics.{mov, ret, test}
use Rattle.x86.specs.Width.{is_stack_pointer}
use Rattle.record.specs.Header.{header_of}
use Rattle.line.specs.Cases.{bytes, slot, in_register, no_memory, insn, branch}
use Rattle.lists.specs.Ascii.{ascii}
use Rattle.tokens.specs.Listing.{text_of}
use Rattle.tokens.specs.Token.{token, keyword, punct, register, symbol}
use Rattle.route.specs.Statement.{final, if_states, statement_of}
use Rattle.route.specs.Following.{Stated, stated, skip, walk, follow, route}
use native.Mathlib.Omega.{arith}
use Rattle.route.specs.Trace.Stop.{returned}
use Rattle.route.specs.Trace.Trace.{met, stop}
use Rattle.route.specs.Processor.{run}
use Rattle.route.specs.Processor.Spot.{before}
use Rattle.route.specs.Assumed.{Assumed, turns_last, lasts_unmarked, sets_no_branch, starts_unnamed, jumps_led, others_led, branches_inside, gotos_labelled, all_labelled, label_stands, count_of, lead_to}
use Rattle.route.specs.Processor.{edge_of, edge_from, context_of}
use Rattle.record.specs.Blocks.{first_instruction, first_edge}
use Rattle.record.specs.Search.{find_from, last_from}
use Rattle.operand.specs.Names.{entry_at}
use Rattle.cfg.specs.Graph.{ending_in, has_edge, closes_loop, single_entry, outside_jump, escapes}
use Rattle.cfg.specs.Shape.{last_loop, opens_region, region_at, shape_at}
use Rattle.structure.specs.Tree.{tree_go, tree_of}
use Rattle.structure.specs.Plan.{shown_lines, body_count, closing_lines, block_lines, tree_lines, range_lines}
use Rattle.structure.specs.Demand.{contexts}
use Rattle.flow.specs.Silent.{is_prologue_noise, is_silent_itself, ending_of}
use Rattle.flow.specs.SilentList.{is_silent}
use Rattle.flow.specs.Rows.{rows_from, place_of, block_ending, block_branch, block_row, block_rows, edge_row, edge_rows, shown_row, shown_rows}
use Rattle.flow.specs.Planned.{record_plan}

-- "1000 test eax,eax, 1002 jne 1010, edges True 1010, False 1004; 1004 mov eax,5 (kind 5), Fall 1010; 1010 ret, label wanted"
abbrev example : List ℕ
example =
    flatten
    (flat_map (bytes 2) (64 ∷ 1 ∷ 3 ∷ 4 ∷ 3 ∷ 0 ∷ 0 ∷ 0 ∷ [])
    ∷ (0 ∷ 0 ∷ 0 ∷ 0 ∷ 0 ∷ 1 ∷ 0 ∷ 0 ∷ [])
    ∷ flat_map (bytes 8) (0x1000 ∷ 0x1004 ∷ 0x1010 ∷ [])
    ∷ (2 ∷ 0 ∷ 2 ∷ 0 ∷ 1 ∷ 0 ∷ 1 ∷ 0 ∷ 1 ∷ 0 ∷ 0 ∷ 1 ∷ [])
    ∷ flat_map (bytes 8) (0x1010 ∷ 0x1004 ∷ 0x1010 ∷ [])
    ∷ (1 ∷ 2 ∷ 3 ∷ [])
    ∷ flat_map (bytes 8) (0x1000 ∷ 0x1002 ∷ 0x1004 ∷ 0x1010 ∷ [])
    ∷ insn test no_memory (in_register 0x40 ∷ in_register 0x40 ∷ [])
    ∷ branch "jne" 6 0x1010
    ∷ insn mov no_memory (in_register 0x40 ∷ slot 5 0 5 ∷ [])
    ∷ insn ret no_memory []
    ∷ [])

-- what the processor meets: taken, the branch leads to the ret; not taken, over the mov
processor_taken : run (header_of example) example 20 9 (true ∷ []) (before 0) ≡ met 0 0x1002 (met 2 0x1010 (stop returned))
unfolding run edge_of edge_from context_of header_of first_instruction first_edge find_from last_from ending_in has_edge closes_loop single_entry outside_jump escapes last_loop opens_region region_at shape_at tree_go tree_of contexts is_prologue_noise is_silent_itself ending_of is_silent rows_from place_of block_ending block_branch block_row block_rows edge_row edge_rows flatten flat_map
processor_taken = refl

processor_falls : run (header_of example) example 20 9 (false ∷ []) (before 0) ≡ met 0 0x1002 (met 1 0x1004 (met 2 0x1010 (stop returned)))
unfolding run edge_of edge_from context_of header_of first_instruction first_edge find_from last_from ending_in has_edge closes_loop single_entry outside_jump escapes last_loop opens_region region_at shape_at tree_go tree_of contexts is_prologue_noise is_silent_itself ending_of is_silent rows_from place_of block_ending block_branch block_row block_rows edge_row edge_rows flatten flat_map is_stack_pointer
processor_falls = refl

-- the lines of its listing, as document 01 prints them, with their places and addresses
abbrev lines : List Stated
lines =
    stated
    ((keyword "if" ∷ punct " (" ∷ register "eax" ∷ punct " == " ∷ token 2 (ascii "0") ∷ punct ") {" ∷ [])
    ∷ (register "eax" ∷ punct " = " ∷ token 2 (ascii "5") ∷ punct ";" ∷ [])
    ∷ (punct "}" ∷ [])
    ∷ (symbol "loc_1010" ∷ punct ":" ∷ [])
    ∷ (keyword "return" ∷ punct ";" ∷ [])
    ∷ [])
    (0 ∷ 1 ∷ 0 ∷ 2 ∷ 2 ∷ []) (0x1002 ∷ 0x1004 ∷ 0 ∷ 0x1010 ∷ 0x1010 ∷ [])

listing_taken : route 9 (true ∷ []) lines ≡ met 0 0x1002 (met 2 0x1010 (stop returned))
unfolding statement_of final if_states text_of stated follow walk skip
listing_taken = refl

listing_enters : route 9 (false ∷ []) lines ≡ met 0 0x1002 (met 1 0x1004 (met 2 0x1010 (stop returned)))
unfolding statement_of final if_states text_of stated follow walk skip
listing_enters = refl

-- it meets all that is assumed
meets : Assumed (header_of example) example
unfolding turns_last lasts_unmarked sets_no_branch starts_unnamed jumps_led others_led branches_inside gotos_labelled all_labelled label_stands count_of lead_to entry_at record_plan range_lines tree_lines block_lines closing_lines body_count shown_lines shown_row shown_rows is_stack_pointer run edge_of edge_from context_of header_of first_instruction first_edge find_from last_from ending_in has_edge closes_loop single_entry outside_jump escapes last_loop opens_region region_at shape_at tree_go tree_of contexts is_prologue_noise is_silent_itself ending_of is_silent rows_from place_of block_ending block_branch block_row block_rows edge_row edge_rows flatten flat_map
meets = record { some = omega arith; turns_last_lem = refl; lasts_unmarked_lem = refl; sets_no_branch_lem = refl; starts_unnamed_lem = refl; jumps_led_lem = refl; others_led_lem = refl; branches_inside_lem = refl; gotos_labelled_lem = refl }
