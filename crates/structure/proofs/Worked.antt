-- Worked examples: document 01's flow, a self-loop, a do-loop of two blocks, and one with an if and an else.
-- Each is computed.
use mathlib.Core.Path.{◌≡◌, refl}
use mathlib.Core.List.{List, [], ◌∷◌}
use Prim.Native.Nat.{ℕ}
use Rattle.cfg.specs.Graph.{closes_loop, has_edge, ending_in, single_entry, escapes, outside_jump}
use Rattle.record.specs.Search.{last_from}
use Rattle.cfg.specs.Shape.{shape_at, last_loop, region_at, opens_region}
use Rattle.structure.specs.Tree.{tree_of, tree_go}
use Rattle.structure.specs.Plan.{line, plan_of, range_lines, tree_lines, shown_lines, body_count, closing_lines, block_lines, loop_lines, flat_lines, test_block}
use Rattle.structure.specs.Plan.What.{label_line, do_line, open_line, if_goto, while_line, close_line, goto_line, insn_line}

-- an address below 256, in eight bytes
abbrev bytes : ℕ → List ℕ → List ℕ
bytes a r = a ∷ 0 ∷ 0 ∷ 0 ∷ 0 ∷ 0 ∷ 0 ∷ 0 ∷ r

-- test, jne over a block with mov, ret with a label wanted: the test is silent
example : plan_of
    (0 ∷ 2 ∷ 0 ∷ 2 ∷ 0 ∷ 2 ∷ 2 ∷ 0 ∷ 2 ∷ 1 ∷ 2 ∷ 1 ∷ 0 ∷ 0 ∷ 65535 ∷ 0 ∷ 3 ∷ 1 ∷ 3 ∷ 0 ∷ 1 ∷ 0 ∷ 65535 ∷ 0 ∷ [])
    (2 ∷ 1 ∷ 1 ∷ 2 ∷ 2 ∷ 3 ∷ []) (0 ∷ 0 ∷ 1 ∷ 1 ∷ [])
    (bytes 0 (bytes 4 (bytes 16 []))) (bytes 16 (bytes 4 (bytes 16 []))) 3 0 3 1
    ≡ line open_line 0 1 1 ∷ line insn_line 1 2 2 ∷ line close_line 0 0 1 ∷ line label_line 2 0 0 ∷ line insn_line 2 3 1 ∷ []
unfolding range_lines tree_lines tree_of tree_go shape_at last_loop last_from closes_loop has_edge ending_in region_at opens_region single_entry escapes outside_jump shown_lines body_count closing_lines block_lines loop_lines flat_lines test_block
example = refl

-- "(j) self-loop: if-goto, no do"
self_loop : plan_of
    (0 ∷ 2 ∷ 0 ∷ 2 ∷ 1 ∷ 2 ∷ 0 ∷ 0 ∷ 2 ∷ 1 ∷ 2 ∷ 0 ∷ 0 ∷ 0 ∷ 65535 ∷ 0 ∷ [])
    (0 ∷ 1 ∷ 1 ∷ 2 ∷ []) (1 ∷ 0 ∷ 1 ∷ []) (bytes 0 (bytes 4 [])) (bytes 0 (bytes 4 [])) 2 0 2 1
    ≡ line insn_line 0 0 1 ∷ line if_goto 0 1 1 ∷ line insn_line 1 2 1 ∷ []
unfolding range_lines tree_lines tree_of tree_go shape_at last_loop last_from closes_loop has_edge ending_in region_at opens_region single_entry escapes outside_jump shown_lines body_count closing_lines block_lines loop_lines flat_lines test_block
self_loop = refl

-- two blocks, the second with a True edge back to the first; both want a label, and the head gets none
do_loop : plan_of
    (0 ∷ 1 ∷ 0 ∷ 1 ∷ 1 ∷ 0 ∷ 65535 ∷ 0 ∷ 1 ∷ 2 ∷ 1 ∷ 2 ∷ 1 ∷ 2 ∷ 0 ∷ 0 ∷ 3 ∷ 1 ∷ 3 ∷ 0 ∷ 0 ∷ 0 ∷ 65535 ∷ 0 ∷ [])
    (1 ∷ 3 ∷ 0 ∷ 1 ∷ 2 ∷ 2 ∷ []) (1 ∷ 1 ∷ 0 ∷ 1 ∷ []) (bytes 0 (bytes 4 (bytes 16 []))) (bytes 4 (bytes 0 (bytes 16 []))) 3 0 3 1
    ≡ line do_line 0 0 1 ∷ line insn_line 0 0 2 ∷ line label_line 1 0 1 ∷ line insn_line 1 1 2 ∷ line while_line 1 2 1 ∷ line insn_line 2 3 1 ∷ []
unfolding range_lines tree_lines tree_of tree_go shape_at last_loop last_from closes_loop has_edge ending_in region_at opens_region single_entry escapes outside_jump shown_lines body_count closing_lines block_lines loop_lines flat_lines test_block
do_loop = refl

-- #101, "A driver's polling loop holds an if and an else.": the jump over the else part, instruction 3, is a goto; the other parts fall
else_part : plan_of
    (0 ∷ 2 ∷ 0 ∷ 2 ∷ 1 ∷ 2 ∷ 2 ∷ 0 ∷ 2 ∷ 2 ∷ 2 ∷ 1 ∷ 0 ∷ 3 ∷ 3 ∷ 0 ∷ 4 ∷ 1 ∷ 3 ∷ 1 ∷ 1 ∷ 0 ∷ 65535 ∷ 0
    ∷ 5 ∷ 2 ∷ 4 ∷ 2 ∷ 1 ∷ 2 ∷ 0 ∷ 0 ∷ 7 ∷ 1 ∷ 6 ∷ 0 ∷ 0 ∷ 0 ∷ 65535 ∷ 0 ∷ [])
    (2 ∷ 1 ∷ 1 ∷ 2 ∷ 3 ∷ 0 ∷ 3 ∷ 3 ∷ 0 ∷ 1 ∷ 4 ∷ 2 ∷ []) (0 ∷ 0 ∷ 1 ∷ 0 ∷ 1 ∷ 1 ∷ 0 ∷ 1 ∷ [])
    (bytes 0 (bytes 4 (bytes 11 (bytes 16 (bytes 20 []))))) (bytes 11 (bytes 4 (bytes 16 (bytes 16 (bytes 0 (bytes 20 [])))))) 5 0 5 1
    ≡ line do_line 0 0 1 ∷ line if_goto 0 1 2 ∷ line insn_line 1 2 2 ∷ line goto_line 1 3 2 ∷ line label_line 2 0 1 ∷ line insn_line 2 4 2
    ∷ line label_line 3 0 1 ∷ line insn_line 3 5 2 ∷ line while_line 3 6 1 ∷ line insn_line 4 7 1 ∷ []
unfolding range_lines tree_lines tree_of tree_go shape_at last_loop last_from closes_loop has_edge ending_in region_at opens_region single_entry escapes outside_jump shown_lines body_count closing_lines block_lines loop_lines flat_lines test_block
else_part = refl
