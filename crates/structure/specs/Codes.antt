-- A line as one number, the numbers of lines, and the parts of a plan that one writer each stores.
use Rattle.std.specs.Prelude.{List, [], ◌∷◌, ◌++◌, map, ℕ, ◌+◌, ◌-◌, ◌*◌}
use Rattle.lists.specs.Choice.{pick}
use Rattle.cfg.specs.Graph.{last_in, is_shown}
use Rattle.structure.specs.Plan.{Line, line, code_of, label_if, labelled, body_lines, flat_lines, test_block}
use Rattle.structure.specs.Plan.What.{open_line, insn_line}

abbrev pub line_code : ℕ → ℕ → ℕ → ℕ → ℕ
line_code what place at indent = what + 16 * (at + 65536 * (place + 65536 * indent))

abbrev pub codes : List Line → List ℕ
codes ls = map code_of ls

-- one instruction's line, or none
abbrev pub shown_line : List ℕ → ℕ → ℕ → ℕ → List Line
shown_line shown k i d = pick (is_shown shown i) (line insn_line k i d ∷ []) []

-- the block of an if-region, with its opening line
abbrev pub head_lines : List ℕ → List ℕ → List ℕ → ℕ → ℕ → ℕ → ℕ → ℕ → List Line
head_lines blocks edges shown B from i to d =
    label_if (labelled blocks edges B from i to) i d ++ (body_lines blocks shown i d ++ (line open_line i (last_in blocks i) d ∷ []))

-- the body of a do-loop, with its while-line
abbrev pub do_lines : List ℕ → List ℕ → ℕ → ℕ → ℕ → List Line
do_lines blocks shown i j d = flat_lines blocks shown i j i (j - i) (d + 1) ++ test_block blocks shown j d
