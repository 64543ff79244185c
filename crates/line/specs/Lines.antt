-- A planned line as its code tells it.
use Rattle.std.specs.Prelude.{◌≡◌, refl, List, [], ◌∷◌, map, ℕ, ◌≤◌, ◌<◌, get_or}
use Rattle.std.proofs.Common.{ap, ◌∙◌, arith}
use Rattle.structure.specs.Plan.{What, Line, line, what_number, code_of}
use Rattle.structure.specs.Plan.What.{label_line, do_line, open_line, if_goto, while_line, close_line, goto_line, tail_call, insn_line}
use Rattle.structure.specs.Placed.{Placed}
use Rattle.structure.specs.Reads.{what_in, instruction_in, place_in, indent_in, Decoded, decoded}

-- what a line is, by its number: 8, and any further one, an instruction
abbrev pub whats : List What
whats = label_line ∷ do_line ∷ open_line ∷ if_goto ∷ while_line ∷ close_line ∷ goto_line ∷ tail_call ∷ []

unfoldable pub what_at : ℕ → What
what_at n = get_or whats n insn_line

unfoldable pub line_in : ℕ → Line
line_in code = line (what_at (what_in code)) (place_in code) (instruction_in code) (indent_in code)

what_again : (w : What) → what_at (what_number w) ≡ w
unfolding what_at
what_again label_line = refl
what_again do_line = refl
what_again open_line = refl
what_again if_goto = refl
what_again while_line = refl
what_again close_line = refl
what_again goto_line = refl
what_again tail_call = refl
what_again insn_line = refl

-- a code gives back its line
pub line_again : (l : Line) → l.at < 65536 → l.place < 65536 → line_in (code_of l) ≡ l
unfolding line_in
line_again l p q =
    let t : Decoded l = decoded l p q in
    let w : what_at (what_in (code_of l)) ≡ l.what = ap what_at t.what_is ∙ what_again l.what in
    rw (w, t.place_is, t.instruction_is, t.indent_is)

-- the codes of a plan give back its lines
pub lines_again : (m n : ℕ) (ls : List Line) → m ≤ 65536 → n < 65536 → Placed m n ls → map line_in (map code_of ls) ≡ ls
lines_again m n [] a b p = refl
lines_again m n (l ∷ ls) a b p =
    let first : line_in (code_of l) ≡ l = line_again l (omega arith) (omega arith) in
    let rest : map line_in (map code_of ls) ≡ ls = lines_again m n ls a b p.2 in
    rw (first, rest)
