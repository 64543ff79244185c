-- What a line's code tells: what the line is, its place, its instruction, its indent.
-- Each is a digit of the code, in bases 16 and 65536.
use Rattle.std.specs.Prelude.{◌≡◌, ℕ, ◌+◌, ◌*◌, ◌/◌, ◌%◌, ◌<◌}
use Rattle.std.proofs.Common.{arith}
use Rattle.structure.specs.Plan.{What, Line, what_number, code_of}
use Rattle.structure.specs.Plan.What.{label_line, do_line, open_line, if_goto, while_line, close_line, goto_line, tail_call, insn_line}

abbrev pub what_in : ℕ → ℕ
what_in code = code % 16

abbrev pub instruction_in : ℕ → ℕ
instruction_in code = code / 16 % 65536

abbrev pub place_in : ℕ → ℕ
place_in code = code / 1048576 % 65536

abbrev pub indent_in : ℕ → ℕ
indent_in code = code / 68719476736

what_small : (w : What) → what_number w < 16
what_small label_line = omega arith
what_small do_line = omega arith
what_small open_line = omega arith
what_small if_goto = omega arith
what_small while_line = omega arith
what_small close_line = omega arith
what_small goto_line = omega arith
what_small tail_call = omega arith
what_small insn_line = omega arith

module _ (w i k d : ℕ) (h : w < 16) (p : i < 65536) (q : k < 65536) where
  abbrev code : ℕ
  code = w + 16 * (i + 65536 * (k + 65536 * d))

  what_read : what_in code ≡ w
  what_read = omega arith

  instruction_read : instruction_in code ≡ i
  instruction_read = omega arith

  place_read : place_in code ≡ k
  place_read = omega arith

  indent_read : indent_in code ≡ d
  indent_read = omega arith

-- a code gives back the line
pub record Decoded (l : Line) : Type 0 where
  pub what_is : what_in (code_of l) ≡ what_number l.what
  pub instruction_is : instruction_in (code_of l) ≡ l.at
  pub place_is : place_in (code_of l) ≡ l.place
  pub indent_is : indent_in (code_of l) ≡ l.indent

pub decoded : (l : Line) → l.at < 65536 → l.place < 65536 → Decoded l
decoded l p q =
    let w = what_number l.what in
    let h = what_small l.what in
    record {
      what_is = what_read w l.at l.place l.indent h p q;
      instruction_is = instruction_read w l.at l.place l.indent h p q;
      place_is = place_read w l.at l.place l.indent h p q;
      indent_is = indent_read w l.at l.place l.indent h p q;
    }
