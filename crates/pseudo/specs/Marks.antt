-- What the writer of marks asks of a plan's codes: that indents fit beside 256 in a mark, as question 3 sees to.
use Rattle.std.specs.Prelude.{ℕ, ◌<◌, List, length, get_or}
use Rattle.structure.specs.Reads.{indent_in}

abbrev pub Indented : List ℕ → Type 0
Indented codes = (i : ℕ) → i < length codes → indent_in (get_or codes i 0) < 256
