-- What a call promises, demand by demand, of what its caller holds: the record's bytes, the lists before and after, the answer and its looks.
use Rattle.std.specs.Prelude.{ℕ, ◌≤◌, true, List, ◌≡◌, take}
use Rattle.tokens.specs.Token.{Token}
use Rattle.tokens.specs.Lines.{lines_in}
use Rattle.lists.specs.Question.{number_of}
use Rattle.rows.specs.Lists.{Lists, values_of}
use Rattle.rows.specs.Rows.{holds_rows}
use Rattle.std.specs.declared.result.Result.{Result}
use Rattle.lists.specs.declared.question.Question.{Question}
use Rattle.rows.specs.declared.answer.Sizes.{Sizes}
use Rattle.record.specs.Header.{header_of}
use Rattle.flow.specs.Planned.{record_plan}
use Rattle.line.specs.Shown.{ConditionsShown, CallsShown}
use Rattle.route.specs.Following.{stated_in}
use Rattle.route.specs.Assumed.{Assumed}
use Rattle.route.specs.Followed.{Followed}
use Rattle.pseudo.specs.Called.{Called, LooksCounted}
use Rattle.pseudo.specs.Demand.{LinesDemand3}
use Rattle.pseudo.specs.Loops.{LoopsClose}

-- the lines of tokens that the lists hold
abbrev pub held : Lists → Result Sizes Question → List (List Token)
held a r = lines_in a.text a.ends a.kinds a.lines (values_of r).lines

pub record Promise (s : List ℕ) (from to : ℕ) (b a : Lists) (r : Result Sizes Question) (looks : ℕ) : Type 0 where
  -- the number is that of the first question that gets a no, the sizes are the defined listing's, and each list begins with it and is
  -- unchanged past it
  pub called : Called s from to b a r
  -- "each call on arbitrary bytes finishes with a listing or with one of" the numbers, fifteen with #108
  pub number : number_of r ≤ 15
  -- "A number comes with all sizes zero, and every lent list is then unchanged."
  pub refused : (number_of r ≡ 0 → ⊥) → (values_of r ≡ record { text = 0; tokens = 0; lines = 0 }) × (a ≡ b)
  -- "The relation printed after CMP or TEST is proved against Intel's flag rules": of the tokens of every line that shows a condition
  pub relations : number_of r ≡ 0 → ConditionsShown (header_of s) s (record_plan (header_of s) s from to) (held a r)
  -- "and the argument registers against the two calling conventions": of the tokens of every line that ends in a call, by the lines before it
  pub arguments : number_of r ≡ 0 → (header_of s).bits ≡ 64 → CallsShown (header_of s) s (record_plan (header_of s) s from to) (held a r)
  -- #108: each while-line's instruction is a branch back to the do-line that it closes
  pub loops : number_of r ≡ 0
      → LoopsClose (header_of s) s 0 (record_plan (header_of s) s from to) (take (values_of r).lines a.addresses)
  -- demand 3, of the lines that the lists hold
  pub demand3 : number_of r ≡ 0
      → LinesDemand3 s from to (take (values_of r).lines a.addresses) (take (values_of r).lines a.marks) (take (values_of r).lines a.places)
      (take (values_of r).lines a.lines)
  -- #102: every listing can be written as rows, "lines of at least one token, no token empty, indents up to 254"
  pub rows : number_of r ≡ 0 → holds_rows a (values_of r).text (values_of r).tokens (values_of r).lines ≡ true
  -- #111: "The answer carries the count, equal to the definition's."
  pub looked : LooksCounted s from to r looks
  -- #109, of a whole record under its assumptions: "following braces and gotos must lead where the processor goes"
  pub followed : number_of r ≡ 0 → from ≡ 0 → to ≡ (header_of s).blocks → Assumed (header_of s) s → Followed (header_of s) s (stated_in a (values_of r).lines)
