-- What the checker promises: the number of the first question that a record gets a no to, or the first assumption that it breaks.
use Rattle.std.specs.Prelude.{ℕ, List, ◌≡◌, ⊤, Ok, Err, IfOk}
use Rattle.std.specs.declared.result.Result.{Result}
use Rattle.lists.specs.Question.{number}
use Rattle.record.specs.Header.{header_of}
use Rattle.record.specs.declared.header.Header.{Header}
use Rattle.record.specs.Asked.{first_no}
use Rattle.route.specs.Assumed.{Assumed}
use Rattle.checker.specs.Broken.{first_broken}
use Rattle.checker.specs.Number.{assumption_number, Unfollowed, Breaks, No}

-- the header of a record whose whole range is accepted by the questions before 12
pub record Accepted (h : Header) (s : List ℕ) : Type 0 where
  pub header : h ≡ header_of s
  pub yes : first_no s 0 (header_of s).blocks ≡ 0

-- the number of a refusal; 0 of a record that is checked
abbrev pub number_of : Result ⊤ Unfollowed → ℕ
number_of (Ok x) = 0
number_of (Err (Breaks a)) = 0
number_of (Err (No q)) = number q

-- the assumption that is broken; 0 with none and with a refusal
abbrev pub broken_of : Result ⊤ Unfollowed → ℕ
broken_of (Ok x) = 0
broken_of (Err (Breaks a)) = assumption_number a
broken_of (Err (No q)) = 0

-- the answer by both numbers: that of the first question that gets a no, and that of the first assumption that is broken
abbrev pub Checked : ℕ → ℕ → Result ⊤ Unfollowed → Type 0
Checked n b (Ok x) = (n ≡ 0) × (b ≡ 0)
Checked n b (Err (Breaks a)) = (n ≡ 0) × (b ≡ assumption_number a)
Checked n b (Err (No q)) = n ≡ number q

-- of a record's whole range
pub record Checks (s : List ℕ) (r : Result ⊤ Unfollowed) : Type 0 where
  pub answer : Checked (first_no s 0 (header_of s).blocks) (first_broken (header_of s) s) r
  -- where the answer is yes, the assumptions hold, and the listing may be followed
  pub assumed : IfOk r (λ x. Assumed (header_of s) s)
