-- The call: its number, what it leaves in the seven lists, and its looks.
use Rattle.std.specs.Prelude.{ℕ, ◌-◌, ◌*◌, ◌≤◌, List, ◌≡◌}
use Rattle.rows.specs.Lists.{Lists, room_no, sizes_of, rooms_of, Leaves}
use Rattle.rows.specs.declared.answer.Sizes.{Sizes}
use Rattle.rows.specs.declared.answer.Rooms.{Rooms}
use Rattle.std.specs.declared.result.Result.{Result}
use Rattle.lists.specs.declared.question.Question.{Question}
use Rattle.std.specs.Prelude.{Ok, Err}
use Rattle.record.specs.Header.{header_of}
use Rattle.record.specs.Asked.{or_else, first_no}
use Rattle.record.specs.declared.header.Header.{Header}
use Rattle.structure.specs.Plan.{Line}
use Rattle.flow.specs.Planned.{record_looks}
use Rattle.pseudo.specs.Listed.{plan_lists, record_lists}

-- the listing of a plan's lines, in a range whose first instruction is `range`
abbrev pub PlanListed : Header → List ℕ → ℕ → List Line → (b a : Lists) → Result Sizes Question → Type 0
PlanListed h s range p b a r = Leaves (room_no (sizes_of (plan_lists h s range p)) (rooms_of b)) (plan_lists h s range p) b a r

-- the questions before 12 all got a yes, of a record that has this header
pub record Accepted (s : List ℕ) (from to : ℕ) (h : Header) : Type 0 where
  pub header : h ≡ header_of s
  pub yes : first_no s from to ≡ 0

-- #111: with the looks that are made for a listing, those that an answer carries: "A refusal reports 0."
abbrev pub looks_of : {E : Type 0} → ℕ → Result Sizes E → ℕ
looks_of n (Ok z) = n
looks_of n (Err e) = 0

module _ (s : List ℕ) (from to : ℕ) where
  abbrev pub sizes : Sizes
  sizes = sizes_of (record_lists (header_of s) s from to)

  -- the number of the first question that gets a no, of 1 to 15
  unfoldable pub call_no : Rooms → ℕ
  call_no r = or_else (first_no s from to) (room_no sizes r)

  -- The call's promise: the number of the first question that gets a no, with every list as it was, or the listing.
  abbrev pub Called : (b a : Lists) → Result Sizes Question → Type 0
  Called b a r = Leaves (call_no (rooms_of b)) (record_lists (header_of s) s from to) b a r

  -- #111, of an answer and its looks
  pub record LooksCounted (r : Result Sizes Question) (looks : ℕ) : Type 0 where
    -- "The answer carries the count, equal to the definition's."
    pub counted : looks ≡ looks_of (record_looks (header_of s) s from to) r
    -- "For E edges in the record and B blocks in the range it is at most 5 × B × E."
    pub few : looks ≤ 5 * (to - from) * (header_of s).edges
