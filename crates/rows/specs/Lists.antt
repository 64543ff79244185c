-- The seven lists of a listing as one thing: lent, left, or made; how much they have; questions 12 to 14; and what a call that fills them
-- answers and leaves.
use Rattle.std.specs.Prelude.{ℕ, zero, suc, ◌&&◌, List, ◌++◌, ◌≡◌, ◌<◌, ◌^◌, leb, length, take, drop, get_or}
use Rattle.lists.specs.Choice.{ask}
use Rattle.lists.specs.Put.{put}
use Rattle.rows.specs.declared.answer.Sizes.{Sizes}
use Rattle.rows.specs.declared.answer.Rooms.{Rooms}
use Rattle.std.specs.Prelude.{Ok, Err}
use Rattle.std.specs.declared.result.Result.{Result}
use Rattle.lists.specs.declared.question.Question.{Question}
use Rattle.lists.specs.Question.{Answers}

-- "Lists filled: text; token ends (u32) beside kinds ..; line addresses .. beside u16 marks .. and u32 token ends."
-- #107, of the places: "It is a further u16 list beside the line marks."
pub record Lists : Type 0 where
  pub text : List ℕ
  pub ends : List ℕ
  pub kinds : List ℕ
  pub addresses : List ℕ
  pub marks : List ℕ
  pub places : List ℕ
  pub lines : List ℕ

abbrev pub lists_of : (text ends kinds addresses marks places lines : List ℕ) → Lists
lists_of x e k a m p l = record { text = x; ends = e; kinds = k; addresses = a; marks = m; places = p; lines = l }

-- what the types of the lists say of their numbers
pub record NumbersFit (l : Lists) : Type 0 where
  pub ends : (i : ℕ) → get_or l.ends i 0 < 2 ^ 32
  pub addresses : (i : ℕ) → get_or l.addresses i 0 < 2 ^ 64
  pub places : (i : ℕ) → get_or l.places i 0 < 65536
  pub lines : (i : ℕ) → get_or l.lines i 0 < 2 ^ 32

-- "A number comes with all sizes zero"
abbrev pub values_of : Result Sizes Question → Sizes
values_of (Ok z) = z
values_of (Err q) = record { text = 0; tokens = 0; lines = 0 }

-- "12. Text list long enough? 13. Token lists? 14. Line lists?"; #107: "14 covers the added list."
unfoldable pub room_no : Sizes → Rooms → ℕ
room_no z r =
    ask 12 (leb z.text r.text)
    (ask 13 (leb z.tokens r.ends && leb z.tokens r.kinds)
    (ask 14 (leb z.lines r.addresses && leb z.lines r.marks && leb z.lines r.places && leb z.lines r.lines)
    0))

-- a list whose first entries are new: "Entries past the sizes are unchanged."
abbrev pub over : List ℕ → List ℕ → List ℕ
over new old = new ++ drop (length new) old

-- with a number the list is as it was
abbrev pub left : ℕ → List ℕ → List ℕ → List ℕ
left zero new old = over new old
left (suc n) new old = old

-- how much lists have
abbrev pub sizes_of : Lists → Sizes
sizes_of l = record { text = length l.text; tokens = length l.ends; lines = length l.addresses }

-- how much room there is in lists
abbrev pub rooms_of : Lists → Rooms
rooms_of l = record {
  text = length l.text;
  ends = length l.ends;
  kinds = length l.kinds;
  addresses = length l.addresses;
  marks = length l.marks;
  places = length l.places;
  lines = length l.lines;
}

-- the first entries of lists, by the sizes
abbrev pub cut : Lists → Sizes → Lists
cut l z =
    lists_of (take z.text l.text) (take z.tokens l.ends) (take z.tokens l.kinds)
    (take z.lines l.addresses) (take z.lines l.marks) (take z.lines l.places) (take z.lines l.lines)

-- what is stored from the start of the lists on, as far as they go
pub record Stands (new b a : Lists) : Type 0 where
  pub text : a.text ≡ put 0 new.text b.text
  pub ends : a.ends ≡ put 0 new.ends b.ends
  pub kinds : a.kinds ≡ put 0 new.kinds b.kinds
  pub addresses : a.addresses ≡ put 0 new.addresses b.addresses
  pub marks : a.marks ≡ put 0 new.marks b.marks
  pub places : a.places ≡ put 0 new.places b.places
  pub lines : a.lines ≡ put 0 new.lines b.lines

-- What a call that answers number n leaves, of the lists before (b) and after (a): with a number every list is unchanged, else each holds
-- its part of the new ones, and what lay past it.
pub record Leaves (n : ℕ) (new b a : Lists) (r : Result Sizes Question) : Type 0 where
  -- "A listing's answer is 0 and the sizes: text bytes, tokens, lines."
  pub answer : Answers n (sizes_of new) r
  pub text : a.text ≡ left n new.text b.text
  pub ends : a.ends ≡ left n new.ends b.ends
  pub kinds : a.kinds ≡ left n new.kinds b.kinds
  pub addresses : a.addresses ≡ left n new.addresses b.addresses
  pub marks : a.marks ≡ left n new.marks b.marks
  pub places : a.places ≡ left n new.places b.places
  pub lines : a.lines ≡ left n new.lines b.lines
