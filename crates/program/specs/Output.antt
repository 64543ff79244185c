-- What a program that reads a record prints: "takes the whole range, and prints `no` and the number, or the lines below".
use Rattle.std.specs.Prelude.{ℕ, ◌≤◌, ◌<◌, List, ◌≡◌, length, take}
use Rattle.rows.specs.Lists.{Lists}
use Rattle.rows.specs.declared.answer.Rooms.{Rooms}
use Rattle.record.specs.Header.{header_of}
use Rattle.pseudo.specs.Listed.{record_lists}
use Rattle.pseudo.specs.Called.{call_no}
use Rattle.page.specs.Page.{refusal, output_for}

-- "A listing over 65,536 text bytes is `no 12`, over 16,384 tokens `no 13`; 900 lines always suffice."
abbrev pub program_rooms : Rooms
program_rooms = record { text = 65536; ends = 16384; kinds = 16384; addresses = 900; marks = 900; places = 900; lines = 900 }

module _ (s : List ℕ) where
  -- "the whole range": from 0 to the header's count of blocks
  abbrev pub blocks : ℕ
  blocks = (header_of s).blocks

  -- the number of the first question that gets a no, with the program's lists
  abbrev pub program_no : ℕ
  program_no = call_no s 0 blocks program_rooms

  -- the listing
  abbrev pub whole_lists : Lists
  whole_lists = record_lists (header_of s) s 0 blocks

module _ (shown : Lists → List ℕ) where
  unfoldable pub output_text : List ℕ → List ℕ
  output_text s = output_for (program_no s) (shown (whole_lists s))

  -- What a program promises of the bytes that it prints for an input, by what it shows of a listing.
  pub record Prints (s out : List ℕ) : Type 0 where
    -- "takes the whole range, and prints `no` and the number, or the lines below"
    pub text : out ≡ output_text s
    -- "Longer input is judged by its first 65,537 bytes, so 4 refuses it at the latest."
    pub judged : (n : ℕ) → 65537 ≤ n → out ≡ output_text (take n s)
    pub refused : 65536 < length s → (k : ℕ) × ((1 ≤ k) × (k ≤ 4) × (out ≡ refusal k))
    -- "900 lines always suffice."
    pub suffices : out ≡ refusal 14 → ⊥
