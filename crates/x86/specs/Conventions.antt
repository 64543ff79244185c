-- The registers that hold a call's first integer arguments, and how many of them a call prints.
use Rattle.std.specs.Prelude.{ℕ, suc, ◌+◌, ◌-◌, ◌*◌, ◌/◌, ◌%◌, ◌^◌, Bool, true, false, ◌&&◌, ◌||◌, List, [], ◌∷◌, map, ◌≡◌, refl, eqb, leb, ltb, get_or}
use Rattle.std.specs.Int.Bits.{bit_or}
use Rattle.lists.specs.Choice.{pick}
use Rattle.x86.specs.Registers.{qword, register_names, register_name}
use Rattle.x86.specs.Words.{words_of}

-- Microsoft x64, by name and by number
abbrev pub microsoft_names : List (List ℕ)
microsoft_names = words_of "rcx rdx r8 r9"

abbrev pub microsoft : List ℕ
microsoft = qword 1 ∷ qword 2 ∷ qword 8 ∷ qword 9 ∷ []

-- System V AMD64
abbrev pub system_v_names : List (List ℕ)
system_v_names = words_of "rdi rsi rdx rcx r8 r9"

abbrev pub system_v : List ℕ
system_v = qword 7 ∷ qword 6 ∷ qword 2 ∷ qword 1 ∷ qword 8 ∷ qword 9 ∷ []

-- "convention (0 Microsoft x64, 1 System V)"
abbrev pub argument_names : ℕ → List (List ℕ)
argument_names convention = pick (eqb convention 0) microsoft_names system_v_names

unfoldable pub argument_registers : ℕ → List ℕ
argument_registers convention = pick (eqb convention 0) microsoft system_v

-- the numbers are those of the names
pub arguments_named : (convention : ℕ) → map register_name (argument_registers convention) ≡ argument_names convention
unfolding argument_registers register_name register_names
arguments_named convention = go (eqb convention 0)
  where
    go : (b : Bool) → map register_name (pick b microsoft system_v) ≡ pick b microsoft_names system_v_names
    go true = refl
    go false = refl

-- the register of argument k, none past the last
unfoldable pub argument_register : ℕ → ℕ → ℕ
argument_register convention k = get_or (argument_registers convention) k 0

-- a mask has bit i for the qword register of index i
unfoldable pub written : ℕ → ℕ → Bool
written mask r = eqb (mask / 2 ^ (r - 80) % 2) 1

abbrev pub any_written : ℕ → List ℕ → Bool
any_written mask [] = false
any_written mask (r ∷ rs) = written mask r || any_written mask rs

-- "Arguments run up to the last convention register written": none where none of them is written
abbrev pub up_to_last : ℕ → List ℕ → ℕ
up_to_last mask [] = 0
up_to_last mask (r ∷ rs) = pick (any_written mask (r ∷ rs)) (suc (up_to_last mask rs)) 0

unfoldable pub argument_count : ℕ → ℕ → ℕ
argument_count convention mask = up_to_last mask (argument_registers convention)

-- "Convention positions written are packed as a mask": bit k for register k of the list
abbrev pub positions : ℕ → List ℕ → ℕ
positions mask [] = 0
positions mask (r ∷ rs) = mask / 2 ^ (r - 80) % 2 + 2 * positions mask rs

-- "A u16 mask gains a bit by shift when a full register is written"; one that is no qword register adds nothing
unfoldable pub with_written : ℕ → ℕ → ℕ
with_written mask full = pick (leb 80 full && ltb full 96) (bit_or mask (2 ^ (full - 80))) mask
