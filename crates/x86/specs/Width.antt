-- What the width of the code decides: "u16 bits (32 or 64)", and by #114 "Bits 16 becomes legal."
use Rattle.std.specs.Prelude.{ℕ, ◌/◌, ◌≡◌, refl, Bool, ◌&&◌, ◌||◌, [], ◌∷◌, map, eqb}
use Rattle.lists.specs.Choice.{pick}
use Rattle.x86.specs.Words.{words_of}
use Rattle.x86.specs.Registers.{word, dword, qword, esp, rsp, register_names, register_name}

-- the general register of index i that is as wide as the code
abbrev pub general_register : ℕ → ℕ → ℕ
general_register bits i = pick (eqb bits 64) (qword i) (pick (eqb bits 16) (word i) (dword i))

-- the register that a call leaves its value in: "the return register prints as `ax`"
abbrev pub return_register : ℕ → ℕ
return_register bits = general_register bits 0

-- the stack pointer that a shift puts in the place of the frame register: "a frame shift replaces the base by sp"
abbrev pub stack_pointer : ℕ → ℕ
stack_pointer bits = general_register bits 4

pub registers_by_width : map (λ (bits : ℕ). register_name (return_register bits) ∷ register_name (stack_pointer bits) ∷ []) (16 ∷ 32 ∷ 64 ∷ [])
    ≡ words_of "ax sp" ∷ words_of "eax esp" ∷ words_of "rax rsp" ∷ []
unfolding register_names register_name
registers_by_width = refl

-- esp and rsp count as stack pointers at every width, and with bits 16 "sp counts as a stack pointer wherever rsp and esp do"
unfoldable pub is_stack_pointer : ℕ → ℕ → Bool
is_stack_pointer bits r = eqb r esp || eqb r rsp || eqb r (stack_pointer bits)

-- a call's arguments are registers; otherwise they are pushes
abbrev pub passes_registers : ℕ → Bool
passes_registers bits = eqb bits 64

abbrev pub is_word : ℕ → Bool
is_word r = eqb (r / 16) 3

-- with bits 16 "displacements added to a word register are read as the signed low 16 bits": as base or as index
unfoldable pub adds_to_word : ℕ → ℕ → ℕ → Bool
adds_to_word bits base index = eqb bits 16 && (is_word base || is_word index)

-- how many low bits of a displacement count: in a stack slot, and in an address that is printed
abbrev pub slot_bits : ℕ → ℕ → ℕ → ℕ
slot_bits bits base index = pick (adds_to_word bits base index) 16 64

abbrev pub address_bits : ℕ → ℕ → ℕ → ℕ
address_bits bits base index = pick (adds_to_word bits base index) 16 (pick (eqb bits 64) 64 32)
