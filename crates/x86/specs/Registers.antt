-- "Registers: 0 none, else class × 16 + index: 1 byte low, 2 byte high (0 to 3), 3 word, 4 dword, 5 qword, all in
-- ax cx dx bx sp bp si di r8 to r15 order; 6 eip rip; 7 es cs ss ds fs gs; 8 xmm, 9 ymm."
use Rattle.std.specs.Prelude.{ℕ, ◌+◌, ◌/◌, ◌%◌, ◌≡◌, refl, Bool, ◌&&◌, ◌||◌, List, [], ◌∷◌, map, eqb, leb, ltb, get_or, length}
use Rattle.lists.specs.Ascii.{ascii}
use Rattle.lists.specs.Choice.{pick}
use Rattle.x86.specs.Words.{words_of, is_one_of}

abbrev pub class_sizes : List ℕ
class_sizes = 0 ∷ 16 ∷ 4 ∷ 16 ∷ 16 ∷ 16 ∷ 2 ∷ 6 ∷ 16 ∷ 16 ∷ []

-- how many registers a class has
abbrev pub class_size : ℕ → ℕ
class_size c = get_or class_sizes c 0

-- "registers .. exist" of question 8
unfoldable pub register_exists : ℕ → Bool
register_exists r = eqb r 0 || ltb (r % 16) (class_size (r / 16))

-- "Names are lower case as the decoder spells them (r8l, not r8b)": by class
unfoldable pub register_names : List (List (List ℕ))
register_names =
    []
    ∷ words_of "al cl dl bl spl bpl sil dil r8l r9l r10l r11l r12l r13l r14l r15l"
    ∷ words_of "ah ch dh bh"
    ∷ words_of "ax cx dx bx sp bp si di r8w r9w r10w r11w r12w r13w r14w r15w"
    ∷ words_of "eax ecx edx ebx esp ebp esi edi r8d r9d r10d r11d r12d r13d r14d r15d"
    ∷ words_of "rax rcx rdx rbx rsp rbp rsi rdi r8 r9 r10 r11 r12 r13 r14 r15"
    ∷ words_of "eip rip"
    ∷ words_of "es cs ss ds fs gs"
    ∷ words_of "xmm0 xmm1 xmm2 xmm3 xmm4 xmm5 xmm6 xmm7 xmm8 xmm9 xmm10 xmm11 xmm12 xmm13 xmm14 xmm15"
    ∷ words_of "ymm0 ymm1 ymm2 ymm3 ymm4 ymm5 ymm6 ymm7 ymm8 ymm9 ymm10 ymm11 ymm12 ymm13 ymm14 ymm15"
    ∷ []

-- each class has as many names as registers
pub names_sized : map length register_names ≡ class_sizes
unfolding register_names
names_sized = refl

-- "register 0 prints none"; a register that does not exist prints nothing
unfoldable pub register_name : ℕ → List ℕ
register_name r = pick (eqb r 0) (ascii "none") (get_or (get_or register_names (r / 16) []) (r % 16) [])

-- word, dword and qword registers by index, and those that rules name
abbrev pub word : ℕ → ℕ
word i = 48 + i

abbrev pub dword : ℕ → ℕ
dword i = 64 + i

abbrev pub qword : ℕ → ℕ
qword i = 80 + i

abbrev pub esp : ℕ
esp = dword 4

abbrev pub rsp : ℕ
rsp = qword 4

abbrev pub eip : ℕ
eip = 96

abbrev pub rip : ℕ
rip = 97

abbrev pub fs : ℕ
fs = 116

abbrev pub gs : ℕ
gs = 117

pub registers_numbered : map register_name (esp ∷ rsp ∷ eip ∷ rip ∷ fs ∷ gs ∷ []) ≡ words_of "esp rsp eip rip fs gs"
unfolding register_names register_name
registers_numbered = refl

-- the whole register that r is a part of: of classes 1 to 5 the qword register of the same index (ah ch dh bh have
-- rax rcx rdx rbx), of eip and rip rip; each other one is whole itself
unfoldable pub full_register : ℕ → ℕ
full_register r = pick (leb 1 (r / 16) && leb (r / 16) 5) (qword (r % 16)) (pick (eqb (r / 16) 6) rip r)

-- the width in bytes, by class
abbrev pub class_bytes : List ℕ
class_bytes = 0 ∷ 1 ∷ 1 ∷ 2 ∷ 4 ∷ 8 ∷ 8 ∷ 2 ∷ 16 ∷ 32 ∷ []

-- eip has 4
unfoldable pub register_size : ℕ → ℕ
register_size r = pick (eqb r eip) 4 (get_or class_bytes (r / 16) 0)

-- the whole registers that a callee saves: rbx rbp rsi rdi r12 r13 r14 r15
abbrev pub saved_registers : List ℕ
saved_registers = qword 3 ∷ qword 5 ∷ qword 6 ∷ qword 7 ∷ qword 12 ∷ qword 13 ∷ qword 14 ∷ qword 15 ∷ []

unfoldable pub callee_saved : ℕ → Bool
callee_saved r = is_one_of (full_register r) saved_registers
