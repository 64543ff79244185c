-- Mnemonics by number, and which of them write flags.
use Rattle.std.specs.Prelude.{ℕ, ◌≡◌, refl, Bool, ◌||◌, List, [], ◌∷◌, map, eqb, get_or, length}
use Rattle.x86.specs.Words.{words_of, is_word_of}

-- "Mnemonics: 0 other (name given), then 1 mov .. the last being 45"; the name of 0 stands in the record
unfoldable pub mnemonic_names : List (List ℕ)
mnemonic_names =
    []
    ∷ words_of "mov movzx movsx movsxd lea xor and or add sub shl shr sar rol ror inc dec neg not imul push pop call ret jmp setcc cmovcc cmpxchg xchg rdtsc cpuid cdq cqo cdqe cwde ud2 hlt cmp test bt leave nop int3 endbr64 endbr32"

-- 0 to 45
pub mnemonics_counted : length mnemonic_names ≡ 46
unfolding mnemonic_names
mnemonics_counted = refl

unfoldable pub mnemonic_name : ℕ → List ℕ
mnemonic_name m = get_or mnemonic_names m []

-- the number of each, by its name
abbrev pub mov : ℕ
mov = 1

abbrev pub movzx : ℕ
movzx = 2

abbrev pub movsx : ℕ
movsx = 3

abbrev pub movsxd : ℕ
movsxd = 4

abbrev pub lea : ℕ
lea = 5

abbrev pub xor : ℕ
xor = 6

abbrev pub and : ℕ
and = 7

abbrev pub or : ℕ
or = 8

abbrev pub add : ℕ
add = 9

abbrev pub sub : ℕ
sub = 10

abbrev pub shl : ℕ
shl = 11

abbrev pub shr : ℕ
shr = 12

abbrev pub sar : ℕ
sar = 13

abbrev pub rol : ℕ
rol = 14

abbrev pub ror : ℕ
ror = 15

abbrev pub inc : ℕ
inc = 16

abbrev pub dec : ℕ
dec = 17

abbrev pub neg : ℕ
neg = 18

abbrev pub not : ℕ
not = 19

abbrev pub imul : ℕ
imul = 20

abbrev pub push : ℕ
push = 21

abbrev pub pop : ℕ
pop = 22

abbrev pub call : ℕ
call = 23

abbrev pub ret : ℕ
ret = 24

abbrev pub jmp : ℕ
jmp = 25

abbrev pub setcc : ℕ
setcc = 26

abbrev pub cmovcc : ℕ
cmovcc = 27

abbrev pub cmpxchg : ℕ
cmpxchg = 28

abbrev pub xchg : ℕ
xchg = 29

abbrev pub rdtsc : ℕ
rdtsc = 30

abbrev pub cpuid : ℕ
cpuid = 31

abbrev pub cdq : ℕ
cdq = 32

abbrev pub cqo : ℕ
cqo = 33

abbrev pub cdqe : ℕ
cdqe = 34

abbrev pub cwde : ℕ
cwde = 35

abbrev pub ud2 : ℕ
ud2 = 36

abbrev pub hlt : ℕ
hlt = 37

abbrev pub cmp : ℕ
cmp = 38

abbrev pub test : ℕ
test = 39

abbrev pub bt : ℕ
bt = 40

abbrev pub leave : ℕ
leave = 41

abbrev pub nop : ℕ
nop = 42

abbrev pub int3 : ℕ
int3 = 43

abbrev pub endbr64 : ℕ
endbr64 = 44

abbrev pub endbr32 : ℕ
endbr32 = 45

abbrev numbers : List ℕ
numbers =
    0 ∷ mov ∷ movzx ∷ movsx ∷ movsxd ∷ lea ∷ xor ∷ and ∷ or ∷ add ∷ sub ∷ shl ∷ shr ∷ sar ∷ rol ∷ ror ∷ inc ∷ dec ∷ neg ∷ not ∷ imul
    ∷ push ∷ pop ∷ call ∷ ret ∷ jmp ∷ setcc ∷ cmovcc ∷ cmpxchg ∷ xchg ∷ rdtsc ∷ cpuid ∷ cdq ∷ cqo ∷ cdqe ∷ cwde ∷ ud2 ∷ hlt ∷ cmp ∷ test
    ∷ bt ∷ leave ∷ nop ∷ int3 ∷ endbr64 ∷ endbr32 ∷ []

-- they are the numbers of those names
pub mnemonics_numbered : map mnemonic_name numbers ≡ mnemonic_names
unfolding mnemonic_names mnemonic_name
mnemonics_numbered = refl

-- the flag writers that a condition may follow
abbrev pub flag_writers : List (List ℕ)
flag_writers = words_of "cmp test add sub and or xor inc dec neg shl shr sar bt imul"

unfoldable pub writes_flags : ℕ → Bool
writes_flags m = is_word_of (mnemonic_name m) flag_writers

-- "BT leaves the zero flag unchanged and the sign undefined; IMUL leaves the zero flag undefined, and on its sign flag editions differ": after
-- these two flag writers e ne s ns say nothing of the first operand
abbrev pub is_bt_or_imul : ℕ → Bool
is_bt_or_imul m = eqb m bt || eqb m imul
