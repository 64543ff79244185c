-- The words for a size in bytes: the type of a memory operand, and the prefix of a name made of an address.
use Rattle.std.specs.Prelude.{ℕ, List, [], eqb, get_or}
use Rattle.lists.specs.Choice.{pick}
use Rattle.x86.specs.Words.{words_of}

-- the type words are those of 1, 2, 4, 8, 16 and 32 bytes, and last the word for any other size
abbrev pub size_index : ℕ → ℕ
size_index n =
    pick (eqb n 1) 0 (pick (eqb n 2) 1 (pick (eqb n 4) 2 (pick (eqb n 8) 3 (pick (eqb n 16) 4 (pick (eqb n 32) 5 6)))))

unfoldable pub size_types : List (List ℕ)
size_types = words_of "uint8_t uint16_t uint32_t uint64_t __m128 __m256 void"

unfoldable pub size_type : ℕ → List ℕ
size_type n = get_or size_types (size_index n) []

-- the prefixes are those of 1, 2, 4 and 8 bytes, and last that for any other size
abbrev pub prefix_index : ℕ → ℕ
prefix_index n = pick (eqb n 1) 0 (pick (eqb n 2) 1 (pick (eqb n 4) 2 (pick (eqb n 8) 3 4)))

unfoldable pub size_prefixes : List (List ℕ)
size_prefixes = words_of "byte_ word_ dword_ qword_ unk_"

unfoldable pub size_prefix : ℕ → List ℕ
size_prefix n = get_or size_prefixes (prefix_index n) []
