-- The words of types and of prefixes by their numbers are those of the definitions, and short.
-- Each table of words is computed once; a size's index is an entry of it.
use mathlib.Core.Path.{◌≡◌, refl, sym, ◌∙◌}
use mathlib.Core.List.{[], ◌++◌}
use Prim.Native.Nat.{ℕ, ◌+◌, ◌≤◌}
use native.Mathlib.Omega.{arith}
use lib.Dec.{eqb}
use lib.ListN.{length, get_or}
use Rattle.lists.specs.Ascii.{ascii}
use Rattle.lists.specs.Entries.{tab, entry}
use Rattle.tokens.specs.Token.{Token, token}
use Rattle.tokens.specs.Words.{words, word_token}
use Rattle.tokens.proofs.Bounds.{word_short}
use Rattle.x86.specs.Registers.{gs}
use Rattle.x86.specs.Sizes.{size_index, size_types, size_type, prefix_index, size_prefixes, size_prefix}
use Rattle.operand.specs.Memory.{type_word, prefix_word, segment_word}
use Rattle.operand.proofs.Choices.{pick_le, prefix_small, size_small}

type_at : ℕ → Token
type_at k = token 3 (ascii "*(" ++ (get_or size_types k [] ++ ascii " *)"))

types : tab (λ k. word_token (69 + k)) 0 7 ≡ tab type_at 0 7
unfolding word_token words type_at size_types
types = refl

pub type_word_lem : (n : ℕ) → word_token (69 + size_index n) ≡ type_word n
unfolding type_word size_type type_at
type_word_lem n =
    let h = size_small n in
    entry (λ k. word_token (69 + k)) 7 (tab type_at 0 7) (token 0 []) types (size_index n) (omega (arith, h))
    ∙ sym (entry type_at 7 (tab type_at 0 7) (token 0 []) refl (size_index n) (omega (arith, h)))

prefix_at : ℕ → Token
prefix_at k = token 4 (get_or size_prefixes k [])

prefixes : tab (λ k. word_token (97 + k)) 0 5 ≡ tab prefix_at 0 5
unfolding word_token words prefix_at size_prefixes
prefixes = refl

pub prefix_word_lem : (n : ℕ) → word_token (97 + prefix_index n) ≡ prefix_word n
unfolding prefix_word size_prefix prefix_at
prefix_word_lem n =
    let h = prefix_small n in
    entry (λ k. word_token (97 + k)) 5 (tab prefix_at 0 5) (token 0 []) prefixes (prefix_index n) (omega (arith, h))
    ∙ sym (entry prefix_at 5 (tab prefix_at 0 5) (token 0 []) refl (prefix_index n) (omega (arith, h)))

pub type_short : (n : ℕ) → length (type_word n).bytes ≤ 30
type_short n = rw (← type_word_lem n) (word_short (69 + size_index n))

pub prefix_short : (n : ℕ) → length (prefix_word n).bytes ≤ 30
prefix_short n = rw (← prefix_word_lem n) (word_short (97 + prefix_index n))

pub segment_short : (seg size : ℕ) → length (segment_word seg size).bytes ≤ 30
unfolding segment_word
segment_short seg size =
    pick_le (λ (t : Token). length t.bytes) 30 (eqb seg gs) _ _
    (pick_le (λ (t : Token). length t.bytes) 30 (eqb size 8) _ _ (omega arith) (pick_le (λ (t : Token). length t.bytes) 30 (eqb size 4) _ _ (omega arith) (omega arith)))
    (pick_le (λ (t : Token). length t.bytes) 30 (eqb size 8) _ _ (omega arith) (pick_le (λ (t : Token). length t.bytes) 30 (eqb size 4) _ _ (omega arith) (omega arith)))
