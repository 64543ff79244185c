-- How long a word can be, alone and with an address behind it.
-- One test of the table, computed, gives the bound at each word.
use mathlib.Core.Bool.{true}
use mathlib.Core.List.{[]}
use Prim.Native.Nat.{ℕ, ◌^◌, ◌≤◌, ◌<◌}
use native.Mathlib.Omega.{arith}
use lib.Dec.{leb, leb→le}
use lib.ListN.{length, length-append}
use Rattle.lists.specs.Every.{every_at}
use Rattle.text.specs.NumberLaws.{hex_64}
use Rattle.tokens.specs.Token.{Token, token}
use Rattle.tokens.specs.Words.{words, word_token, prefixed}

pub word_short : (w : ℕ) → length (word_token w).bytes ≤ 30
unfolding word_token words
word_short w = leb→le _ _ (every_at (λ (t : Token). leb (length t.bytes) 30) (token 0 []) tt words w tt)

pub prefixed_short : (t : Token) (v : ℕ) → length t.bytes ≤ 30 → v < 2 ^ 64 → length (prefixed t v).bytes ≤ 46
unfolding prefixed
prefixed_short t v l h = rw length-append (omega (arith, l, hex_64 true v h))
