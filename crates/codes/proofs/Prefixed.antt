-- A word of the table with a number behind it is coded.
-- Its kind and its text are the word's.
use Rattle.std.proofs.Common.{◌≡◌, ℕ, suc, ◌+◌, ◌*◌, ◌<◌, true, List, [], ◌∷◌, ◌++◌, length, ap, arith, length-append}
use Rattle.lists.specs.Bytes.{u8_at}
use Rattle.text.specs.Number.{hex_text}
use Rattle.tokens.specs.Token.{Token, token}
use Rattle.tokens.specs.Words.{word_token, prefixed}
use Rattle.x86.specs.Table.{text_at}
use Rattle.codes.specs.Code.{word_at}
use Rattle.codes.specs.Coded.{Coded, Added}
use Rattle.codes.specs.Tables.{table_bytes}
use Rattle.codes.proofs.EachToken.{prefixed_coded, as_token}
use Rattle.codes.proofs.TableLaws.{word_is, word_kind, word_size}

word_at_lem : (t : List ℕ) (at : ℕ) → word_at t at ≡ text_at t (at + 1)
word_at_lem t at =
    let e : at + 1 ≡ suc at = omega arith in
    let f : at + 1 + 1 ≡ suc (suc at) = omega arith in
    rw (f, e)

pub prefixed_word : (s c c' : List ℕ) (w v kind n m : ℕ) → w < 102 → kind ≡ u8_at table_bytes (32 * w) → n ≡ u8_at table_bytes (32 * w + 1) → m ≡ length (hex_text true v)
    → Added c c' kind 4 0 (32 * w) (n + m) (v ∷ []) → Coded table_bytes s c c' (prefixed (word_token w) v ∷ [])
unfolding prefixed
prefixed_word s c c' w v kind n m h p q l a =
    let t = table_bytes in
    let k : kind < 8 = rw p (word_kind w h) in
    let u : token kind (word_at t (32 * w)) ≡ word_token w = rw (p, word_at_lem t (32 * w)) (word_is w h) in
    let z : n ≡ length (word_at t (32 * w)) = rw (q, word_at_lem t (32 * w)) (word_size w h) in
    let y : n + m ≡ length (word_at t (32 * w) ++ hex_text true v) = rw length-append (omega (arith, z, l)) in
    as_token _ _ (ap (λ (x : Token). token x.kind (x.bytes ++ hex_text true v)) u) (prefixed_coded t s c c' kind k (32 * w) (n + m) v a y)
