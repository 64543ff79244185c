-- The text of a code that is of the table, as the code reads it.
-- Each is the definition with its tests decided.
use Rattle.std.proofs.Common.{◌≡◌, ℕ, suc, ◌+◌, true, List, ◌++◌, take, drop, arith}
use Rattle.lists.specs.Bytes.{u8_at}
use Rattle.text.specs.Number.{hex_text}
use Rattle.codes.specs.Code.{what_in, size_in, place_in, word_at, text_in}

module _ (t s : List ℕ) (c v : ℕ) where
  pub text_table : what_in c ≡ 0 → text_in t s c v ≡ take (size_in c) (drop (place_in c) t)
  unfolding text_in
  text_table h = rw h

  text_prefixed : what_in c ≡ 4 → text_in t s c v ≡ word_at t (place_in c) ++ hex_text true v
  unfolding text_in
  text_prefixed h = rw h

  -- the same, as the code reads it
  pub text_word : (m : ℕ) (w : List ℕ) → what_in c ≡ 4 → m ≡ u8_at t (place_in c + 1) → w ≡ take m (drop (place_in c + 2) t)
      → text_in t s c v ≡ w ++ hex_text true v
  text_word m w h e f =
      let a : suc (suc (place_in c)) ≡ place_in c + 2 = omega arith in
      let b : suc (place_in c) ≡ place_in c + 1 = omega arith in
      rw (text_prefixed h, a, b, ← e, ← f)
