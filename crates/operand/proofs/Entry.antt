-- An entry's text stands at its place in the record, which fits 32 bits.
-- A sum of bytes is below 256 times their number; a part of a part begins at the sum of both offsets.
use mathlib.Core.Path.{◌≡◌, refl}
use mathlib.Core.List.{List}
use Prim.Native.Nat.{ℕ, zero, suc, ◌+◌, ◌*◌, ◌≤◌, ◌<◌}
use native.Mathlib.Omega.{arith}
use lib.Dec.{eqb}
use lib.ListN.{take, drop}
use lib.Seq.{drop-drop}
use Rattle.lists.specs.Choice.{sum_below}
use Rattle.text.specs.Literal.{literal_text}
use Rattle.tokens.specs.Token.{token}
use Rattle.record.specs.declared.header.Header.{Header}
use Rattle.record.specs.Layout.{pairs_at, texts_at, pairs_of, texts_of}
use Rattle.record.specs.Atlas.{entry_kind, entry_length, text_start}
use Rattle.operand.specs.Names.{entry_token}
use Rattle.operand.proofs.Bounds.{AllBytes, bytes_drop}
use Rattle.operand.proofs.Entries.{name_is, literal_is}

sum_small : (f : ℕ → ℕ) → ((i : ℕ) → f i < 256) → (k : ℕ) → sum_below f k ≤ 255 * k
sum_small f h zero = omega arith
sum_small f h (suc k) = omega (arith, sum_small f h k, h k)

start_small : (h : Header) (s : List ℕ) (k : ℕ) → AllBytes s → text_start (pairs_of h s) k ≤ 255 * k
unfolding text_start
start_small h s k bs = sum_small (entry_length (pairs_of h s)) (λ i. bytes_drop (pairs_at h) s bs (2 * i + 1)) k

-- the pairs begin at q, the texts at `texts`, and entry k's text at `start` among them
module _ (h : Header) (s pairs : List ℕ) (k q texts start : ℕ)
    (p : pairs ≡ drop q s) (u : q ≡ pairs_at h) (v : texts ≡ texts_at h) (w : start ≡ text_start pairs k) where
  pub place_is : texts + start ≡ texts_at h + text_start (pairs_of h s) k
  place_is = rw (v, w, p, u)

  pub place_small : AllBytes s → texts < 16_000_000 → k < 65536 → texts + start < 33_000_000
  place_small bs a b = omega (arith, place_is, start_small h s k bs)

module _ (h : Header) (s pairs : List ℕ) (k kind at n : ℕ)
    (p : pairs ≡ pairs_of h s) (q : kind ≡ entry_kind pairs k) (b : n ≡ entry_length pairs k) (a : at ≡ texts_at h + text_start (pairs_of h s) k) where
  text_at_lem : take n (drop at s) ≡ take n (drop (text_start pairs k) (texts_of h s))
  text_at_lem = rw (a, p, drop-drop)

  pub name_at : kind ≡ 3 → token 4 (take n (drop at s)) ≡ entry_token h s k
  name_at e = name_is h s pairs (texts_of h s) _ k kind (text_start pairs k) n p q refl refl b text_at_lem e

  pub literal_at_lem : (kind ≡ 3 → ⊥) → token 5 (literal_text (eqb kind 2) (take n (drop at s))) ≡ entry_token h s k
  literal_at_lem e = literal_is h s pairs (texts_of h s) _ k kind (text_start pairs k) n p q refl refl b text_at_lem e
