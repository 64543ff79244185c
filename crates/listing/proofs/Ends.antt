-- Where the lines of a listing end, and that its addresses are numbers of 64 bits.
-- The tokens up to the end of a line are those of the lines up to it, so the bytes up to there are theirs.
use mathlib.Core.Path.{◌≡◌, refl, sym, ap, ◌∙◌}
use mathlib.Core.List.{List, [], ◌∷◌, map, append-nil}
use Prim.Native.Nat.{ℕ, zero, suc, ◌+◌, ◌*◌, ◌^◌, ◌≤◌, ◌<◌}
use native.Mathlib.Nat.{zero-add, not-suc-le-zero}
use native.Mathlib.Omega.{arith}
use lib.ListN.{length, get_or, take, length-append, length-take}
use lib.Seq.{take-append-add, take-length}
use Rattle.tokens.specs.Token.{Token}
use Rattle.tokens.specs.Listing.{text_of, ends_from, join, all, counts_from, listing, bytes_of}
use Rattle.tokens.proofs.ListingLaws.{all_bytes}
use Rattle.record.specs.declared.header.Header.{Header}
use Rattle.record.specs.Layout.{starts_at, starts_of, addresses_at, addresses_of}
use Rattle.record.specs.Blocks.{start_at}
use Rattle.record.specs.Body.{address_at}
use Rattle.operand.proofs.Bounds.{AllBytes, bytes_drop, u64_small}
use Rattle.structure.specs.Plan.{What, Line}
use Rattle.structure.specs.Plan.What.{label_line, do_line, open_line, if_goto, while_line, close_line, goto_line, tail_call, insn_line}
use Rattle.pseudo.specs.Listed.{address_for, line_address}
use Rattle.page.specs.Page.{tokens_end, lines_end}

-- ---- tokens
ends_at : (x : ℕ) (ts : List Token) (k : ℕ) → k < length ts → get_or (ends_from x ts) k 0 ≡ x + length (text_of (take (suc k) ts))
unfolding ends_from text_of
ends_at x [] k h = absurd (not-suc-le-zero h)
ends_at x (t ∷ ts) zero h = rw append-nil
ends_at x (t ∷ ts) (suc k) h = ends_at (x + length t.bytes) ts k (omega arith) ∙ rw (length-append t.bytes (text_of (take (suc k) ts))) (omega arith)

tokens_end_lem : (ts : List Token) (k : ℕ) → k ≤ length ts → tokens_end (ends_from 0 ts) k ≡ length (text_of (take k ts))
unfolding text_of
tokens_end_lem ts zero h = refl
tokens_end_lem ts (suc k) h = ends_at 0 ts k h ∙ zero-add _

-- ---- lines
counts_at : (m : ℕ) (ls : List (List Token)) (i : ℕ) → i < length ls → get_or (counts_from m ls) i 0 ≡ m + length (all (take (suc i) ls))
unfolding counts_from all
counts_at m [] i h = absurd (not-suc-le-zero h)
counts_at m (l ∷ ls) zero h = rw append-nil
counts_at m (l ∷ ls) (suc i) h = counts_at (m + length (join l)) ls i (omega arith) ∙ rw (length-append (join l) (all (take (suc i) ls))) (omega arith)

all_take : (ls : List (List Token)) (i : ℕ) → take (length (all (take i ls))) (all ls) ≡ all (take i ls)
unfolding all
all_take ls zero = refl
all_take [] (suc i) = refl
all_take (l ∷ ls) (suc i) =
    rw (length-append (join l) (all (take i ls)), take-append-add (join l) (all ls) (length (all (take i ls))), all_take ls i)

bytes_rise : (ls : List (List Token)) (i : ℕ) → bytes_of (take i ls) ≤ bytes_of (take (suc i) ls)
unfolding bytes_of
bytes_rise [] zero = omega arith
bytes_rise [] (suc i) = omega arith
bytes_rise (l ∷ ls) zero = omega arith
bytes_rise (l ∷ ls) (suc i) = omega (arith, bytes_rise ls i)

module _ (ls : List (List Token)) where
  line_end_lem : (i : ℕ) → i ≤ length ls → lines_end (listing ls).ends (listing ls).lines i ≡ bytes_of (take i ls)
  unfolding listing bytes_of
  line_end_lem zero h = refl
  line_end_lem (suc i) h =
      let few : length (all (take (suc i) ls)) ≤ length (all ls) = omega (arith, ap length (all_take ls (suc i)), length-take (length (all (take (suc i) ls))) (all ls)) in
      rw (counts_at 0 ls i h, zero-add) (tokens_end_lem (all ls) (length (all (take (suc i) ls))) few ∙ rw (all_take ls (suc i)) (all_bytes (take (suc i) ls)))

  pub ends_rise : (i : ℕ) → i < length ls → lines_end (listing ls).ends (listing ls).lines i ≤ lines_end (listing ls).ends (listing ls).lines (suc i)
  ends_rise i h = omega (arith, line_end_lem i (omega arith), line_end_lem (suc i) h, bytes_rise ls i)

  -- the last line ends where the text does
  pub last_end : lines_end (listing ls).ends (listing ls).lines (length ls) ≡ length (listing ls).text
  unfolding listing
  last_end = line_end_lem (length ls) (omega arith) ∙ rw (take-length ls) (sym (all_bytes ls))

-- ---- addresses
module _ (h : Header) (s : List ℕ) (bytes : AllBytes s) where
  start_small : (k : ℕ) → start_at (starts_of h s) k < 2 ^ 64
  start_small k = u64_small (starts_of h s) (bytes_drop starts_at s bytes) (8 * k)

  insn_small : (i : ℕ) → address_at (addresses_of h s) i < 2 ^ 64
  insn_small i = u64_small (addresses_of h s) (bytes_drop (addresses_at h) s bytes) (8 * i)

  address_small : (w : What) (k i : ℕ) → address_for h s w k i < 2 ^ 64
  address_small label_line k i = start_small k
  address_small do_line k i = start_small k
  address_small close_line k i = omega arith
  address_small open_line k i = insn_small i
  address_small if_goto k i = insn_small i
  address_small while_line k i = insn_small i
  address_small goto_line k i = insn_small i
  address_small tail_call k i = insn_small i
  address_small insn_line k i = insn_small i

  pub addresses_small : (p : List Line) (i : ℕ) → get_or (map (line_address h s) p) i 0 < 2 ^ 64
  addresses_small [] i = omega arith
  addresses_small (l ∷ p) zero = address_small l.what l.place l.at
  addresses_small (l ∷ p) (suc i) = addresses_small p i
