-- The fields of a code are read back, and so are its text and what it stands for.
-- By division; the text's tests are then of numbers.
use Rattle.std.proofs.Common.{◌≡◌, ℕ, ◌+◌, ◌/◌, ◌%◌, ◌<◌, ◌≤◌, Bool, true, false, not, ◌&&◌, eqb, leb, List, [], ◌∷◌, ◌++◌, take, drop, refl, arith, ne_eqb, le-leb}
use mathlib.Core.Bool.{or-true}
use native.Mathlib.Decide.{ℕ_discrete}
use borrow.Author.Tests.{lt-leb}
use Rattle.lists.specs.Choice.{pick}
use Rattle.text.specs.Number.{hex_text, num_text}
use Rattle.text.specs.Literal.{literal_text}
use Rattle.tokens.specs.Token.{token}
use Rattle.codes.specs.Code.{kind_in, joins_in, what_in, size_in, place_in, code_of, has_value, in_table, all_in_table, word_at, text_in, event, decode}
use Rattle.codes.specs.Code.Event.{tok}
use Rattle.codes.proofs.Decoded.{one_in, two_in}

one : (b : Bool) → pick b 0 1 ≤ 1
one true = omega arith
one false = omega arith

told : (b : Bool) → eqb (pick b 0 1) 0 ≡ b
told true = refl
told false = refl

module _ (k : ℕ) (j : Bool) (w n at : ℕ) (hk : k < 8) (hw : w < 16) (hn : n < 65536) where
  pub kind_is : kind_in (code_of k j w n at) ≡ k
  kind_is = omega (arith, one j)

  pub joins_is : joins_in (code_of k j w n at) ≡ j
  joins_is = let e : code_of k j w n at / 8 % 2 ≡ pick j 0 1 = omega (arith, one j) in rw e (told j)

  pub what_is : what_in (code_of k j w n at) ≡ w
  what_is = omega (arith, one j)

  pub size_is : size_in (code_of k j w n at) ≡ n
  size_is = omega (arith, one j)

  pub place_is : place_in (code_of k j w n at) ≡ at
  place_is = omega (arith, one j)

-- what a text is made of, of codes of a token of kind k
module _ (t s : List ℕ) (k : ℕ) (j : Bool) (n at : ℕ) (hk : k < 8) (hn : n < 65536) (v : ℕ) where
  pub of_table_lem : text_in t s (code_of k j 0 n at) v ≡ take n (drop at t)
  unfolding text_in
  of_table_lem = rw (what_is k j 0 n at hk (omega arith) hn, size_is k j 0 n at hk (omega arith) hn, place_is k j 0 n at hk (omega arith) hn)

  pub of_record_lem : text_in t s (code_of k j 1 n at) v ≡ take n (drop at s)
  unfolding text_in
  of_record_lem = rw (what_is k j 1 n at hk (omega arith) hn, size_is k j 1 n at hk (omega arith) hn, place_is k j 1 n at hk (omega arith) hn)

  pub of_number : (b : Bool) → text_in t s (code_of k j (pick b 3 2) n at) v ≡ num_text b v
  unfolding text_in
  of_number true = rw (what_is k j 3 n at hk (omega arith) hn)
  of_number false = rw (what_is k j 2 n at hk (omega arith) hn)

  pub of_prefixed_lem : text_in t s (code_of k j 4 n at) v ≡ word_at t at ++ hex_text true v
  unfolding text_in
  of_prefixed_lem = rw (what_is k j 4 n at hk (omega arith) hn, place_is k j 4 n at hk (omega arith) hn)

  pub of_string_lem : (b : Bool) → text_in t s (code_of k j (pick b 6 5) n at) v ≡ literal_text b (take n (drop at s))
  unfolding text_in
  of_string_lem true = rw (what_is k j 6 n at hk (omega arith) hn, size_is k j 6 n at hk (omega arith) hn, place_is k j 6 n at hk (omega arith) hn)
  of_string_lem false = rw (what_is k j 5 n at hk (omega arith) hn, size_is k j 5 n at hk (omega arith) hn, place_is k j 5 n at hk (omega arith) hn)

-- a token's code lies within a table of m bytes, with any codes behind it
module _ (m k : ℕ) (j : Bool) (w n at : ℕ) (hk : k < 8) (hw : w < 7) (hn : n < 65536) (h : w ≡ 0 → at + n ≤ m) where
  lies : in_table m (code_of k j w n at) ≡ true
  lies =
      elim (ℕ_discrete w 0) [
        | yes e ↦ rw (place_is k j w n at hk (omega arith) hn, size_is k j w n at hk (omega arith) hn, le-leb (at + n) m (h e)) (or-true (not (eqb (what_in (code_of k j w n at)) 0)))
        | no e ↦ rw (what_is k j w n at hk (omega arith) hn, ne_eqb w 0 e)
      ]

  pub in_one : (leb 2 w && leb w 4) ≡ false → (r : List ℕ) → all_in_table m (code_of k j w n at ∷ r) ≡ all_in_table m r
  in_one q r = one_in m (code_of k j w n at) r lies (rw (what_is k j w n at hk (omega arith) hn) q)

  pub in_two : (leb 2 w && leb w 4) ≡ true → (v : ℕ) (r : List ℕ) → all_in_table m (code_of k j w n at ∷ (v ∷ r)) ≡ all_in_table m r
  in_two q v r = two_in m (code_of k j w n at) v r lies (rw (what_is k j w n at hk (omega arith) hn) q)

-- a token's code, whose text is x, with any codes behind it
module _ (t s : List ℕ) (k : ℕ) (j : Bool) (w n at : ℕ) (hk : k < 8) (hw : w < 7) (hn : n < 65536) (x : List ℕ) where
  event_is : (v : ℕ) → text_in t s (code_of k j w n at) v ≡ x → event t s (code_of k j w n at) v ≡ tok j (token k x)
  unfolding event
  event_is v e =
      let q : leb 7 w ≡ false = lt-leb 7 w hw in
      rw (what_is k j w n at hk (omega arith) hn, q, joins_is k j w n at hk (omega arith) hn, kind_is k j w n at hk (omega arith) hn, e)

  value_is : has_value (code_of k j w n at) ≡ (leb 2 w && leb w 4)
  value_is = rw (what_is k j w n at hk (omega arith) hn)

  pub reads_one : (leb 2 w && leb w 4) ≡ false → ((v : ℕ) → text_in t s (code_of k j w n at) v ≡ x) → (r : List ℕ)
      → decode t s (code_of k j w n at ∷ r) ≡ tok j (token k x) ∷ decode t s r
  unfolding decode
  reads_one q e [] = rw (event_is 0 (e 0))
  reads_one q e (v ∷ r) = rw (event_is v (e v), value_is, q)

  pub reads_two : (v : ℕ) → (leb 2 w && leb w 4) ≡ true → text_in t s (code_of k j w n at) v ≡ x → (r : List ℕ)
      → decode t s (code_of k j w n at ∷ (v ∷ r)) ≡ tok j (token k x) ∷ decode t s r
  unfolding decode
  reads_two v q e r = rw (event_is v e, value_is, q)
