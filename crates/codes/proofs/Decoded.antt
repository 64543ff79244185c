-- The event that a code stands for, and the codes of a list one by one.
-- Each is the definition with its tests decided.
use Rattle.std.proofs.Common.{◌≡◌, ℕ, suc, ◌+◌, ◌<◌, ◌≤◌, Bool, true, false, ◌&&◌, List, [], ◌∷◌, length, get_or, drop, sym, refl, ap, ◌∙◌, arith, get_or-drop, drop-cons, drop-drop, le-leb}
use mathlib.Core.Bool.{and-true}
use borrow.Author.Tests.{lt-leb}
use Rattle.lists.specs.Choice.{pick}
use Rattle.tokens.specs.Token.{token}
use Rattle.codes.specs.Code.{Event, kind_in, joins_in, what_in, has_value, in_table, all_in_table, text_in, event, decode}
use Rattle.codes.specs.Code.Event.{tok, end}

further : (b : Bool) (i n : ℕ) → n ≡ pick b 2 1 → suc i + pick b 1 0 ≡ i + n
further true i n h = omega arith
further false i n h = omega arith

module _ (t s : List ℕ) where
  module _ (c v : ℕ) where
    pub event_token : what_in c < 7 → event t s c v ≡ tok (joins_in c) (token (kind_in c) (text_in t s c v))
    unfolding event
    event_token h = rw (lt-leb 7 (what_in c) h)

    pub event_end : 7 ≤ what_in c → event t s c v ≡ end
    unfolding event
    event_end h = rw (le-leb 7 (what_in c) h)

  -- the first code of a list
  pub first : (c : ℕ) (cs : List ℕ) → decode t s (c ∷ cs) ≡ event t s c (get_or cs 0 0) ∷ decode t s (drop (pick (has_value c) 1 0) cs)
  unfolding decode
  first c [] = ap (λ (es : List Event). event t s c 0 ∷ es) (go (has_value c))
    where
      go : (b : Bool) → [] ≡ decode t s (drop (pick b 1 0) [])
      go true = refl
      go false = refl
  first c (v ∷ cs) = ap (λ (es : List Event). event t s c v ∷ es) (go (has_value c))
    where
      go : (b : Bool) → pick b (decode t s cs) (decode t s (v ∷ cs)) ≡ decode t s (drop (pick b 1 0) (v ∷ cs))
      go true = refl
      go false = refl

  -- the code at index i, which takes n numbers
  pub decode_at : (cs : List ℕ) (i n v : ℕ) → i < length cs → n ≡ pick (has_value (get_or cs i 0)) 2 1 → v ≡ get_or cs (i + 1) 0
      → decode t s (drop i cs) ≡ event t s (get_or cs i 0) v ∷ decode t s (drop (i + n) cs)
  decode_at cs i n v h a b =
      let z : suc i + 0 ≡ i + 1 = omega arith in
      ap (decode t s) (drop-cons cs i 0 h) ∙ first (get_or cs i 0) (drop (suc i) cs)
      ∙ rw (get_or-drop, drop-drop, further (has_value (get_or cs i 0)) i n a, z, ← b)

-- whether codes lie within a table of m bytes, by the first of them
module _ (m : ℕ) where
  first_in_lem : (c : ℕ) (cs : List ℕ) → all_in_table m (c ∷ cs) ≡ (in_table m c && all_in_table m (drop (pick (has_value c) 1 0) cs))
  unfolding all_in_table
  first_in_lem c [] = go (has_value c)
    where
      go : (b : Bool) → in_table m c ≡ (in_table m c && all_in_table m (drop (pick b 1 0) []))
      go true = sym (and-true (in_table m c))
      go false = sym (and-true (in_table m c))
  first_in_lem c (v ∷ cs) = ap (λ (b : Bool). in_table m c && b) (go (has_value c))
    where
      go : (b : Bool) → pick b (all_in_table m cs) (all_in_table m (v ∷ cs)) ≡ all_in_table m (drop (pick b 1 0) (v ∷ cs))
      go true = refl
      go false = refl

  -- a code that does, without a value and with one
  pub one_in : (c : ℕ) (cs : List ℕ) → in_table m c ≡ true → has_value c ≡ false → all_in_table m (c ∷ cs) ≡ all_in_table m cs
  one_in c cs a b = first_in_lem c cs ∙ rw (a, b)

  pub two_in : (c v : ℕ) (cs : List ℕ) → in_table m c ≡ true → has_value c ≡ true → all_in_table m (c ∷ (v ∷ cs)) ≡ all_in_table m cs
  two_in c v cs a b = first_in_lem c (v ∷ cs) ∙ rw (a, b)

  -- the code at index i, which takes n numbers
  pub in_at : (cs : List ℕ) (i n : ℕ) → i < length cs → n ≡ pick (has_value (get_or cs i 0)) 2 1
      → all_in_table m (drop i cs) ≡ (in_table m (get_or cs i 0) && all_in_table m (drop (i + n) cs))
  in_at cs i n h a = ap (all_in_table m) (drop-cons cs i 0 h) ∙ first_in_lem (get_or cs i 0) (drop (suc i) cs) ∙ rw (drop-drop, further (has_value (get_or cs i 0)) i n a)

pub width_few : (b : Bool) (n : ℕ) → n ≡ pick b 2 1 → (1 ≤ n) × (n ≤ 2)
width_few true n h = (omega arith, omega arith)
width_few false n h = (omega arith, omega arith)
