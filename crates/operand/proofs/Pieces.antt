-- The tokens of each piece of a memory operand, by the tests that its coder makes, and pieces coded one behind the other.
-- Each test picks its case, and a word by its number is the definition's token.
use mathlib.Core.Path.{◌≡◌, refl, sym, ap, ◌∙◌}
use mathlib.Core.Bool.{Bool, true, false, not, ◌&&◌, ◌||◌}
use mathlib.Core.List.{List, [], ◌∷◌, ◌++◌}
use Prim.Native.Nat.{ℕ, ◌≤◌, ◌<◌}
use borrow.Author.Tests.{lt-ltb, le-ltb, not-true, not-false}
use lib.Dec.{eqb, ltb}
use lib.IntN.{nat_abs}
use Rattle.lists.specs.Choice.{pick}
use Rattle.tokens.specs.Token.{Token, punct}
use Rattle.tokens.specs.Words.{words, word_token, prefixed}
use Rattle.record.specs.declared.header.Header.{Header}
use Rattle.std.specs.Prelude.{Option, Some, None}
use Rattle.record.specs.Layout.{pairs_of}
use Rattle.record.specs.Atlas.{entry_kind}
use Rattle.record.specs.Body.{segment_of, index_of, scale_of, memory_size, memory_address}
use Rattle.operand.specs.declared.numbers.Sized.{Sized}
use Rattle.operand.specs.Sized.{sized_of}
use Rattle.operand.specs.Expr.{Expr, tight, wrap_if, binop}
use Rattle.operand.specs.Names.{entry_at, entry_token, literal_at}
use Rattle.operand.specs.Memory.{register_token, number, type_word, prefix_word, segment_word, segment_read, global, slot_base, address_of, scaled, registers, displacement, address_expr, address}
use Rattle.codes.specs.Coded.{Coded}
use Rattle.codes.proofs.Coding.{coded_more}
use Rattle.operand.proofs.Tokens.{as_tokens, two, enclosed}
use Rattle.operand.proofs.Readings.{global_found}

-- `&` in front of a token, or not
pub plainly : {x y : Token} (t : Bool) → x ≡ y → t ≡ true → x ∷ [] ≡ address_of t y
plainly t e a = rw (a, e)

pub and_then : {x y : Token} (t : Bool) → x ≡ y → t ≡ false → word_token 5 ∷ x ∷ [] ≡ address_of t y
unfolding word_token words
and_then t e a = rw (a, e)

module _ (b : List ℕ) where
  pub segment_is : (w m g v : ℕ) → g ≡ segment_of b → m ≡ memory_size b → word_token w ≡ segment_word g m → v ≡ memory_address b
      → word_token w ∷ punct "(" ∷ number false v ∷ punct ")" ∷ [] ≡ segment_read b
  segment_is w m g v p q r e = rw (r, p, q, e)

  pub scaled_more : (i n : ℕ) → i ≡ index_of b → n ≡ scale_of b → 1 < n → register_token i ∷ word_token 8 ∷ number false n ∷ [] ≡ (scaled b).tokens
  unfolding word_token words
  scaled_more i n p q t = rw (← q, lt-ltb 1 n t, ← p)

  pub scaled_one : (i n : ℕ) → i ≡ index_of b → n ≡ scale_of b → n ≤ 1 → register_token i ∷ [] ≡ (scaled b).tokens
  scaled_one i n p q t = rw (← q, le-ltb 1 n t, ← p)

module _ (h : Header) (b : List ℕ) where
  -- r is the base, i the index, n the scale
  base_and_index : (r i n : ℕ) → r ≡ slot_base h b → i ≡ index_of b → n ≡ scale_of b
      → pick (not (eqb r 0) || eqb i 0) (register_token r ∷ []) []
      ++ (pick (not (eqb r 0) && not (eqb i 0)) (word_token 6 ∷ []) []
      ++ wrap_if (not (eqb r 0) && not (eqb i 0) && ltb 1 n) (pick (not (eqb i 0)) (scaled b).tokens []))
      ≡ (registers h b).tokens
  unfolding word_token words
  base_and_index r i n p q o =
      rw (p, q, o) (go (eqb (slot_base h b) 0) (eqb (index_of b) 0) (ltb 1 (scale_of b)) (register_token (slot_base h b)) (register_token (index_of b)) (number false (scale_of b)))
    where
      times : Bool → Token → Token → Expr
      times z I N = pick z (binop (tight (I ∷ [])) (punct " * ") (tight (N ∷ []))) (tight (I ∷ []))

      go : (x y z : Bool) (R I N : Token)
          → pick (not x || y) (R ∷ []) [] ++ (pick (not x && not y) (word_token 6 ∷ []) [] ++ wrap_if (not x && not y && z) (pick (not y) (times z I N).tokens []))
          ≡ (pick y (tight (R ∷ [])) (pick x (times z I N) (binop (tight (R ∷ [])) (punct " + ") (times z I N)))).tokens
      go true true z R I N = refl
      go false true z R I N = refl
      go true false z R I N = refl
      go false false true R I N = refl
      go false false false R I N = refl

  -- k tells whether the registers are loose
  module _ (d : Sized) (p : d ≡ sized_of (displacement h b)) (k : Bool) (q : k ≡ (registers h b).loose) where
    same_test : eqb d.size 0 ≡ eqb (nat_abs (displacement h b)) 0
    same_test = ap (λ (x : Sized). eqb x.size 0) p

    alone : not (eqb d.size 0) ≡ false → wrap_if (not (eqb d.size 0) && k) (registers h b).tokens ≡ (address_expr h b).tokens
    unfolding address_expr
    alone t = rw (t, sym same_test ∙ not-false (eqb d.size 0) t)

    displaced : (w : ℕ) → not (eqb d.size 0) ≡ true → word_token w ≡ pick d.negative (punct " - ") (punct " + ")
        → wrap_if (not (eqb d.size 0) && k) (registers h b).tokens ++ (word_token w ∷ number false d.size ∷ []) ≡ (address_expr h b).tokens
    unfolding address_expr
    displaced w t e = rw (t, sym same_test ∙ not-true (eqb d.size 0) t, ← ap (λ (x : Sized). x.size) p, ← ap (λ (x : Sized). x.negative) p, ← e, q)

  -- k tells whether the address is loose
  read_or_address : (deref k : Bool) (w m : ℕ) → k ≡ (address_expr h b).loose → m ≡ memory_size b → word_token w ≡ type_word m
      → pick deref (word_token w ∷ []) [] ++ wrap_if (deref && k) (address_expr h b).tokens ≡ (address h deref b).tokens
  read_or_address true k w m r p q = rw (q, p, r)
  read_or_address false k w m r p q = refl

  -- the same as they are coded, one behind the other
  module _ {t s c c₁ c₂ c₃ : List ℕ} where
    pub registers_coded : {c₄ c₅ : List ℕ} (r i n : ℕ) → r ≡ slot_base h b → i ≡ index_of b → n ≡ scale_of b
        → Coded t s c c₁ (pick (not (eqb r 0) || eqb i 0) (register_token r ∷ []) [])
        → Coded t s c₁ c₂ (pick (not (eqb r 0) && not (eqb i 0)) (word_token 6 ∷ []) [])
        → Coded t s c₂ c₃ (pick (not (eqb r 0) && not (eqb i 0) && ltb 1 n) (word_token 2 ∷ []) [])
        → Coded t s c₃ c₄ (pick (not (eqb i 0)) (scaled b).tokens [])
        → Coded t s c₄ c₅ (pick (not (eqb r 0) && not (eqb i 0) && ltb 1 n) (word_token 3 ∷ []) [])
        → Coded t s c c₅ (registers h b).tokens
    registers_coded r i n p q o f g l x y =
        as_tokens (base_and_index r i n p q o)
        (coded_more t s f (coded_more t s g (enclosed (not (eqb r 0) && not (eqb i 0) && ltb 1 n) (pick (not (eqb i 0)) (scaled b).tokens []) l x y)))

    -- registers, in parentheses where there is a displacement and they are loose
    module _ (d : Sized) (p : d ≡ sized_of (displacement h b)) (k : Bool) (q : k ≡ (registers h b).loose)
        (f : Coded t s c c₁ (pick (not (eqb d.size 0) && k) (word_token 2 ∷ []) []))
        (x : Coded t s c₁ c₂ (registers h b).tokens)
        (g : Coded t s c₂ c₃ (pick (not (eqb d.size 0) && k) (word_token 3 ∷ []) [])) where
      front : Coded t s c c₃ (wrap_if (not (eqb d.size 0) && k) (registers h b).tokens)
      front = enclosed (not (eqb d.size 0) && k) (registers h b).tokens f x g

      pub no_displacement : not (eqb d.size 0) ≡ false → Coded t s c c₃ (address_expr h b).tokens
      no_displacement e = as_tokens (alone d p k q e) front

      pub with_displacement : {c₄ c₅ : List ℕ} (w : ℕ) → not (eqb d.size 0) ≡ true → word_token w ≡ pick d.negative (punct " - ") (punct " + ")
          → Coded t s c₃ c₄ (word_token w ∷ []) → Coded t s c₄ c₅ (number false d.size ∷ []) → Coded t s c c₅ (address_expr h b).tokens
      with_displacement w e r y z = as_tokens (displaced d p k q w e r) (coded_more t s front (two y z))

    pub place_coded : {c₄ : List ℕ} (deref k : Bool) (w m : ℕ) → k ≡ (address_expr h b).loose → m ≡ memory_size b → word_token w ≡ type_word m
        → Coded t s c c₁ (pick deref (word_token w ∷ []) [])
        → Coded t s c₁ c₂ (pick (deref && k) (word_token 2 ∷ []) [])
        → Coded t s c₂ c₃ (address_expr h b).tokens
        → Coded t s c₃ c₄ (pick (deref && k) (word_token 3 ∷ []) [])
        → Coded t s c c₄ (address h deref b).tokens
    place_coded deref k w m r p q f g x y =
        as_tokens (read_or_address deref k w m r p q) (coded_more t s f (enclosed (deref && k) (address_expr h b).tokens g x y))

-- a token, and `&` in front of it unless u holds
module _ {t s c c₁ c₂ : List ℕ} where
  pub addressed : {x : Token} (u : Bool) → Coded t s c c₁ (pick (not u) (word_token 5 ∷ []) []) → Coded t s c₁ c₂ (x ∷ []) → Coded t s c c₂ (address_of u x)
  unfolding word_token words
  addressed true p q = coded_more t s p q
  addressed false p q = coded_more t s p q

  -- n is the kind of entry k
  pub entry_addressed : (h : Header) (k n : ℕ) (deref : Bool) (pairs : List ℕ) → pairs ≡ pairs_of h s → n ≡ entry_kind pairs k
      → Coded t s c c₁ (pick (not (deref || not (eqb n 3))) (word_token 5 ∷ []) []) → Coded t s c₁ c₂ (entry_token h s k ∷ [])
      → Coded t s c c₂ (address_of (deref || literal_at h s (Some k)) (entry_token h s k))
  entry_addressed h k n deref pairs e q f g = rw (← e, ← q) (addressed (deref || not (eqb n 3)) f g)

-- a global that has no entry
pub nothing_found : (h : Header) (s b : List ℕ) (deref : Bool) (found : Option ℕ) (va m w : ℕ)
    → va ≡ memory_address b → found ≡ entry_at h s va → m ≡ memory_size b → word_token w ≡ prefix_word m
    → found ≡ None → address_of deref (prefixed (word_token w) va) ≡ global h s deref b
nothing_found h s b deref found va m w p q r t e = go deref ∙ global_found h s b deref None va m w p (sym e ∙ q) r t
  where
    go : (d : Bool) → address_of d (prefixed (word_token w) va) ≡ address_of (d || false) (prefixed (word_token w) va)
    go true = refl
    go false = refl
