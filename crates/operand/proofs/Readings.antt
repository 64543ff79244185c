-- What an operand's coder has read, and the choices that follow from it.
-- Each test was made of what was read; a slot's and a name's token are read off what was found.
use mathlib.Core.Path.{◌≡◌, refl, sym, ◌∙◌}
use mathlib.Core.Bool.{Bool, true, false, not, ◌||◌}
use mathlib.Core.List.{List, [], ◌∷◌}
use Prim.Native.Nat.{ℕ}
use lib.Dec.{eqb, ltb}
use borrow.Author.Tests.{eq-eqb, ne_eqb}
use Rattle.lists.specs.Choice.{pick}
use Rattle.tokens.specs.Token.{token, punct, register, symbol}
use Rattle.tokens.specs.Words.{word_token, prefixed}
use Rattle.record.specs.declared.header.Header.{Header}
use Rattle.record.specs.Body.{index_of, scale_of, memory_size, memory_address}
use Rattle.operand.specs.declared.numbers.Sized.{Sized}
use Rattle.record.specs.Layout.{pairs_of}
use Rattle.record.specs.Atlas.{entry_kind}
use Rattle.std.specs.Prelude.{Option, Some, None}
use Rattle.operand.specs.Expr.{Expr}
use Rattle.operand.specs.Names.{entry_at, entry_token, name_or_at, name_or, literal_at}
use Rattle.x86.specs.Width.{is_stack_pointer}
use Rattle.operand.specs.Memory.{register_token, number, prefix_word, global, slot_base, slot_number, slot_token, address_of, scaled}
use Rattle.operand.specs.Sized.{sized_of}

-- a test of what was read
pub yes_is : (a b k : ℕ) → a ≡ b → a ≡ k → eqb b k ≡ true
yes_is a b k p q = eq-eqb b k (sym p ∙ q)

pub no_is : (a b k : ℕ) → a ≡ b → (a ≡ k → ⊥) → eqb b k ≡ false
no_is a b k p q = ne_eqb b k (λ e. q (p ∙ e))

module _ (b : List ℕ) where
  pub scaled_loose : (n : ℕ) → n ≡ scale_of b → ltb 1 n ≡ (scaled b).loose
  scaled_loose n p = rw p (go (ltb 1 (scale_of b)))
    where
      go : (t : Bool) → t ≡ (pick {A = Expr} t (record { tokens = register_token (index_of b) ∷ punct " * " ∷ number false (scale_of b) ∷ []; loose = true }) (record { tokens = register_token (index_of b) ∷ []; loose = false })).loose
      go true = refl
      go false = refl

module _ (h : Header) (b : List ℕ) where
  pub slot_read : (n : Sized) (s w : ℕ) (k : Bool) → n ≡ sized_of (slot_number h b) → s ≡ slot_base h b → k ≡ is_stack_pointer h.bits s → word_token w ≡ pick (k || n.negative) (register "var_") (register "arg_")
      → prefixed (word_token w) n.size ≡ slot_token h b
  unfolding slot_token
  slot_read n s w k p q r e = rw (e, r, q, p)

-- a literal stands for an address where one was found
literal_found : (h : Header) (s : List ℕ) (e : Option ℕ) (va : ℕ) → eqb (name_or_at h s e va (symbol "unk_")).kind 5 ≡ literal_at h s e
unfolding entry_token prefixed
literal_found h s (Some k) va = go _ _ (eqb (entry_kind (pairs_of h s) k) 3)
  where
    go : (x y : List ℕ) (t : Bool) → eqb (pick t (token 4 x) (token 5 y)).kind 5 ≡ not t
    go x y true = refl
    go x y false = refl
literal_found h s None va = refl

-- a global, by what was found
pub global_found : (h : Header) (s b : List ℕ) (deref : Bool) (found : Option ℕ) (va m w : ℕ)
    → va ≡ memory_address b → found ≡ entry_at h s va → m ≡ memory_size b → word_token w ≡ prefix_word m
    → address_of (deref || literal_at h s found) (name_or_at h s found va (word_token w)) ≡ global h s deref b
unfolding name_or
global_found h s b deref found va m w p q r t = rw (← r, ← t, ← p, ← q, literal_found h s found va)
