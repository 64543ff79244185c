-- An immediate below 4096 prints as it is, unsigned.
-- It is no address, and each signed reading of it is itself.
use mathlib.Core.Path.{◌≡◌, refl, sym, ap, ◌∙◌}
use mathlib.Core.Bool.{Bool, true, false, ◌&&◌, ◌||◌}
use mathlib.Core.List.{List, [], ◌∷◌}
use Prim.Native.Nat.{ℕ, ◌-◌, ◌^◌, ◌≤◌, ◌<◌}
use native.Mathlib.Nat.{mod-eq_of_lt}
use native.Mathlib.Omega.{arith}
use borrow.Author.Tests.{leb-true, ltb-true, lt-leb}
use lib.Dec.{eqb, leb, ltb}
use lib.IntN.{pos}
use Rattle.lists.specs.Choice.{pick}
use Rattle.lists.specs.Every.{both_yes}
use Rattle.lists.specs.Signed.{signed_at}
use Rattle.lists.specs.SignedLaws.{halves}
use Rattle.lists.proofs.Turned.{below_half}
use Rattle.tokens.specs.Token.{Token}
use Rattle.record.specs.declared.header.Header.{Header}
use Rattle.record.specs.Body.{operand_kind, operand_number}
use Rattle.operand.specs.Memory.{number}
use Rattle.operand.specs.Operand.{signed_read, in_window, immediate_number, immediate, op_tokens}
use Rattle.operand.proofs.Choices.{op_immediate_is}

small_signed : (w v : ℕ) → 1 ≤ w → v < 2 ^ (w - 1) → signed_at w v ≡ pos v
small_signed w v o l = sym (below_half v (2 ^ (w - 1)) w v refl (sym (mod-eq_of_lt (omega (arith, halves w o, l)))) l)

small_read : (kind v : ℕ) → v < 4096 → in_window (signed_read kind v) ≡ false
unfolding signed_read
small_read kind v l =
    go (eqb kind 6 || eqb kind 9 || eqb kind 10) (eqb kind 5 || eqb kind 8) (eqb kind 7)
  where
    go : (a b c : Bool) → in_window (pick a (signed_at 64 v) (pick b (signed_at 32 v) (pick c (signed_at 16 v) (pos 0)))) ≡ false
    go true b c = ap in_window (small_signed 64 v (omega arith) (omega (arith, l)))
    go false true c = ap in_window (small_signed 32 v (omega arith) (omega (arith, l)))
    go false false true = ap in_window (small_signed 16 v (omega arith) (omega (arith, l)))
    go false false false = refl

module _ (h : Header) (s b : List ℕ) (i k v : ℕ) (p : k ≡ operand_kind b i) (q : v ≡ operand_number b i) where
  small_is : v < 4096 → number false v ≡ immediate h s k v
  unfolding immediate immediate_number
  small_is l = rw (lt-leb 0x1000 v l, small_read k v l)

  pub op_small_is : (leb 3 k && leb k 10 && ltb v 4096) ≡ true → number false v ∷ [] ≡ op_tokens h s b i
  op_small_is e =
      let a = both_yes (leb 3 k && leb k 10) (ltb v 4096) e in
      let c = both_yes (leb 3 k) (leb k 10) a.0 in
      let l : 3 ≤ k = leb-true 3 k c.0 in
      ap (λ (t : Token). t ∷ []) (small_is (ltb-true v 4096 a.1))
      ∙ op_immediate_is h s b i k p (λ z. omega (arith, l, z)) (λ z. omega (arith, l, z)) v q (λ z. omega (arith, l, z)) (leb-true k 10 c.1)
