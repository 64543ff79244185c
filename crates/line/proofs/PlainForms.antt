-- The form of an instruction's line, by its mnemonic: the table has it where the mnemonic alone decides, else one test of a mnemonic passes.
-- The definition's tests, computed at a mnemonic that is known; where none of them passes, the form is the mnemonic's.
use mathlib.Core.Path.{◌≡◌, refl, sym, ◌∙◌}
use mathlib.Core.Bool.{Bool, true, false, ◌&&◌, ◌||◌}
use mathlib.Core.List.{List}
use Prim.Native.Nat.{ℕ, ◌+◌, ◌≤◌, ◌<◌}
use native.Mathlib.Omega.{arith}
use borrow.Author.Tests.{leb-true, le-leb, lt-leb, ne_eqb}
use lib.Dec.{eqb, leb}
use lib.ListN.{get_or}
use Rattle.lists.specs.Every.{both_yes, neither}
use Rattle.x86.specs.Mnemonics as mnemonic
use Rattle.record.specs.Body.{mnemonic_of, operand_count}
use Rattle.line.specs.Forms.{cast_form, imul_form, call_form, xchg_form, plain_form, logic_form, jump_form, insn_form}
use Rattle.line.specs.Codes.{form_number, by_operands, form_byte, row_bytes}
use Rattle.line.proofs.RowTable.{form_below, byte_in}

pub logic_range : (m : ℕ) → (leb mnemonic.xor m && leb m mnemonic.or) ≡ true → (6 ≤ m) × (m ≤ 8)
logic_range m e =
    let q = both_yes (leb 6 m) (leb m 8) e in
    (leb-true 6 m q.0, leb-true m 8 q.1)

module _ (v : Bool) (b : List ℕ) (m : ℕ) (p : m ≡ mnemonic_of b) where
  pub form_imul : m ≡ mnemonic.imul → insn_form v b ≡ imul_form (operand_count b)
  unfolding insn_form
  form_imul e = rw (← p, e)

  pub form_call : m ≡ mnemonic.call → insn_form v b ≡ call_form b
  unfolding insn_form
  form_call e = rw (← p, e)

  pub form_jmp : m ≡ mnemonic.jmp → insn_form v b ≡ jump_form b
  unfolding insn_form
  form_jmp e = rw (← p, e)

  pub form_xchg : m ≡ mnemonic.xchg → insn_form v b ≡ xchg_form b
  unfolding insn_form
  form_xchg e = rw (← p, e)

  pub form_logic : (leb mnemonic.xor m && leb m mnemonic.or) ≡ true → insn_form v b ≡ logic_form m b
  unfolding insn_form
  form_logic e =
      let k : 6 ≤ m = (logic_range m e).0 in
      let l : m ≤ 8 = (logic_range m e).1 in
      rw (← p, e, le-leb 2 m (omega (arith, k)), lt-leb m 4 (omega (arith, k)), ne_eqb m 20 (λ q. omega (arith, l, q)), ne_eqb m 23 (λ q. omega (arith, l, q)), ne_eqb m 24 (λ q. omega (arith, l, q)), ne_eqb m 25 (λ q. omega (arith, l, q)), ne_eqb m 29 (λ q. omega (arith, l, q)))

  first : (x : Bool) → (x || false || false || false || false || false) ≡ true → x ≡ true
  first true e = refl
  first false e = e

  -- where the operands decide, and no other test passes
  pub form_cast : by_operands (mnemonic_of b) ≡ true → (m ≡ mnemonic.call → ⊥) → (leb mnemonic.xor m && leb m mnemonic.or) ≡ false → (m ≡ mnemonic.jmp → ⊥) → (m ≡ mnemonic.imul → ⊥) → (m ≡ mnemonic.xchg → ⊥)
      → insn_form v b ≡ cast_form m b
  unfolding insn_form
  form_cast e f g h k l =
      let q : (leb 2 m && leb m 4) ≡ true = first _ (rw (← p, g, ne_eqb m 20 k, ne_eqb m 23 f, ne_eqb m 25 h, ne_eqb m 29 l) at e) in
      rw (← p, q)

  plain_is : (by_operands m || eqb m mnemonic.ret) ≡ false → insn_form v b ≡ plain_form m
  unfolding insn_form
  plain_is e =
      let casts = leb mnemonic.movzx m && leb m mnemonic.movsxd in
      let logic = leb mnemonic.xor m && leb m mnemonic.or in
      let imul = eqb m mnemonic.imul in
      let call = eqb m mnemonic.call in
      let jmp = eqb m mnemonic.jmp in
      let r = neither (by_operands m) (eqb m mnemonic.ret) e in
      let x = neither (casts || logic || imul || call || jmp) (eqb m mnemonic.xchg) r.0 in
      let j = neither (casts || logic || imul || call) jmp x.0 in
      let k = neither (casts || logic || imul) call j.0 in
      let i = neither (casts || logic) imul k.0 in
      let l = neither casts logic i.0 in
      rw (← p, l.0, l.1, i.1, k.1, j.1, x.1, r.1)

-- what the table's byte tells of mnemonic m
module _ (b t : List ℕ) (m : ℕ) (p : m ≡ mnemonic_of b) (l : m < 256) (e : t ≡ row_bytes) where
  byte : get_or t (768 + m) 0 ≡ form_byte m
  byte = rw e (byte_in m l)

  pub told : (v : Bool) → get_or t (768 + m) 0 < 48 → get_or t (768 + m) 0 ≡ form_number (insn_form v b)
  told v k = go (by_operands m || eqb m mnemonic.ret) refl where
    go : (x : Bool) → x ≡ (by_operands m || eqb m mnemonic.ret) → get_or t (768 + m) 0 ≡ form_number (insn_form v b)
    go true q = let z : get_or t (768 + m) 0 ≡ 255 = byte ∙ rw (← q) in absurd (omega (arith, z, k))
    go false q = byte ∙ rw (← q, plain_is v b m p (sym q))

  pub untold : 48 ≤ get_or t (768 + m) 0 → (m ≡ mnemonic.ret → ⊥) → by_operands (mnemonic_of b) ≡ true
  untold k n = rw (← p) (go (by_operands m) refl) where
    go : (x : Bool) → x ≡ by_operands m → by_operands m ≡ true
    go true q = sym q
    go false q =
        let z : get_or t (768 + m) 0 ≡ form_number (plain_form m) = byte ∙ rw (← q, ne_eqb m mnemonic.ret n) in
        absurd (omega (arith, k, form_below _ (plain_form m) z))
