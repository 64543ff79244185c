-- How long a condition and the arguments of a call can be, in tokens and in bytes.
-- Each part has a bound, and those of tokens behind each other are added.
use mathlib.Core.Bool.{Bool, true, false, ◌&&◌}
use mathlib.Core.List.{List, [], ◌∷◌, ◌++◌}
use Prim.Native.Nat.{ℕ, zero, suc, ◌+◌, ◌-◌, ◌*◌, ◌^◌, ◌≤◌}
use native.Mathlib.Omega.{arith}
use lib.Dec.{leb→le, eqb, ltb}
use lib.IntN.{nat_abs}
use lib.ListN.{length, take, length-take}
use Rattle.lists.specs.Every.{every_at}
use Rattle.tokens.specs.Token.{Token, punct, keyword}
use Rattle.x86.specs.Mnemonics.{is_bt_or_imul}
use Rattle.x86.specs.Width.{passes_registers}
use Rattle.x86.specs.Conditions.{condition_names, condition_name, Relation, none, relations, operator_text, relation_after_cmp, relation_after_test, relation_after_other, prints_unsigned}
use Rattle.x86.specs.Conventions.{microsoft, system_v, argument_registers, argument_count}
use Rattle.record.specs.declared.header.Header.{Header}
use Rattle.record.specs.Layout.{bodies_at, bodies_of}
use Rattle.record.specs.Body.{mnemonic_of}
use Rattle.operand.specs.Alike.{alike}
use Rattle.operand.specs.Memory.{number}
use Rattle.operand.specs.Operand.{op_tokens}
use Rattle.operand.proofs.Bounds.{AllBytes, bytes_drop, up_to, Within, nothing, more, one, both, wrapped, register_within, number_within, op_within}
use Rattle.operand.proofs.Choices.{either, pick_le}
use Rattle.x86.specs.Mnemonics.{push, call}
use Rattle.std.specs.Prelude.{Option, Some, None}
use Rattle.expressions.specs.Condition.{operator, flags_word, relation_or, unsigned_if, flag_writer, body_of, after_cmp, tested, after_writer, condition_after, condition_tokens}
use Rattle.expressions.specs.Arguments.{comma_if, listed, register_arguments, is_unskipped, pushes_back, pushed, argument_tokens}

-- tokens behind a comma, or none
pub comma_within : {n m : ℕ} {ts : List Token} (b : Bool) → Within n m ts → Within (1 + n) (2 + m) (comma_if b ts)
comma_within true p = both (one (punct ", ") 2 (omega arith)) p
comma_within {n = n} {m = m} false p = more (1 + n) (2 + m) p (omega arith) (omega arith)

-- an operator has at most 4 bytes
operator_within : (r : ℕ) → Within 1 4 (operator r ∷ [])
unfolding operator_text
operator_within r = one (operator r) 4 (leb→le _ _ (every_at (λ (q : Relation). up_to 4 q.text) none tt relations r tt))

-- a name has at most 2 letters
flags_within : (cc : ℕ) → Within 1 10 (flags_word cc ∷ [])
unfolding condition_name condition_names
flags_within cc =
    let name : length (condition_name cc) ≤ 2 = leb→le _ _ (every_at (up_to 2) [] tt condition_names cc tt) in
    either (λ (t : Token). Within 1 10 (t ∷ [])) (ltb 0 cc && ltb cc 17) _ _ (one _ 10 (omega (arith, name))) (one _ 10 (omega arith))

relation_within : (n m cc r : ℕ) (ts : List Token) → 1 ≤ n → 10 ≤ m → Within n m ts → Within n m (relation_or cc r ts)
relation_within n m cc r ts a b p = either (Within n m) (ltb r 6) _ _ p (more n m (flags_within cc) a b)

unsigned_within : {n m : ℕ} {ts : List Token} (b : Bool) → Within n m ts → Within (1 + n) (10 + m) (unsigned_if b ts)
unsigned_within true p = both (one (keyword "(unsigned)") 10 (omega arith)) p
unsigned_within {n = n} {m = m} false p = more (1 + n) (10 + m) p (omega arith) (omega arith)

-- the argument registers
listed_within : (comma : Bool) (rs : List ℕ) → Within (2 * length rs) (7 * length rs) (listed comma rs)
unfolding listed
listed_within comma [] = nothing
listed_within comma (r ∷ rs) = more _ _ (comma_within comma (both (register_within r) (listed_within true rs))) (omega arith) (omega arith)

registers_within : (convention mask : ℕ) → Within 12 42 (register_arguments convention mask)
unfolding register_arguments argument_registers
registers_within convention mask =
    let few : length (argument_registers convention) ≤ 6 = pick_le length 6 (eqb convention 0) microsoft system_v (omega arith) (omega arith) in
    let l = length-take (argument_count convention mask) (argument_registers convention) in
    more 12 42 (listed_within false (take (argument_count convention mask) (argument_registers convention))) (omega (arith, few, l)) (omega (arith, few, l))

back_few : (bits frame : ℕ) (bodies : List ℕ) (first n : ℕ) → length (pushes_back bits frame bodies first n) ≤ n
unfolding pushes_back
back_few bits frame bodies first zero = omega arith
back_few bits frame bodies first (suc n) =
    let l = back_few bits frame bodies first n in
    pick_le length (suc n) (is_unskipped bits frame bodies call (first + n)) _ _ (omega arith)
    (pick_le length (suc n) (is_unskipped bits frame bodies push (first + n)) _ _ (omega (arith, l)) (omega (arith, l)))

pub body_bytes : (h : Header) (s : List ℕ) → AllBytes s → (i : ℕ) → AllBytes (body_of h s i)
body_bytes h s ss i = bytes_drop (92 * i) (bodies_of h s) (bytes_drop (bodies_at h) s ss)

module _ (h : Header) (s : List ℕ) (ss : AllBytes s) (shift : nat_abs h.shift ≤ 2 ^ 31) where
  pub operand_within : (i k : ℕ) → Within 14 487 (op_tokens h s (body_of h s i) k)
  operand_within i k = op_within h s (body_of h s i) ss (body_bytes h s ss i) shift k

  -- conditions
  after_cmp_lem : (i cc : ℕ) → Within 40 1002 (after_cmp h s (body_of h s i) cc)
  after_cmp_lem i cc =
      relation_within 40 1002 cc (relation_after_cmp cc) _ (omega arith) (omega arith)
      (more 40 1002
      (both (unsigned_within (prints_unsigned cc) (operand_within i 0)) (both (operator_within (relation_after_cmp cc)) (operand_within i 1)))
      (omega arith) (omega arith))

  tested_within : (i : ℕ) → Within 31 979 (tested h s (body_of h s i))
  tested_within i =
      either (Within 31 979) (alike h s (body_of h s i)) _ _ (more 31 979 (operand_within i 0) (omega arith) (omega arith))
      (wrapped 29 977 (record { tokens = op_tokens h s (body_of h s i) 0 ++ (punct " & " ∷ op_tokens h s (body_of h s i) 1); loose = true })
      (both (operand_within i 0) (both (one (punct " & ") 3 (omega arith)) (operand_within i 1))))

  against_zero : (n m cc r : ℕ) (ts : List Token) → n ≤ 31 → m ≤ 979 → Within n m ts → Within 40 1002 (relation_or cc r (ts ++ (operator r ∷ number false 0 ∷ [])))
  against_zero n m cc r ts a b p =
      relation_within 40 1002 cc r _ (omega arith) (omega arith)
      (more 40 1002 (both p (both (operator_within r) (number_within false 0 (omega arith)))) (omega arith) (omega arith))

  after_writer_lem : (i cc : ℕ) → Within 40 1002 (after_writer h s (body_of h s i) cc)
  unfolding after_writer
  after_writer_lem i cc =
      either (Within 40 1002) (eqb (mnemonic_of (body_of h s i)) 38) _ _ (after_cmp_lem i cc)
      (either (Within 40 1002) (eqb (mnemonic_of (body_of h s i)) 39) _ _ (against_zero 31 979 cc (relation_after_test cc) _ (omega arith) (omega arith) (tested_within i))
      (either (Within 40 1002) (is_bt_or_imul (mnemonic_of (body_of h s i))) _ _ (more 40 1002 (flags_within cc) (omega arith) (omega arith))
      (against_zero 14 487 cc (relation_after_other cc) _ (omega arith) (omega arith) (operand_within i 0))))

  pub condition_within : (first i cc : ℕ) → Within 40 1002 (condition_tokens h s first i cc)
  unfolding condition_tokens
  condition_within first i cc = go (flag_writer (bodies_of h s) first (i - first))
    where
      go : (w : Option ℕ) → Within 40 1002 (condition_after h s w cc)
      go (Some p) = after_writer_lem p cc
      go None = more 40 1002 (flags_within cc) (omega arith) (omega arith)

  -- at most 500 pushes stand before a call
  pushed_within : (comma : Bool) (is : List ℕ) → Within (15 * length is) (489 * length is) (pushed h s comma is)
  unfolding pushed
  pushed_within comma [] = nothing
  pushed_within comma (i ∷ is) = more _ _ (comma_within comma (both (operand_within i 0) (pushed_within true is))) (omega arith) (omega arith)

  pub arguments_within : (first i mask : ℕ) → i ≤ 500 → Within 7500 244500 (argument_tokens h s first i mask)
  unfolding argument_tokens
  arguments_within first i mask l =
      let few = back_few h.bits h.frame (bodies_of h s) first (i - first) in
      either (Within 7500 244500) (passes_registers h.bits) _ _
      (more 7500 244500 (registers_within h.convention mask) (omega arith) (omega arith))
      (more 7500 244500 (pushed_within false (pushes_back h.bits h.frame (bodies_of h s) first (i - first))) (omega (arith, few)) (omega (arith, few)))
