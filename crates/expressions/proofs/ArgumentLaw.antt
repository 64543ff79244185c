-- A call's register arguments end at the last convention register written since the last call that is not silent.
-- A register has its bit in the mask exactly where an instruction since that call wrote it: by induction over the instructions.
use mathlib.Core.Path.{◌≡◌, refl, sym, ap, ◌∙◌, subst}
use mathlib.Core.Bool.{Bool, true, false, ◌&&◌, ◌||◌, false≢true, or-false}
use mathlib.Core.List.{List, [], ◌∷◌, map}
use Prim.Native.Nat.{ℕ, zero, suc, ◌-◌, ◌/◌, ◌^◌, ◌≤◌, ◌<◌}
use native.Mathlib.Decide.{dec_le, dec_lt, ℕ_discrete}
use native.Mathlib.Nat.{not-suc-le-zero, le_of_suc-le-suc, zero-div}
use native.Mathlib.Omega.{arith}
use borrow.Author.Tests.{le-leb, lt-leb, le-ltb, eq-eqb, ne_eqb}
use lib.Dec.{T, eqb, ltb, eqb→eq}
use lib.ListN.{length, take, get_or}
use Rattle.lists.specs.Choice.{pick, all_below}
use Rattle.lists.specs.Below.{below_at}
use Rattle.x86.specs.Registers.{full_register, register_name, qword}
use Rattle.x86.specs.Conventions.{microsoft, system_v, argument_registers, arguments_named, argument_count, written, any_written, up_to_last, with_written}
use Rattle.x86.proofs.Written.{now_written, still_written, up_to}
use Rattle.record.specs.Body.{operand_count, operand_kind, operand_register}
use Rattle.expressions.specs.Arguments.{listed, register_arguments, written_after}
use Rattle.expressions.specs.ArgumentLaw.{writes, wrote, is_call, has_call, since_call, separated, UpToLast}

-- a mask with one more full register
with_qword : (m i j : ℕ) → i < 16 → j < 16 → written (with_written m (qword i)) (qword j) ≡ (eqb (qword i) (qword j) || written m (qword j))
with_qword m i j p q =
    elim (ℕ_discrete i j) [
      | yes e ↦ rw (← e, now_written m i p, eq-eqb (qword i) (qword i) refl)
      | no n ↦ rw (still_written m i p j q n, ne_eqb (qword i) (qword j) (λ e. n (omega arith)))
    ]

with_full : (m full j : ℕ) → j < 16 → written (with_written m full) (qword j) ≡ (eqb full (qword j) || written m (qword j))
unfolding with_written
with_full m full j q =
    elim (dec_le 80 full) [
      | yes a ↦
          elim (dec_lt full 96) [
            | yes b ↦
                let e : qword (full - 80) ≡ full = omega arith in
                subst (λ (r : ℕ). written (with_written m r) (qword j) ≡ (eqb r (qword j) || written m (qword j))) e (with_qword m (full - 80) j (omega arith) q)
            | no b ↦ rw (le-leb 80 full a, le-ltb full 96 (omega arith), ne_eqb full (qword j) (λ e. b (omega arith)))
          ]
      | no a ↦ rw (lt-leb 80 full (omega arith), ne_eqb full (qword j) (λ e. a (omega arith)))
    ]

-- behind an instruction that is no call
step : (m j : ℕ) (b : List ℕ) → j < 16 → is_call b ≡ false → written (written_after m b) (qword j) ≡ (writes (qword j) b || written m (qword j))
unfolding written_after
step m j b q n = rw n (go (ltb 0 (operand_count b) && eqb (operand_kind b 0) 0))
  where
    go : (t : Bool) → written (pick t (with_written m (full_register (operand_register b 0))) m) (qword j) ≡ (t && eqb (full_register (operand_register b 0)) (qword j) || written m (qword j))
    go true = with_full m (full_register (operand_register b 0)) j q
    go false = refl

shuffle : (a b c : Bool) → (a || (b || c)) ≡ (b || a || c)
shuffle true true c = refl
shuffle true false c = refl
shuffle false true c = refl
shuffle false false c = refl

none_left : (a b : Bool) → (a || b) ≡ false → a ≡ false
none_left true b h = h
none_left false b h = refl

none_right : (a b : Bool) → (a || b) ≡ false → b ≡ false
none_right true true h = h
none_right true false h = refl
none_right false b h = h

-- the mask behind instructions
abbrev pub behind : ℕ → List (List ℕ) → ℕ
behind m [] = m
behind m (b ∷ bs) = behind (written_after m b) bs

-- behind instructions none of which is a call
over : (m j : ℕ) (bs : List (List ℕ)) → j < 16 → has_call bs ≡ false → written (behind m bs) (qword j) ≡ (wrote (qword j) bs || written m (qword j))
over m j [] q n = refl
over m j (b ∷ bs) q n =
    over (written_after m b) j bs q (none_right (is_call b) (has_call bs) n)
    ∙ ap (λ (t : Bool). wrote (qword j) bs || t) (step m j b q (none_left (is_call b) (has_call bs) n))
    ∙ shuffle (wrote (qword j) bs) (writes (qword j) b) (written m (qword j))

empty : (j : ℕ) → written 0 (qword j) ≡ false
unfolding written
empty j = rw (zero-div (2 ^ (qword j - 80)))

since_same : (bs : List (List ℕ)) → has_call bs ≡ false → since_call bs ≡ bs
since_same [] n = refl
since_same (b ∷ bs) n = rw n

since_none : (bs : List (List ℕ)) → has_call (since_call bs) ≡ false
since_none [] = refl
since_none (b ∷ bs) = go (has_call (b ∷ bs)) refl (since_none bs)
  where
    go : (t : Bool) → has_call (b ∷ bs) ≡ t → has_call (since_call bs) ≡ false → has_call (pick t (since_call bs) (b ∷ bs)) ≡ false
    go true e ih = ih
    go false e ih = e

cleared : (m : ℕ) (b : List ℕ) → is_call b ≡ true → written_after m b ≡ 0
unfolding written_after
cleared m b y = rw y

-- a call leaves the mask empty
since : (m : ℕ) (bs : List (List ℕ)) → has_call bs ≡ true → behind m bs ≡ behind 0 (since_call bs)
since m [] y = absurd (false≢true y)
since m (b ∷ bs) y = rw y (go (is_call b) (has_call bs) refl refl y (since (written_after m b) bs))
  where
    go : (c t : Bool) → is_call b ≡ c → has_call bs ≡ t → (c || t) ≡ true → (has_call bs ≡ true → behind (written_after m b) bs ≡ behind 0 (since_call bs)) → behind (written_after m b) bs ≡ behind 0 (since_call bs)
    go c true f e y ih = ih e
    go true false f e y ih = rw (cleared m b f, since_same bs e)
    go false false f e y ih = absurd (false≢true y)

since_start : (bs : List (List ℕ)) → behind 0 bs ≡ behind 0 (since_call bs)
since_start bs = go (has_call bs) refl
  where
    go : (t : Bool) → has_call bs ≡ t → behind 0 bs ≡ behind 0 (since_call bs)
    go true e = since 0 bs e
    go false e = rw (since_same bs e)

-- a register's bit tells whether it was written since the last call
bit_wrote : (bs : List (List ℕ)) (j : ℕ) → j < 16 → written (behind 0 bs) (qword j) ≡ wrote (qword j) (since_call bs)
bit_wrote bs j q =
    ap (λ (m : ℕ). written m (qword j)) (since_start bs)
    ∙ over 0 j (since_call bs) q (since_none bs)
    ∙ ap (λ (t : Bool). wrote (qword j) (since_call bs) || t) (empty j)
    ∙ or-false (wrote (qword j) (since_call bs))

-- Registers up to the last one with a bit.
module _ (mask : ℕ) where
  none_written : (rs : List ℕ) (k : ℕ) → any_written mask rs ≡ false → k < length rs → written mask (get_or rs k 0) ≡ false
  none_written [] k n l = absurd (not-suc-le-zero l)
  none_written (r ∷ rs) zero n l = none_left (written mask r) (any_written mask rs) n
  none_written (r ∷ rs) (suc k) n l = none_written rs k (none_right (written mask r) (any_written mask rs) n) (le_of_suc-le-suc l)

  up_to_behind : (rs : List ℕ) (k : ℕ) → up_to_last mask rs ≤ k → k < length rs → written mask (get_or rs k 0) ≡ false
  up_to_behind [] k g l = absurd (not-suc-le-zero l)
  up_to_behind (r ∷ rs) k g l = go (any_written mask (r ∷ rs)) refl k g l (up_to_behind rs)
    where
      go : (t : Bool) → any_written mask (r ∷ rs) ≡ t → (k : ℕ) → pick t (suc (up_to_last mask rs)) 0 ≤ k → k < suc (length rs)
          → ((k : ℕ) → up_to_last mask rs ≤ k → k < length rs → written mask (get_or rs k 0) ≡ false) → written mask (get_or (r ∷ rs) k 0) ≡ false
      go true e zero g l ih = absurd (not-suc-le-zero g)
      go true e (suc k) g l ih = ih k (le_of_suc-le-suc g) (le_of_suc-le-suc l)
      go false e k g l ih = none_written (r ∷ rs) k e l

  up_to_none : (rs : List ℕ) → up_to_last mask rs ≡ 0 → any_written mask rs ≡ false
  up_to_none [] e = refl
  up_to_none (r ∷ rs) e = go (any_written mask (r ∷ rs)) e
    where
      go : (t : Bool) → pick t (suc (up_to_last mask rs)) 0 ≡ 0 → t ≡ false
      go true e = absurd (omega arith)
      go false e = refl

  up_to_last_lem : (rs : List ℕ) (k : ℕ) → up_to_last mask rs ≡ suc k → written mask (get_or rs k 0) ≡ true
  up_to_last_lem [] k e = absurd (omega arith)
  up_to_last_lem (r ∷ rs) k e = go (any_written mask (r ∷ rs)) refl k e (up_to_last_lem rs)
    where
      go : (t : Bool) → (written mask r || any_written mask rs) ≡ t → (k : ℕ) → pick t (suc (up_to_last mask rs)) 0 ≡ suc k
          → ((k : ℕ) → up_to_last mask rs ≡ suc k → written mask (get_or rs k 0) ≡ true) → written mask (get_or (r ∷ rs) k 0) ≡ true
      go true y zero e ih =
          let n : any_written mask rs ≡ false = up_to_none rs (omega arith) in
          sym (or-false (written mask r)) ∙ (ap (λ (t : Bool). written mask r || t) (sym n) ∙ y)
      go true y (suc k) e ih = ih k (omega arith)
      go false y k e ih = absurd (omega arith)

-- the conventions' registers are of class 5
qwords : (rs : List ℕ) → T (all_below (λ k. eqb (get_or rs k 0 / 16) 5) (length rs)) → (k : ℕ) → k < length rs → get_or rs k 0 / 16 ≡ 5
qwords rs t k l = eqb→eq (get_or rs k 0 / 16) 5 (below_at (λ k. eqb (get_or rs k 0 / 16) 5) (length rs) t k l)

arguments_qwords : (convention k : ℕ) → k < length (argument_registers convention) → get_or (argument_registers convention) k 0 / 16 ≡ 5
unfolding argument_registers
arguments_qwords convention = go (eqb convention 0)
  where
    go : (t : Bool) (k : ℕ) → k < length (pick t microsoft system_v) → get_or (pick t microsoft system_v) k 0 / 16 ≡ 5
    go true = qwords microsoft tt
    go false = qwords system_v tt

-- registers by number and by name
listed_named : (b : Bool) (rs : List ℕ) → listed b rs ≡ separated b (map register_name rs)
unfolding listed
listed_named b [] = refl
listed_named true (r ∷ rs) = rw (listed_named true rs)
listed_named false (r ∷ rs) = rw (listed_named true rs)

take_named : (n : ℕ) (rs : List ℕ) → map register_name (take n rs) ≡ take n (map register_name rs)
take_named zero rs = refl
take_named (suc n) [] = refl
take_named (suc n) (r ∷ rs) = ap {B = List (List ℕ)} (λ l. register_name r ∷ l) (take_named n rs)

module _ (convention : ℕ) (bs : List (List ℕ)) where
  abbrev rs : List ℕ
  rs = argument_registers convention

  abbrev mask : ℕ
  mask = behind 0 bs

  register_wrote : (k : ℕ) → k < length rs → wrote (get_or rs k 0) (since_call bs) ≡ written mask (get_or rs k 0)
  register_wrote k l =
      let w : get_or rs k 0 / 16 ≡ 5 = arguments_qwords convention k l in
      let e : qword (get_or rs k 0 - 80) ≡ get_or rs k 0 = omega arith in
      subst (λ (r : ℕ). wrote r (since_call bs) ≡ written mask r) e (sym (bit_wrote bs (get_or rs k 0 - 80) (omega arith)))

  -- the arguments printed with that mask
  pub up_to_last_written : UpToLast convention (since_call bs) (register_arguments convention mask)
  unfolding register_arguments argument_count
  up_to_last_written = record {
    named = arguments_named convention;
    count = up_to_last mask rs;
    ends = record {
      within = up_to mask rs;
      last_written = λ k e. register_wrote k (omega (arith, up_to mask rs)) ∙ up_to_last_lem mask rs k e;
      none_behind = λ k g l. register_wrote k l ∙ up_to_behind mask rs k g l;
    };
    tokens =
        listed_named false (take (up_to_last mask rs) rs)
        ∙ ap (separated false) (take_named (up_to_last mask rs) rs ∙ ap (take (up_to_last mask rs)) (arguments_named convention));
  }
