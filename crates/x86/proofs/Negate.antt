-- `negate` turns each of the conditions 1 to 16 over, on every setting of the flags, and stays within sets that have each with its opposite.
-- One test that antt computes, of 16 conditions at 32 settings; one of 17 numbers for each set.
use mathlib.Core.Path.{◌≡◌, sym, subst, ◌∙◌}
use mathlib.Core.Bool.{Bool, true, false, not, ◌&&◌, beq, false≢true}
use mathlib.Core.List.{[]}
use Prim.Native.Nat.{ℕ, zero, suc, ◌+◌, ◌-◌, ◌≤◌, ◌<◌}
use Prim.Native.String.{String}
use native.Mathlib.Decide.{dec_lt, dec_le}
use native.Mathlib.Omega.{arith}
use borrow.Author.Tests.{lt-ltb, ne_eqb}
use lib.Dec.{T}
use Rattle.lists.specs.Choice.{all_below}
use Rattle.lists.specs.Every.{both_left, both_right, beq→eq}
use Rattle.lists.specs.Below.{below_at}
use Rattle.x86.specs.Flags.{Flags, condition_holds}
use Rattle.x86.specs.Conditions.{condition_names, condition_name, among, negate}
use Rattle.x86.specs.FlagRule.{Negates}
use Rattle.x86.specs.Words.{words_of, is_word_of}
use Rattle.x86.proofs.Past.{no_condition}

-- a test at both values of a flag
abbrev flag : (Bool → Bool) → Bool
flag p = p true && p false

flag_at : (p : Bool → Bool) → T (flag p) → (b : Bool) → T (p b)
flag_at p t true = both_left (p true) (p false) t
flag_at p t false = both_right (p true) (p false) t

-- a test of five flags, at one setting and at all
abbrev on : (Flags → Bool) → Bool → Bool → Bool → Bool → Bool → Bool
on p c q z s o = p (record { cf = c; pf = q; zf = z; sf = s; of = o })

abbrev settings : (Flags → Bool) → Bool
settings p = flag (λ c. flag (λ q. flag (λ z. flag (λ s. flag (on p c q z s)))))

settings_at : (p : Flags → Bool) → T (settings p) → (f : Flags) → T (p f)
settings_at p t f =
    flag_at (on p f.cf f.pf f.zf f.sf)
    (flag_at (λ s. flag (on p f.cf f.pf f.zf s))
    (flag_at (λ z. flag (λ s. flag (on p f.cf f.pf z s)))
    (flag_at (λ q. flag (λ z. flag (λ s. flag (on p f.cf q z s))))
    (flag_at (λ c. flag (λ q. flag (λ z. flag (λ s. flag (on p c q z s))))) t f.cf)
    f.pf) f.zf) f.sf) f.of

turned : ℕ → Flags → Bool
turned k f = beq (condition_holds (negate (k + 1)) f) (not (condition_holds (k + 1) f))

all_turned : T (all_below (λ k. settings (turned k)) 16)
unfolding negate turned
all_turned = tt

from_zero : (k : ℕ) → k < 16 → Negates (k + 1)
unfolding turned
from_zero k h f =
    beq→eq (condition_holds (negate (k + 1)) f) (not (condition_holds (k + 1) f))
    (settings_at (turned k) (below_at (λ j. settings (turned j)) 16 all_turned k h) f)

pub negate_turns : (k : ℕ) → 1 ≤ k → k ≤ 16 → Negates k
negate_turns k l h = let e : k - 1 + 1 ≡ k = omega arith in subst Negates e (from_zero (k - 1) (omega arith))

-- a set that has with each condition its opposite
abbrev pub closed : String → Bool
closed names = all_below (λ k. beq (among (negate k) names) (among k names)) 17

negate_past : (k : ℕ) → 17 ≤ k → negate k ≡ k
unfolding negate
negate_past k h = rw (ne_eqb k 0 (omega arith), lt-ltb 16 k (omega arith))

pub among_negated : (names : String) → T (closed names) → (k : ℕ) → among (negate k) names ≡ among k names
among_negated names t k =
    elim (dec_lt k 17) [
      | yes h ↦ beq→eq (among (negate k) names) (among k names) (below_at (λ j. beq (among (negate j) names) (among j names)) 17 t k h)
      | no h ↦ rw (negate_past k (omega arith))
    ]

-- what is named is one of the sixteen
pub named_turns : (names : String) → is_word_of [] (words_of names) ≡ false → (k : ℕ) → among k names ≡ true → Negates k
unfolding condition_name condition_names
named_turns names e zero a = absurd (false≢true (sym e ∙ a))
named_turns names e (suc k) a =
    elim (dec_le k 15) [
      | yes h ↦ negate_turns (suc k) (omega arith) (omega arith)
      | no h ↦ absurd (false≢true (sym e ∙ (rw (no_condition (suc k) (omega arith)) at a)))
    ]
