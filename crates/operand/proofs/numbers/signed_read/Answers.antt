-- `numbers::signed_read` meets its contract.
-- By the kind: a reading of so many bits is read back.
use mathlib.Core.Path.{◌≡◌, refl, sym}
use native.Mathlib.Nat.{mod-eq_of_lt}
use native.Mathlib.Omega.{arith}
use mir.Syntax.{w64}
use Rattle.lists.specs.SignedLaws.{signed_back}
use mathlib.Core.Logic.{⊎_elim, ◌⊎◌}
use Prim.Native.Nat.{ℕ, ◌≤◌}
use Rattle.operand.specs.Operand.{signed_read}
use Rattle.operand.proofs.numbers.signed_read.Goals as goal
use Rattle.operand.proofs.numbers.signed_read.Goals.{in-6-1, in_default+else-kind-lt5+then-kind-lt11}

nine_or_ten : (k : ℕ) → 9 ≤ k → k ≤ 10 → (k ≡ 9) ⊎ (k ≡ 10)
nine_or_ten k h l = grind arith

pub returns-in-6 : goal.returns-in-6
unfolding signed_read
returns-in-6 c =
    let v = c.args.v in
    let e = c.signed_at-in-6.ensures 64 v (omega arith) refl (sym (mod-eq_of_lt (omega arith))) in
    let r = signed_back w64 64 v (omega arith) (omega arith) _ e in
    elim c.in-6-1.branch [
      | in-6-1 w ↦ let k : c.args.kind ≡ 6 = omega arith in rw k r
      | in_default+else-kind-lt5+then-kind-lt11 w ↦
          let k : 9 ≤ c.args.kind = grind arith in
          let l : c.args.kind ≤ 10 = omega arith in
          ⊎_elim (λ (e : c.args.kind ≡ 9). rw e r) (λ (e : c.args.kind ≡ 10). rw e r) (nine_or_ten _ k l)
    ]

pub returns-in-5 : goal.returns-in-5
unfolding signed_read
returns-in-5 c =
    let v = c.args.v in
    let r = signed_back w64 32 v (omega arith) (omega arith) _ (c.signed_at.ensures 32 v (omega arith) refl refl) in
    ⊎_elim (λ e. rw e r) (λ e. rw e r) c.in-5.is

pub returns-in-7 : goal.returns-in-7
unfolding signed_read
returns-in-7 c =
    let v = c.args.v in
    rw c.in-7.is (signed_back w64 16 v (omega arith) (omega arith) _ (c.signed_at-in-7.ensures 16 v (omega arith) refl refl))
