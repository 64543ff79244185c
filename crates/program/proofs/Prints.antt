-- What a program prints keeps what it promises: more than 65,537 bytes change nothing, and it is never `no 14`.
-- The fifth byte tells `no 14` from every other number; what is shown of a listing must be told from it by another law.
use mathlib.Core.Path.{◌≡◌, refl, sym, ap, ◌∙◌}
use mathlib.Core.List.{List}
use Prim.Native.Nat.{ℕ, zero, suc, ◌+◌, ◌/◌, ◌%◌, ◌≤◌}
use native.Mathlib.Decide.{dec_le}
use native.Mathlib.Omega.{arith}
use lib.ListN.{get_or}
use Rattle.rows.specs.Lists.{Lists}
use Rattle.pseudo.proofs.Promises.{call_within}
use Rattle.text.specs.Decimal.{decimal_of}
use Rattle.text.proofs.DecimalLaws.{decimal_one, decimal_more}
use Rattle.page.specs.Page.{numbered, refusal, output_for}
use Rattle.program.specs.Output.{program_rooms, blocks, program_no, whole_lists, output_text, Prints}
use Rattle.program.proofs.Long.{long_refused, judged}
use Rattle.program.proofs.Suffice.{not_14}

abbrev fifth : List ℕ → ℕ
fifth t = get_or t 4 0

-- 52 is the `4` of `no 14`; after one digit LF stands there
refusal_fifth : (n : ℕ) → n ≤ 15 → (n ≡ 14 → ⊥) → fifth (refusal n) ≡ 52 → ⊥
unfolding numbered
refusal_fifth n h o e =
    elim (dec_le 10 n) [
      | yes a ↦ let is : fifth (refusal n) ≡ 48 + n % 10 = rw (decimal_more n a (omega arith), decimal_one (n / 10) (omega arith)) in o (omega (arith, is, e))
      | no a ↦ let is : fifth (refusal n) ≡ 10 = rw (decimal_one n (omega arith)) in omega (arith, is, e)
    ]

fifth_14 : fifth (refusal 14) ≡ 52
unfolding numbered decimal_of
fifth_14 = refl

output_other : (n : ℕ) (text : List ℕ) → n ≤ 15 → (n ≡ 14 → ⊥) → (n ≡ 0 → text ≡ refusal 14 → ⊥) → output_for n text ≡ refusal 14 → ⊥
output_other zero text h o p e = p refl e
output_other (suc n) text h o p e = refusal_fifth (suc n) h o (ap fifth e ∙ fifth_14)

module _ (shown : Lists → List ℕ) (s out : List ℕ) (other : program_no s ≡ 0 → shown (whole_lists s) ≡ refusal 14 → ⊥) (is : out ≡ output_text shown s) where
  never_14 : out ≡ refusal 14 → ⊥
  unfolding output_text
  never_14 e = output_other (program_no s) (shown (whole_lists s)) (call_within s 0 (blocks s) program_rooms) (not_14 s) other (sym is ∙ e)

  pub prints : Prints shown s out
  prints = record {
    text = is;
    judged = λ n h. is ∙ sym (judged shown s n h);
    refused = λ h. let r = long_refused shown s h in (r.0, (r.1.0, r.1.1, is ∙ r.1.2));
    suffices = never_14;
  }
