-- "Longer input is judged by its first 65,537 bytes, so 4 refuses it at the latest."
-- A long input gets a no from questions 1 to 4, and its first 65,537 bytes the same.
use mathlib.Core.Path.{◌≡◌, sym, ap, ◌∙◌}
use mathlib.Core.List.{List}
use Prim.Native.Nat.{ℕ, suc, ◌≤◌, ◌<◌}
use native.Mathlib.Decide.{dec_le}
use native.Mathlib.Omega.{arith}
use lib.ListN.{length, take, length-take}
use lib.Seq.{take_all, take-take}
use Rattle.record.specs.Asked.{sizes_no, first_no}
use Rattle.record.proofs.SizeLaws.{long_no_lem, long_judged}
use Rattle.rows.specs.Lists.{Lists}
use Rattle.pseudo.specs.Called.{call_no}
use Rattle.page.specs.Page.{refusal}
use Rattle.program.specs.Output.{output_text}

module _ (shown : Lists → List ℕ) where
  long_output : (s : List ℕ) (k : ℕ) → sizes_no s ≡ suc k → output_text shown s ≡ refusal (suc k)
  unfolding output_text call_no first_no
  long_output s k e = rw e

  pub long_refused : (s : List ℕ) → 65536 < length s → (k : ℕ) × ((1 ≤ k) × (k ≤ 4) × (output_text shown s ≡ refusal k))
  long_refused s long =
      let p = long_no_lem s long in
      (suc p.0, (omega arith, p.1.1, long_output s p.0 p.1.0))

  -- to print what the first 65,537 bytes or more say is to print what all say
  pub judged : (s : List ℕ) (n : ℕ) → 65537 ≤ n → output_text shown (take n s) ≡ output_text shown s
  judged s n big =
      elim (dec_le (length s) n) [
        | yes a ↦ ap (output_text shown) (take_all n s a)
        | no a ↦
            let p = long_no_lem s (omega arith) in
            let e = long_judged (take n s) s (take-take 24 n s (omega arith)) (omega (arith, length-take n s)) (omega arith) in
            long_output (take n s) p.0 (e ∙ p.1.0) ∙ sym (long_output s p.0 p.1.0)
      ]
