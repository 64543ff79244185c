-- What the programs for a store of records print keeps what they promise.
-- Their lists have room for every record, so that only questions 1 to 4 are left; a long input gets a no from one of them.
use mathlib.Core.Path.{◌≡◌, refl, sym, ap, ◌∙◌}
use mathlib.Core.List.{List}
use Prim.Native.Nat.{ℕ, zero, suc, ◌*◌, ◌≤◌}
use native.Mathlib.Decide.{dec_le}
use native.Mathlib.Omega.{arith}
use borrow.Author.Tests.{le-leb, eqb-true}
use lib.ListN.{length, take, length-take}
use lib.Seq.{take_all, take-take}
use Rattle.std.specs.declared.result.Result.{Result}
use Rattle.std.specs.Prelude.{Ok, Err}
use Rattle.lists.specs.Question.{Answers, left_in}
use Rattle.lists.specs.declared.question.Question.{Question}
use Rattle.lists.proofs.Answered.{number_some}
use Rattle.record.specs.declared.header.Header.{Header}
use Rattle.record.specs.Header.{header_of}
use Rattle.record.specs.Layout.{size_of}
use Rattle.record.specs.Asked.{sizes_no}
use Rattle.record.proofs.AskedLaws.{sizes_limits, sizes_length}
use Rattle.record.proofs.SizeLaws.{size_small, long_no_lem, long_judged}
use Rattle.columns.specs.Columns.{rearranged}
use Rattle.columns.specs.Called.{store_no, Stores}
use Rattle.columns.proofs.Restored.{is_rearranged}
use Rattle.page.specs.Page.{refusal, output_for, stored_output}
use Rattle.page.proofs.Pieces.{stands_whole}
use Rattle.store.specs.Output.{printed, Prints}

-- a record fits the programs' lists
record_small : (s : List ℕ) → sizes_no s ≡ 0 → length s ≤ 64336
record_small s asked = omega (arith, eqb-true (length s) (size_of (header_of s)) (sizes_length s asked), size_small (header_of s) (sizes_limits s asked))

-- so 12 is never their answer
sizes_alone : (s : List ℕ) (room : ℕ) → 65536 ≤ room → store_no s room ≡ sizes_no s
unfolding store_no
sizes_alone s room h = go (sizes_no s) refl
  where
    go : (n : ℕ) → sizes_no s ≡ n → store_no s room ≡ n
    go zero e = rw (e, le-leb (length s) room (omega (arith, record_small s e)))
    go (suc n) e = rw e

-- what is printed of what a call left, by its number
output_is : (n m : ℕ) (t e : List ℕ) (r : Result ℕ Question) → Answers n m r → (n ≡ 0 → (m ≡ length t) × (m ≤ length e)) → stored_output r (left_in n t e) ≡ output_for n t
output_is zero m t e (Ok y) v h = stands_whole t e _ y (v.1 ∙ (h refl).0) refl (omega (arith, v.1, (h refl).1))
output_is zero m t e (Err q) v h = absurd (omega (arith, v, number_some q))
output_is (suc k) m t e (Ok y) v h = absurd (omega (arith, v.0))
output_is (suc k) m t e (Err q) v h = ap refusal (sym v)

module _ (rows columns : Header → ℕ) where
  refused_printed : (s : List ℕ) (k : ℕ) → sizes_no s ≡ suc k → printed rows columns s ≡ refusal (suc k)
  unfolding printed
  refused_printed s k e = rw e

  -- to print what the first 65,537 bytes or more say is to print what all say
  judged : (s : List ℕ) (n : ℕ) → 65537 ≤ n → printed rows columns (take n s) ≡ printed rows columns s
  judged s n big =
      elim (dec_le (length s) n) [
        | yes a ↦ ap (printed rows columns) (take_all n s a)
        | no a ↦
            let p = long_no_lem s (omega arith) in
            let e = long_judged (take n s) s (take-take 24 n s (omega arith)) (omega (arith, length-take n s)) (omega arith) in
            refused_printed (take n s) p.0 (e ∙ p.1.0) ∙ sym (refused_printed s p.0 p.1.0)
      ]

  module _ (s : List ℕ) (all : columns (header_of s) * rows (header_of s) ≡ 92 * (header_of s).instructions) where
    back : sizes_no s ≡ 0 → printed columns rows (printed rows columns s) ≡ s
    unfolding printed
    back asked =
        let p = is_rearranged rows columns s asked all in
        rw (asked, p.asked) p.restored

    is_printed : (e e' : List ℕ) (r : Result ℕ Question) → 65536 ≤ length e → Stores rows columns s e e' r → stored_output r e' ≡ printed rows columns s
    unfolding printed
    is_printed e e' r room told =
        let only = sizes_alone s (length e) room in
        rw (told.list, only)
        (output_is (sizes_no s) (length s) (rearranged rows columns s) e r (rw only at told.answer)
        (λ asked. (sym (is_rearranged rows columns s asked all).long, omega (arith, record_small s asked))))

    pub prints : (e e' out : List ℕ) (r : Result ℕ Question) → 65536 ≤ length e → Stores rows columns s e e' r → out ≡ stored_output r e' → Prints rows columns s out
    prints e e' out r room told is =
        let text = is ∙ is_printed e e' r room told in
        record {
          text = text;
          judged = λ n h. text ∙ sym (judged s n h);
          refused = λ long. let p = long_no_lem s long in (suc p.0, (omega arith, p.1.1, text ∙ refused_printed s p.0 p.1.0));
          back = λ asked. rw text (back asked);
        }
