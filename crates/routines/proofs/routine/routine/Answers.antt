-- `routine::routine` meets its contract.
-- By the first question that gets a no; the bytes that are left at the start of the list are the routine's record, which is accepted.
use mathlib.Core.Path.{◌≡◌, refl, sym}
use mathlib.Core.List.{List}
use Prim.Native.Nat.{ℕ, ◌+◌, ◌≤◌, ◌<◌}
use native.Mathlib.Omega.{arith}
use borrow.Author.Tests.{lt-ltb, le-ltb, le-leb, lt-leb}
use lib.ListN.{length, take, drop}
use lib.Seq.{take_at}
use Rattle.lists.specs.Put.{put}
use Rattle.lists.specs.PutLaws.{put_fits}
use Rattle.std.specs.Prelude.{Ok, Err}
use Rattle.lists.specs.declared.question.Question.{Question}
use Rattle.lists.specs.declared.question.Question.TheVariants.{TextRoom, Routine}
use Rattle.lists.specs.Question.{number, left_in}
use Rattle.lists.proofs.Answered.{number_some}
use Rattle.routines.specs.Called.{made, routine_no, Makes}
use Rattle.routines.proofs.Full.{full}
use Rattle.routines.proofs.Accepted.{accepted, short}
use Rattle.routines.proofs.routine.routine.Goals as goal

module _ (k : ℕ) (out : List ℕ) where
  refused : (q : Question) → routine_no k (length out) ≡ number q → left_in (number q) (made k) out ≡ out → Makes k out out (Err q)
  refused q e l = record {
    answer = e;
    list = rw e (sym l);
    all = full;
    accepted = λ z. absurd (omega (arith, number_some q));
    short = short k;
  }

  no_number : 276 ≤ k → Makes k out out (Err Routine)
  unfolding routine_no
  no_number h = refused Routine (rw (le-ltb k 276 h)) refl

  no_room : k < 276 → length out < length (made k) → Makes k out out (Err TextRoom)
  unfolding routine_no
  no_room h l = refused TextRoom (rw (lt-ltb k 276 h, lt-leb (length (made k)) (length out) l)) refl

  made_at : (n : ℕ) (out' : List ℕ) → k < 276 → n ≡ length (made k) → n ≤ length out → out' ≡ put 0 (made k) out → Makes k out out' (Ok n)
  unfolding routine_no
  made_at n out' h e l p =
      let yes : routine_no k (length out) ≡ 0 = rw (lt-ltb k 276 h, le-leb (length (made k)) (length out) (omega arith)) in
      let whole : take (length (made k)) out' ≡ made k =
      rw (p, put_fits 0 (made k) out (omega arith)) (take_at (made k) (drop (0 + length (made k)) out) (length (made k)) refl)
      in
      record {
        answer = (yes, e);
        list = rw (yes, p);
        all = full;
        accepted = λ z. rw whole (accepted k);
        short = short k;
      }

pub returns-then-k-ge276 : goal.returns-then-k-ge276
returns-then-k-ge276 c = no_number _ _ c.if-k-ge276.true

pub returns-then-out-size : goal.returns-then-out-size
returns-then-out-size c = no_room _ _ (omega arith) (omega arith)

pub returns : goal.returns
returns c = made_at _ _ _ _ (omega arith) c.size_of-size.ensures.0 (omega arith) c.put_record.ensures
