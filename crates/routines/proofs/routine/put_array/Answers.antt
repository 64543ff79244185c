-- `routine::put_array` meets its contract.
-- The invariant: to store the entries that are left where the loop stands is to store all of them where it began.
use mathlib.Core.Path.{◌≡◌, sym, ap, ◌∙◌}
use mathlib.Core.List.{List, [], ◌++◌}
use Prim.Native.Nat.{ℕ, ◌+◌, ◌≤◌, ◌<◌}
use native.Mathlib.Numerals.{add-one}
use native.Mathlib.Omega.{arith}
use lib.ListN.{length, get_or, drop_of_length-le, length-append}
use lib.Seq.{drop-cons}
use Rattle.lists.specs.Put.{put}
use Rattle.lists.specs.PutLaws.{put_length, put_none, put_append}
use Rattle.routines.specs.declared.ending.Ending.{Ending}
use Rattle.routines.specs.declared.ending.Ending.TheVariants.{Ret}
use Rattle.routines.specs.Numbered.{routine_at}
use Rattle.routines.specs.declared.fields.Array.{Array}
use Rattle.routines.specs.Written.{entry_of}
use Rattle.routines.proofs.Sizes.{length_entry}
use Rattle.routines.proofs.routine.put_array.Goals as goal
use Rattle.routines.proofs.routine.put_array.Invariants.{left}

none_left : (a : Array) (r : List Ending) (j : ℕ) → length r ≤ j → left a r j ≡ []
none_left a r j h = rw (drop_of_length-le r h)

module _ (a : Array) (r : List Ending) (j : ℕ) (e : Ending) (h : j < length r) (p : e ≡ get_or r j Ret) where
  one_more : left a r j ≡ entry_of a j e ++ left a r (j + 1)
  one_more = rw (drop-cons r j Ret h, add-one, p)

  length-left : length (left a r j) ≡ length (entry_of a j e) + length (left a r (j + 1))
  length-left = ap length one_more ∙ length-append (entry_of a j e) (left a r (j + 1))

  stored : (n m : ℕ) (o q : List ℕ) → m ≡ n + length (entry_of a j e) → q ≡ put n (entry_of a j e) o → put m (left a r (j + 1)) q ≡ put n (left a r j) o
  stored n m o q u v = rw (one_more, put_append n (entry_of a j e) (left a r (j + 1)) o, u, v)

pub loop-j-preserved : goal.loop-j-preserved
loop-j-preserved c =
    let l = length-left c.args.a (routine_at c.args.k) c.loop-j.j c.ending_at.result (omega arith) c.ending_at.ensures.0 in
    let few = length_entry c.args.a c.loop-j.j c.ending_at.result in (
      omega arith,
      simp (c.put_entry-next.ensures.bytes, put_length) c.loop-j.invariant.1,
      omega (arith, c.put_entry-next.ensures.end),
      omega (arith, c.put_entry-next.ensures.end, c.loop-j.invariant.3),
      stored c.args.a (routine_at c.args.k) c.loop-j.j c.ending_at.result (omega arith) c.ending_at.ensures.0 _ _ _ _ c.put_entry-next.ensures.end c.put_entry-next.ensures.bytes
          ∙ c.loop-j.invariant.4,
    )

pub returns-clause-bytes : goal.returns-clause-bytes
returns-clause-bytes c =
    let z = none_left c.args.a (routine_at c.args.k) c.loop-j.j (omega arith) in
    sym (put_none c.loop-j.next c.loop-j.out) ∙ rw z at c.loop-j.invariant.4
