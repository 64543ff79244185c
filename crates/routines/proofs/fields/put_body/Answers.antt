-- `fields::put_body` meets its contract.
-- By the ending's case: the stores into 92 zeros, computed, are the instruction's fields.
use mathlib.Core.Path.{◌≡◌, refl, ◌∙◌}
use mathlib.Core.List.{List, [], ◌∷◌}
use Prim.Native.Nat.{ℕ}
use native.Mathlib.Omega.{arith}
use lib.ListN.{set, replicate}
use borrow.Rule.Slice.PartMut.{mid_of, put_mid}
use Rattle.lists.specs.Little.{little}
use Rattle.lists.specs.Put.{put}
use Rattle.lists.specs.PutLaws.{put_rest}
use Rattle.routines.specs.declared.ending.Ending.{Ending}
use Rattle.routines.specs.declared.ending.Ending.TheVariants.{Ret, Fall, Jmp, Jne}
use Rattle.routines.specs.Written.{start, body_of}
use Rattle.routines.proofs.fields.put_body.Goals as goal
use Rattle.routines.proofs.fields.put_body.Goals.{in-Ret, in-Fall, in-Jmp, in-Jne}

-- the body before the ending decides
abbrev fresh : List ℕ
fresh = set (replicate 92 0) 7 1

-- after `put_branch`
abbrev branched : ℕ → List ℕ → List ℕ
branched t e = put 20 (little 8 (start t)) (set (set e 2 1) 18 2)

of-ret : (e : Ending) (b : List ℕ) → e ≡ Ret → b ≡ set fresh 0 24 → b ≡ body_of e
unfolding little
of-ret e b p q = rw (p, q)

of-fall : (e : Ending) (b : List ℕ) → e ≡ Fall → b ≡ set (set (set (set (set fresh 0 1) 2 2) 19 64) 28 5) 30 1 → b ≡ body_of e
unfolding little
of-fall e b p q = rw (p, q)

of-jmp : (e : Ending) (t : ℕ) (b : List ℕ) → e ≡ Jmp t → b ≡ branched t (set fresh 0 25) → b ≡ body_of e
unfolding little put
of-jmp e t b p q = rw (p, q)

of-jne : (e : Ending) (t : ℕ) (b m r : List ℕ) → e ≡ Jne t → m ≡ branched t (set fresh 1 6) → r ≡ put 0 (106 ∷ 110 ∷ 101 ∷ []) (mid_of 68 24 m) → b ≡ put_mid 68 24 m r → b ≡ body_of e
unfolding little put
of-jne e t b m r p f g q = rw (p, q, g, f)

pub returns : goal.returns
returns c =
    let filled : c.match-e.body ≡ body_of c.args.e = elim c.match-e.branch [
      | in-Ret w ↦ of-ret _ _ w.in-Ret.is w.body-is
      | in-Fall w ↦ of-fall _ _ w.in-Fall.is w.body-is
      | in-Jmp w ↦ of-jmp _ _ _ w.in-Jmp.is (w.body-is ∙ w.put_branch.ensures)
      | in-Jne w ↦ of-jne _ _ _ _ _ w.in-Jne.is w.put_branch-in-Jne.ensures w.put_slice.ensures.text w.body-is
    ] in
    record { end = refl; bytes = put_rest _ _ _ _ _ (omega arith) (rw filled at c.put_slice-2.ensures.text) }
