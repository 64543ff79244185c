-- `fields::put_targets` meets its contract.
-- By the ending's case: each target is one number.
use mathlib.Core.Path.{◌≡◌, sym}
use mathlib.Core.List.{List, [], ◌++◌}
use Prim.Native.Nat.{ℕ, ◌+◌}
use native.Mathlib.Nat.{add-zero}
use native.Mathlib.Omega.{arith}
use Rattle.lists.specs.Little.{little}
use Rattle.lists.specs.Put.{put}
use Rattle.lists.specs.PutLaws.{put_none, put_append}
use Rattle.routines.proofs.fields.put_targets.Goals as goal

one : (at r x y : ℕ) (l m : List ℕ) → x ≡ y → r ≡ at + 8 → m ≡ put at (little 8 x) l → (r ≡ at + 8) × (m ≡ put at (little 8 y ++ []) l)
unfolding little
one at r x y l m e a b = (a, rw e at b)

two : (at r q x y v w : ℕ) (l m o : List ℕ) → x ≡ v → r ≡ at + 8 → m ≡ put at (little 8 x) l → y ≡ w → q ≡ r + 8 → o ≡ put r (little 8 y) m
    → (q ≡ at + 16) × (o ≡ put at (little 8 v ++ (little 8 w ++ [])) l)
unfolding little
two at r q x y v w l m o e a b f c d =
    (omega arith, rw (put_append at (little 8 v) (little 8 w ++ []) l, d, b, a, e, f))

pub returns-in-Ret : goal.returns-in-Ret
returns-in-Ret c = rw c.in-Ret.is (record { end = sym (add-zero _); bytes = sym (put_none _ _) })

pub returns-in-Fall : goal.returns-in-Fall
unfolding little
returns-in-Fall c =
    let told = one _ _ _ _ _ _ c.start.ensures c.put_u64.ensures.end c.put_u64.ensures.bytes in
    rw c.in-Fall.is (record { end = told.0; bytes = told.1 })

pub returns-in-Jmp : goal.returns-in-Jmp
unfolding little
returns-in-Jmp c =
    let told = one _ _ _ _ _ _ c.start-in-Jmp.ensures c.put_u64-in-Jmp.ensures.end c.put_u64-in-Jmp.ensures.bytes in
    rw c.in-Jmp.is (record { end = told.0; bytes = told.1 })

pub returns-in-Jne : goal.returns-in-Jne
unfolding little
returns-in-Jne c =
    let told = two _ _ _ _ _ _ _ _ _ _ c.start-in-Jne.ensures c.put_u64-next.ensures.end c.put_u64-next.ensures.bytes
    c.start-in-Jne-2.ensures c.put_u64-in-Jne.ensures.end c.put_u64-in-Jne.ensures.bytes in
    rw c.in-Jne.is (record { end = told.0; bytes = told.1 })
