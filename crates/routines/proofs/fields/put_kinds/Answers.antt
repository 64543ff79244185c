-- `fields::put_kinds` meets its contract.
-- By the ending's case: each kind is one store.
use mathlib.Core.Path.{refl, sym}
use native.Mathlib.Nat.{add-zero}
use native.Mathlib.Numerals.{add-one}
use Rattle.lists.specs.Little.{little}
use Rattle.lists.specs.Put.{put}
use Rattle.routines.proofs.fields.put_kinds.Goals as goal

pub returns-in-Ret : goal.returns-in-Ret
unfolding put little
returns-in-Ret c = rw c.in-Ret.is (record { end = λ k. sym (add-zero _); bytes = λ k. refl })

pub returns-in-Fall : goal.returns-in-Fall
unfolding put little
returns-in-Fall c = rw c.in-Fall.is (record { end = λ k. refl; bytes = λ k. c.store.ensures })

pub returns-in-Jmp : goal.returns-in-Jmp
unfolding put little
returns-in-Jmp c = rw c.in-Jmp.is (record { end = λ k. refl; bytes = λ k. c.store-in-Jmp.ensures })

pub returns-in-Jne : goal.returns-in-Jne
unfolding put little
returns-in-Jne c = rw c.in-Jne.is (record { end = λ k. refl; bytes = λ k. rw (c.store-in-Jne-2.ensures, c.store-in-Jne.ensures, add-one) })
