-- `ending::ending_at` meets its contract.
-- A place's endings by their numbers: ret, then, if it is not the last, fall, then the jumps in turn.
use mathlib.Core.Path.{◌≡◌, refl, sym, ap, ◌∙◌}
use mathlib.Core.Bool.{Bool, true, false}
use Prim.Native.Nat.{ℕ, suc, ◌+◌, ◌-◌, ◌≤◌, ◌<◌}
use native.Mathlib.Omega.{arith}
use borrow.Author.Tests.{lt-ltb, eq-eqb, ne_eqb}
use lib.Dec.{eqb}
use lib.ListN.{length, get_or, length-append, get_or-append}
use lib.Seq.{get_or-append-add}
use Rattle.lists.specs.Entries.{tab, tab_at}
use Rattle.lists.proofs.Tabs.{tab_length}
use Rattle.routines.specs.declared.ending.Ending.{Ending}
use Rattle.routines.specs.declared.ending.Ending.TheVariants.{Ret, Fall, Jmp, Jne}
use Rattle.routines.specs.Numbered.{endings, routine_at}
use Rattle.routines.specs.Written.{inside}
use Rattle.routines.proofs.Rule.{Chosen}
use Rattle.routines.proofs.ending.ending_at.Goals as goal

-- entry c of a place's endings, of n blocks
ret_at : (n : ℕ) (last : Bool) → get_or (endings n last) 0 Ret ≡ Ret
ret_at n true = refl
ret_at n false = refl

last-at : (n c : ℕ) → c < n → get_or (endings n true) (suc c) Ret ≡ Jmp c
last-at n c h = tab_at Jmp 0 n c Ret h ∙ ap Jmp (omega arith)

jmp-at : (n c : ℕ) → c < n → get_or (endings n false) (suc (suc c)) Ret ≡ Jmp c
jmp-at n c h =
    get_or-append (tab Jmp 0 n) (tab Jne 0 n) Ret c (omega (arith, tab_length Jmp 0 n)) ∙ tab_at Jmp 0 n c Ret h ∙ ap Jmp (omega arith)

jne-at : (n c : ℕ) → c < n → get_or (endings n false) (suc (suc (n + c))) Ret ≡ Jne c
jne-at n c h =
    let w : n + c ≡ length (tab Jmp 0 n) + c = omega (arith, tab_length Jmp 0 n) in
    rw w (get_or-append-add (tab Jmp 0 n) (tab Jne 0 n) c Ret) ∙ tab_at Jne 0 n c Ret h ∙ ap Jne (omega arith)

module _ (k j c n : ℕ) (size : n ≡ length (routine_at k)) (few : n ≤ 3) (ch : Chosen (routine_at k) j c) where
  abbrev Is : Ending → Type 0
  Is x = (x ≡ get_or (routine_at k) j Ret) × (inside x ≡ true)

  -- entry d is x, and d is c
  told : (b : Bool) (d : ℕ) (x : Ending) → eqb (j + 1) (length (routine_at k)) ≡ b → d ≡ c → get_or (endings (length (routine_at k)) b) d Ret ≡ x → x ≡ get_or (routine_at k) j Ret
  told b d x e w t = sym t ∙ rw (w, ← e) ch.1

  within-last : j + 1 ≡ n → c ≤ n
  within-last e =
      let l : c < length (endings (length (routine_at k)) true) = rw (eq-eqb (j + 1) (length (routine_at k)) (omega arith)) at ch.0 in
      omega (arith, tab_length Jmp 0 (length (routine_at k)))

  other : (j + 1 ≡ n → ⊥) → eqb (j + 1) (length (routine_at k)) ≡ false
  other e = ne_eqb (j + 1) (length (routine_at k)) (λ q. e (omega arith))

  within-other : (j + 1 ≡ n → ⊥) → c < 2 + n + n
  within-other e =
      let l : c < length (endings (length (routine_at k)) false) = rw (other e) at ch.0 in
      omega (arith, length-append (tab Jmp 0 (length (routine_at k))) (tab Jne 0 (length (routine_at k))), tab_length Jmp 0 (length (routine_at k)), tab_length Jne 0 (length (routine_at k)))

  is-ret : c ≡ 0 → Is Ret
  is-ret e = (told _ 0 Ret refl (sym e) (ret_at (length (routine_at k)) (eqb (j + 1) (length (routine_at k)))), refl)

  is_last : 1 ≤ c → j + 1 ≡ n → Is (Jmp (c - 1))
  is_last l e = (
    told true (suc (c - 1)) (Jmp (c - 1)) (eq-eqb (j + 1) (length (routine_at k)) (omega arith)) (omega arith) (last-at (length (routine_at k)) (c - 1) (omega (arith, within-last e))),
    lt-ltb (c - 1) 3 (omega (arith, within-last e)),
  )

  is-fall : c ≡ 1 → (j + 1 ≡ n → ⊥) → Is Fall
  is-fall e o = (told false 1 Fall (other o) (sym e) refl, refl)

  is-jmp : 2 ≤ c → (j + 1 ≡ n → ⊥) → c - 2 < n → Is (Jmp (c - 2))
  is-jmp l o h = (told false (suc (suc (c - 2))) (Jmp (c - 2)) (other o) (omega arith) (jmp-at (length (routine_at k)) (c - 2) (omega arith)), lt-ltb (c - 2) 3 (omega arith))

  is-jne : n ≤ c - 2 → 2 ≤ c → (j + 1 ≡ n → ⊥) → Is (Jne (c - 2 - n))
  is-jne h l o = (
    told false (suc (suc (length (routine_at k) + (c - 2 - n)))) (Jne (c - 2 - n)) (other o) (omega arith) (jne-at (length (routine_at k)) (c - 2 - n) (omega (arith, within-other o))),
    lt-ltb (c - 2 - n) 3 (omega (arith, within-other o)),
  )

pub returns-then-j-n : goal.returns-then-j-n
returns-then-j-n c = is_last _ _ _ _ c.blocks_of-n.ensures.0 c.blocks_of-n.ensures.1 c.choice_at-choice.ensures (omega arith) (omega arith)

pub returns-then-choice-n : goal.returns-then-choice-n
returns-then-choice-n c = is-jmp _ _ _ _ c.blocks_of-n.ensures.0 c.blocks_of-n.ensures.1 c.choice_at-choice.ensures (omega arith) c.if-j-n.false (omega arith)

pub returns : goal.returns
returns c = is-jne _ _ _ _ c.blocks_of-n.ensures.0 c.blocks_of-n.ensures.1 c.choice_at-choice.ensures (omega arith) (omega arith) c.if-j-n.false
