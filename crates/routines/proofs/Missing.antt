-- Every routine stands in the list of all.
-- An allowed ending is one of its place's endings, by its case; endings before rests make every routine, block by block.
use mathlib.Core.Path.{◌≡◌, refl, sym, ap}
use mathlib.Core.Bool.{true, false}
use mathlib.Core.List.Memᴰ
use mathlib.Core.List.{List, [], ◌∷◌, ◌++◌, map, Memᴰ}
use Prim.Native.Nat.{ℕ, zero, suc, ◌+◌, ◌≤◌, ◌<◌}
use native.Mathlib.Decide.{ℕ_discrete}
use native.Mathlib.Omega.{arith}
use borrow.Author.Tests.{ltb-true}
use lib.Dec.{ltb, eqb, eqb-suc-zero}
use lib.ListN.{length, get_or}
use Rattle.lists.specs.Entries.{tab}
use Rattle.lists.specs.Every.{both_yes}
use Rattle.routines.specs.declared.ending.Ending.{Ending}
use Rattle.routines.specs.declared.ending.Ending.TheVariants.{Ret, Fall, Jmp, Jne}
use Rattle.routines.specs.Routine.{allowed, IsRoutine}
use Rattle.routines.specs.Numbered.{endings, before, of_blocks, routines}

-- what stands in a list stands at a place
pub place : {A : Type 0} {x : A} {l : List A} (d : A) → Memᴰ x l → (k : ℕ) × ((k < length l) × (get_or l k d ≡ x))
place d (Memᴰ.head e) = (0, (omega arith, sym e))
place d (Memᴰ.tail m) = let p = place d m in (suc p.0, (omega arith, p.1.1))

in_map : {A B : Type 0} {x : A} {l : List A} (f : A → B) → Memᴰ x l → Memᴰ (f x) (map f l)
in_map f (Memᴰ.head e) = Memᴰ.head (ap f e)
in_map f (Memᴰ.tail m) = Memᴰ.tail (in_map f m)

in_before : {e : Ending} {r : List Ending} {es : List Ending} (rests : List (List Ending)) → Memᴰ e es → Memᴰ r rests → Memᴰ (e ∷ r) (before es rests)
in_before {e = e} {r = r} {es = []} rests x5 m = elim x5 [ ]
in_before {e} {r} {es = x ∷ es} rests (Memᴰ.head q) m =
    Memᴰ.append_left {a = e ∷ r} {s = map (λ l. x ∷ l) rests} (before es rests)
    (Memᴰ.cast (ap (λ (y : Ending). y ∷ r) q) (in_map (λ l. x ∷ l) m))
in_before {e} {r} {es = x ∷ es} rests (Memᴰ.tail p) m = Memᴰ.append_right (map (λ l. x ∷ l) rests) (in_before rests p m)

in_tab : {A : Type 0} (f : ℕ → A) (i n t : ℕ) → i ≤ t → t < i + n → Memᴰ (f t) (tab f i n)
in_tab f i zero t a b = absurd (omega arith)
in_tab f i (suc n) t a b = elim (ℕ_discrete t i) [
  | yes e ↦ Memᴰ.head (ap f e)
  | no e ↦ Memᴰ.tail (in_tab f (suc i) n t (omega arith) (omega arith))
]

-- of the last block of n, and of another
in_last : (n k : ℕ) (e : Ending) → k + 1 ≡ n → allowed n k e ≡ true → Memᴰ e (endings n true)
in_last n k Ret h a = Memᴰ.head refl
in_last n k Fall h a = absurd (omega (arith, ltb-true))
in_last n k (Jmp t) h a = Memᴰ.tail (in_tab Jmp 0 n t (omega arith) (omega (arith, ltb-true t n a)))
in_last n k (Jne t) h a = absurd (omega (arith, ltb-true (k + 1) n (both_yes (ltb t n) (ltb (k + 1) n) a).1))

in_other : (n k : ℕ) (e : Ending) → allowed n k e ≡ true → Memᴰ e (endings n false)
in_other n k Ret a = Memᴰ.head refl
in_other n k Fall a = Memᴰ.tail (Memᴰ.head refl)
in_other n k (Jmp t) a =
    Memᴰ.tail (Memᴰ.tail (Memᴰ.append_left (tab Jne 0 n) (in_tab Jmp 0 n t (omega arith) (omega (arith, ltb-true t n a)))))
in_other n k (Jne t) a =
    Memᴰ.tail (Memᴰ.tail (Memᴰ.append_right (tab Jmp 0 n)
    (in_tab Jne 0 n t (omega arith) (omega (arith, ltb-true t n (both_yes (ltb t n) (ltb (k + 1) n) a).0)))))

-- of block k of n, with m blocks behind it
in_endings : (n k m : ℕ) (e : Ending) → k + suc m ≡ n → allowed n k e ≡ true → Memᴰ e (endings n (eqb m 0))
in_endings n k zero e h a = in_last n k e h a
in_endings n k (suc m) e h a = rw (eqb-suc-zero m) (in_other n k e a)

-- the last blocks, from block k on
in_blocks : (n k : ℕ) (r : List Ending) → k + length r ≡ n → ((j : ℕ) → j < length r → allowed n (k + j) (get_or r j Ret) ≡ true) → Memᴰ r (of_blocks n (length r))
in_blocks n k [] h a = Memᴰ.head refl
in_blocks n k (e ∷ r) h a =
    let z : k + 0 ≡ k = omega arith in
    in_before (of_blocks n (length r)) (in_endings n k (length r) e h (rw z at (a 0 (omega arith))))
    (in_blocks n (suc k) r (omega arith) (λ j l. let s : k + suc j ≡ suc k + j = omega arith in rw s at (a (suc j) (omega arith))))

pub in_all : (r : List Ending) → IsRoutine r → Memᴰ r routines
unfolding routines
in_all [] i = absurd (omega (arith, i.some))
in_all (x ∷ []) i = Memᴰ.append_left (of_blocks 3 3) (Memᴰ.append_left (of_blocks 2 2) (in_blocks 1 0 (x ∷ []) refl (λ j l. let z : 0 + j ≡ j = omega arith in rw z (i.each j l))))
in_all (x ∷ y ∷ []) i = Memᴰ.append_left (of_blocks 3 3) (Memᴰ.append_right (of_blocks 1 1) (in_blocks 2 0 (x ∷ y ∷ []) refl (λ j l. let z : 0 + j ≡ j = omega arith in rw z (i.each j l))))
in_all (x ∷ y ∷ z ∷ []) i = Memᴰ.append_right (of_blocks 1 1 ++ of_blocks 2 2) (in_blocks 3 0 (x ∷ y ∷ z ∷ []) refl (λ j l. let z : 0 + j ≡ j = omega arith in rw z (i.each j l)))
in_all (x ∷ y ∷ z ∷ w ∷ r) i = absurd (omega (arith, i.few))
