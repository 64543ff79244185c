-- The routines one after the other, and the one with a number. That they are all, each once and in order is `FullSet` of it.
use Rattle.std.specs.Prelude.{ℕ, zero, suc, Bool, true, false, List, [], ◌∷◌, ◌++◌, map, eqb, get_or}
use Rattle.lists.specs.Entries.{tab}
use Rattle.routines.specs.declared.ending.Ending.{Ending}
use Rattle.routines.specs.declared.ending.Ending.TheVariants.{Ret, Fall, Jmp, Jne}

-- of n blocks, the endings of the last and of another
abbrev pub endings : ℕ → Bool → List Ending
endings n true = Ret ∷ tab Jmp 0 n
endings n false = Ret ∷ Fall ∷ (tab Jmp 0 n ++ tab Jne 0 n)

-- each ending before each of the rests
abbrev pub before : List Ending → List (List Ending) → List (List Ending)
before [] rests = []
before (e ∷ es) rests = map (λ r. e ∷ r) rests ++ before es rests

-- of n blocks, the endings of the last m
abbrev pub of_blocks : ℕ → ℕ → List (List Ending)
of_blocks n zero = [] ∷ []
of_blocks n (suc m) = before (endings n (eqb m 0)) (of_blocks n m)

unfoldable pub routines : List (List Ending)
routines = of_blocks 1 1 ++ of_blocks 2 2 ++ of_blocks 3 3

unfoldable pub routine_at : ℕ → List Ending
routine_at k = get_or routines k []
