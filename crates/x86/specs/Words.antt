-- The words of a quoted text, split at its spaces, each as the list of its bytes; whether a number or a word is one of some.
use Rattle.std.specs.Prelude.{ℕ, Bool, true, false, ◌&&◌, ◌||◌, List, [], ◌∷◌, eqb}
use Prim.Native.String.{String}
use Rattle.lists.specs.Ascii.{ascii}
use Rattle.lists.specs.Choice.{pick}

-- a byte in front of the first word
abbrev pub grown : ℕ → List (List ℕ) → List (List ℕ)
grown b [] = (b ∷ []) ∷ []
grown b (w ∷ ws) = (b ∷ w) ∷ ws

-- 32 is the space
abbrev pub split : List ℕ → List (List ℕ)
split [] = [] ∷ []
split (b ∷ s) = pick (eqb b 32) ([] ∷ split s) (grown b (split s))

abbrev pub words_of : String → List (List ℕ)
words_of s = split (ascii s)

abbrev pub is_one_of : ℕ → List ℕ → Bool
is_one_of n [] = false
is_one_of n (m ∷ ms) = eqb n m || is_one_of n ms

abbrev pub same_word : List ℕ → List ℕ → Bool
same_word [] [] = true
same_word [] (b ∷ v) = false
same_word (a ∷ w) [] = false
same_word (a ∷ w) (b ∷ v) = eqb a b && same_word w v

abbrev pub is_word_of : List ℕ → List (List ℕ) → Bool
is_word_of w [] = false
is_word_of w (v ∷ vs) = same_word w v || is_word_of w vs
