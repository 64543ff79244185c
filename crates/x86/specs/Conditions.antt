-- Conditions by number, what each is turned over to, and the relation that is printed for it.
use Rattle.std.specs.Prelude.{ℕ, ◌+◌, ◌-◌, ◌%◌, Bool, false, not, ◌||◌, ◌≡◌, refl, List, [], ◌∷◌, map, eqb, ltb, ℤ, pos, negsuc, get_or}
use Prim.Native.String.{String}
use Rattle.std.specs.Int.Signed.{lt_z, le_z}
use Rattle.lists.specs.Ascii.{ascii}
use Rattle.lists.specs.Choice.{pick}
use Rattle.x86.specs.Words.{words_of, same_word, is_word_of}

-- "Conditions: 0 none, then o no b ae e ne be a s ns p np l ge le g as 1 to 16"
unfoldable pub condition_names : List (List ℕ)
condition_names = [] ∷ words_of "o no b ae e ne be a s ns p np l ge le g"

unfoldable pub condition_name : ℕ → List ℕ
condition_name k = get_or condition_names k []

-- condition k is one of those named
abbrev pub among : ℕ → String → Bool
among k names = is_word_of (condition_name k) (words_of names)

-- 1 and 2, 3 and 4, .., 15 and 16 turn into each other; any other number stays
unfoldable pub negate : ℕ → ℕ
negate k = pick (eqb k 0 || ltb 16 k) k (pick (eqb (k % 2) 1) (k + 1) (k - 1))

abbrev pub eq_z : ℤ → ℤ → Bool
eq_z (pos a) (pos b) = eqb a b
eq_z (pos a) (negsuc b) = false
eq_z (negsuc a) (pos b) = false
eq_z (negsuc a) (negsuc b) = eqb a b

-- a relation: its text, and when it holds of two numbers
pub record Relation : Type 0 where
  pub text : List ℕ
  pub means : ℤ → ℤ → Bool

abbrev pub none : Relation
none = record { text = []; means = λ x y. false }

-- the relations by number
abbrev pub relations : List Relation
relations =
    record { text = ascii " == "; means = λ x y. eq_z x y }
    ∷ record { text = ascii " != "; means = λ x y. not (eq_z x y) }
    ∷ record { text = ascii " < "; means = λ x y. lt_z x y }
    ∷ record { text = ascii " >= "; means = λ x y. le_z y x }
    ∷ record { text = ascii " <= "; means = λ x y. le_z x y }
    ∷ record { text = ascii " > "; means = λ x y. lt_z y x }
    ∷ []

unfoldable pub operator_text : ℕ → List ℕ
operator_text r = (get_or relations r none).text

unfoldable pub related : ℕ → ℤ → ℤ → Bool
related r x y = (get_or relations r none).means x y

-- the number of each, by its name, and one more for no relation
abbrev pub equal : ℕ
equal = 0

abbrev pub unequal : ℕ
unequal = 1

abbrev pub less : ℕ
less = 2

abbrev pub not_less : ℕ
not_less = 3

abbrev pub not_greater : ℕ
not_greater = 4

abbrev pub greater : ℕ
greater = 5

abbrev pub no_relation : ℕ
no_relation = 6

-- they are the numbers of those texts
pub relations_numbered :
    map operator_text (equal ∷ unequal ∷ less ∷ not_less ∷ not_greater ∷ greater ∷ no_relation ∷ [])
    ≡ ascii " == " ∷ ascii " != " ∷ ascii " < " ∷ ascii " >= " ∷ ascii " <= " ∷ ascii " > " ∷ [] ∷ []
unfolding operator_text
relations_numbered = refl

abbrev pub is_relation : ℕ → Bool
is_relation r = ltb r no_relation

abbrev pub is_equality : ℕ → Bool
is_equality r = eqb r equal || eqb r unequal

-- the relation beside a condition's name
abbrev pub relation_of : List (String × ℕ) → List ℕ → ℕ
relation_of [] name = no_relation
relation_of (p ∷ ps) name = pick (same_word name (ascii p.0)) p.1 (relation_of ps name)

-- "after CMP, for e ne b ae be a l ge le g"
abbrev pub cmp_relations : List (String × ℕ)
cmp_relations =
    ("e", equal) ∷ ("ne", unequal)
    ∷ ("b", less) ∷ ("ae", not_less) ∷ ("be", not_greater) ∷ ("a", greater)
    ∷ ("l", less) ∷ ("ge", not_less) ∷ ("le", not_greater) ∷ ("g", greater)
    ∷ []

-- "after TEST the same, read signed, for e ne s ns l ge le g"
abbrev pub test_relations : List (String × ℕ)
test_relations =
    ("e", equal) ∷ ("ne", unequal)
    ∷ ("s", less) ∷ ("ns", not_less)
    ∷ ("l", less) ∷ ("ge", not_less) ∷ ("le", not_greater) ∷ ("g", greater)
    ∷ []

-- "After the other writers e ne s ns print the first operand against 0"
abbrev pub other_relations : List (String × ℕ)
other_relations = ("e", equal) ∷ ("ne", unequal) ∷ ("s", less) ∷ ("ns", not_less) ∷ []

unfoldable pub relation_after_cmp : ℕ → ℕ
relation_after_cmp k = relation_of cmp_relations (condition_name k)

unfoldable pub relation_after_test : ℕ → ℕ
relation_after_test k = relation_of test_relations (condition_name k)

unfoldable pub relation_after_other : ℕ → ℕ
relation_after_other k = relation_of other_relations (condition_name k)

-- "unsigned for b ae be a"
unfoldable pub prints_unsigned : ℕ → Bool
prints_unsigned k = among k "b ae be a"
