-- The bytes set for a call, from the line that the search back found and what that line sets.
-- No line found gives none; a line's bytes are those of a literal, so there are at most 80.
use mathlib.Core.Path.{◌≡◌, refl, sym, ap, ◌∙◌}
use mathlib.Core.Bool.{Bool, true, false}
use mathlib.Core.List.{List}
use Prim.Native.Nat.{ℕ, ◌≤◌}
use lib.ListN.{length}
use Rattle.std.specs.Prelude.{Option, Some, None, IfSome}
use Rattle.lists.specs.Choice.{pick}
use Rattle.rows.specs.Lists.{Lists}
use Rattle.rows.specs.Rows.{Row, row_at}
use Rattle.commands.specs.Calls.{token_of, is_assign, given}
use Rattle.commands.specs.Literals.{string_of}
use Rattle.commands.specs.Table.{given_by, bytes_for}
use Rattle.commands.specs.Making.{found_of, Gives}
use Rattle.commands.proofs.Strings.{string_sound}
use Rattle.commands.proofs.Search.{Sought}

-- ---- a line sets at most 80 bytes
few_picked : (b : Bool) (o : Option (List ℕ)) (s : List ℕ) → ((s : List ℕ) → o ≡ Some s → length s ≤ 80) → pick b o None ≡ Some s → length s ≤ 80
few_picked true o s f h = f s h
few_picked false o s f h = absurd cc

few_given : (r : Row) (s : List ℕ) → given r ≡ Some s → length s ≤ 80
unfolding given
few_given r s h = let t = token_of r 2 in few_picked (is_assign (token_of r 1)) (string_of t) s (λ s e. (string_sound t s e).1.1) h

pub few_found : (r : Row) (n : Option ℕ) (out : List ℕ) → Gives n out (given r) → IfSome n (λ n. n ≤ 80)
few_found r n out g = rw g.size (go (given r) (few_given r))
  where
    go : (o : Option (List ℕ)) → ((s : List ℕ) → o ≡ Some s → length s ≤ 80) → IfSome (found_of o) (λ n. n ≤ 80)
    go (Some s) f = f s refl
    go None f = tt

-- ---- the line o found for the call on line k
module _ (l : Lists) (register : List ℕ) (k : ℕ) (o : Option ℕ) (f : o ≡ Sought l register k) where
  given_for : (n : Option ℕ) → o ≡ n → bytes_for l register k ≡ given_by l register n
  unfolding bytes_for
  given_for n e = ap (given_by l register) (sym f ∙ e)

  pub for_none : (out : List ℕ) → o ≡ None → Gives None out (bytes_for l register k)
  for_none out e = rw (given_for None e) (record { size = refl; bytes = refl })

  module _ (i : ℕ) (e : o ≡ Some i) where
    pub for_line : (r : Option ℕ) (out : List ℕ) → Gives r out (given (row_at l i)) → Gives r out (bytes_for l register k)
    for_line r out g = rw (given_for (Some i) e) g
