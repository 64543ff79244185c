-- How many tokens a line has, counted while it is coded, is how many its joined tokens are.
-- From the first token on, each either joins the one before or is one more.
use Rattle.std.proofs.Common.{◌≡◌, ℕ, suc, ◌+◌, Bool, true, false, eqb, List, [], ◌∷◌, length, sym, refl, ⊎_elim, arith, eqb-true}
use Rattle.lists.specs.Choice.{pick}
use Rattle.tokens.specs.Token.{Token}
use Rattle.tokens.specs.Listing.{glued, glue, run, join}
use Rattle.tokens.proofs.ListingLaws.{glued_kind, run_glued, run_apart, run_last, cases}
use Rattle.codes.specs.Coded.{joins_last, fresh}

-- no token joins what is before a line
pub first_apart : (k : ℕ) → joins_last 255 k ≡ false
first_apart k = ⊎_elim (λ h. rw (eqb-true k 255 h)) (λ h. rw h) (cases (eqb k 255))

fresh_cons : (k : ℕ) (j : Bool) (u : Token) (us : List Token) → joins_last k u.kind ≡ j → fresh k (u ∷ us) ≡ pick j 0 1 + fresh u.kind us
unfolding fresh
fresh_cons k j u us h = rw h

fresh_none : (k : ℕ) → fresh k [] ≡ 0
unfolding fresh
fresh_none k = refl

run_fresh : (t : Token) (ts : List Token) → length (run t ts) ≡ suc (fresh t.kind ts)
run_fresh t [] = rw (run_last t, fresh_none t.kind)
run_fresh t (u ∷ us) =
    ⊎_elim
    (λ h. rw (run_glued t u us h, run_fresh (glue t u) us, fresh_cons t.kind true u us h, glued_kind t u h) (omega arith))
    (λ h. rw (run_apart t u us h, run_fresh u us, fresh_cons t.kind false u us h) (omega arith))
    (cases (glued t u))

pub join_fresh : (ts : List Token) → length (join ts) ≡ fresh 255 ts
unfolding join
join_fresh [] = sym (fresh_none 255)
join_fresh (t ∷ ts) = rw (fresh_cons 255 false t ts (first_apart t.kind), run_fresh t ts) (omega arith)
