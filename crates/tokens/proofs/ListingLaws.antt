-- The laws of a listing: its lists over tokens one behind the other, joined tokens, and lengths.
-- Joined tokens grow to the left; each law is an induction along the tokens or the lines.
use mathlib.Core.Path.{◌≡◌, refl, sym, ap, ◌∙◌}
use mathlib.Core.Bool.{Bool, true, false}
use mathlib.Core.List.{List, [], ◌∷◌, ◌++◌, append_assoc}
use mathlib.Core.Logic.{◌⊎◌, inl, inr, ⊎_elim}
use Prim.Native.Nat.{ℕ, suc, ◌+◌, ◌≤◌}
use native.Mathlib.Nat.{add-zero}
use native.Mathlib.Omega.{arith}
use lib.Dec.{eqb}
use lib.ListN.{length, length-append}
use borrow.Author.Tests.{eqb-true}
use Rattle.lists.specs.Every.{both_yes}
use Rattle.tokens.specs.Token.{Token}
use Rattle.tokens.specs.Token.{joining}
use Rattle.tokens.specs.Listing.{text_of, ends_from, kinds_of, glued, glue, run, join, all, counts_from, listing, bytes_of, pushes_of}

-- laws of the definitions
pub text_append : (s t : List Token) → text_of (s ++ t) ≡ text_of s ++ text_of t
unfolding text_of
text_append [] t = refl
text_append (x ∷ s) t = rw (text_append s t) (sym (append_assoc x.bytes (text_of s) (text_of t)))

pub ends_append : (x : ℕ) (s t : List Token) → ends_from x (s ++ t) ≡ ends_from x s ++ ends_from (x + length (text_of s)) t
unfolding ends_from text_of
ends_append x [] t = rw add-zero
ends_append x (u ∷ s) t =
    ap {B = List ℕ} (λ l. (x + length u.bytes) ∷ l)
    (ends_append (x + length u.bytes) s t ∙ ap (λ (k : ℕ). ends_from (x + length u.bytes) s ++ ends_from k t) (rw length-append (omega arith)))

pub kinds_append : (s t : List Token) → kinds_of (s ++ t) ≡ kinds_of s ++ kinds_of t
unfolding kinds_of
kinds_append [] t = refl
kinds_append (x ∷ s) t = ap {B = List ℕ} (λ l. x.kind ∷ l) (kinds_append s t)

pub ends_length : (x : ℕ) (s : List Token) → length (ends_from x s) ≡ length s
unfolding ends_from
ends_length x [] = refl
ends_length x (t ∷ s) = ap suc (ends_length (x + length t.bytes) s)

pub kinds_length : (s : List Token) → length (kinds_of s) ≡ length s
unfolding kinds_of
kinds_length [] = refl
kinds_length (t ∷ s) = ap suc (kinds_length s)

-- punctuation behind punctuation
pub glued_kind : (t u : Token) → glued t u ≡ true → u.kind ≡ t.kind
glued_kind t u h = eqb-true u.kind t.kind (both_yes (eqb u.kind t.kind) (joining u.kind) h).0

pub cases : (b : Bool) → (b ≡ true) ⊎ (b ≡ false)
cases true = inl refl
cases false = inr refl

-- joining changes no byte, and makes no token
run_text : (t : Token) (ts : List Token) → text_of (run t ts) ≡ t.bytes ++ text_of ts
unfolding text_of run
run_text t [] = refl
run_text t (u ∷ us) =
    ⊎_elim (λ h. rw h (run_text (glue t u) us ∙ append_assoc t.bytes u.bytes (text_of us)))
    (λ h. rw h (ap (λ (l : List ℕ). t.bytes ++ l) (run_text u us)))
    (cases (glued t u))

run_count : (t : Token) (ts : List Token) → length (run t ts) ≤ suc (length ts)
unfolding run
run_count t [] = omega arith
run_count t (u ∷ us) =
    ⊎_elim (λ h. rw h (omega (arith, run_count (glue t u) us))) (λ h. rw h (omega (arith, run_count u us))) (cases (glued t u))

pub join_text : (ts : List Token) → text_of (join ts) ≡ text_of ts
unfolding text_of join
join_text [] = refl
join_text (t ∷ ts) = run_text t ts

pub join_count : (ts : List Token) → length (join ts) ≤ length ts
unfolding join
join_count [] = omega arith
join_count (t ∷ ts) = run_count t ts

pub run_glued : (t u : Token) (us : List Token) → glued t u ≡ true → run t (u ∷ us) ≡ run (glue t u) us
unfolding run
run_glued t u us h = rw h

pub run_apart : (t u : Token) (us : List Token) → glued t u ≡ false → run t (u ∷ us) ≡ t ∷ run u us
unfolding run
run_apart t u us h = rw h

pub run_last : (t : Token) → run t [] ≡ t ∷ []
unfolding run
run_last t = refl

pub all_bytes : (ls : List (List Token)) → length (text_of (all ls)) ≡ bytes_of ls
unfolding all bytes_of text_of
all_bytes [] = refl
all_bytes (l ∷ ls) = rw (text_append, length-append, join_text, all_bytes ls)

pub all_count : (ls : List (List Token)) → length (all ls) ≤ pushes_of ls
unfolding all pushes_of
all_count [] = omega arith
all_count (l ∷ ls) = rw length-append (omega (arith, join_count l, all_count ls))

-- the lists of a listing beside each other have equal lengths
counts_length : (n : ℕ) (ls : List (List Token)) → length (counts_from n ls) ≡ length ls
unfolding counts_from
counts_length n [] = refl
counts_length n (l ∷ ls) = ap suc (counts_length (n + length (join l)) ls)

pub lines_length : (ls : List (List Token)) → length (listing ls).lines ≡ length ls
unfolding listing
lines_length ls = counts_length 0 ls

pub kinds_as_ends : (ls : List (List Token)) → length (listing ls).kinds ≡ length (listing ls).ends
unfolding listing
kinds_as_ends ls = kinds_length (all ls) ∙ sym (ends_length 0 (all ls))
