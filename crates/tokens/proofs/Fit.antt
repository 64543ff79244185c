-- Tokens that rows can hold: none is empty, and each is of a kind below 8. One by one, behind each other, made Text, and joined.
-- Joining appends bytes to a token that keeps its kind, so what it makes is fit where its parts are.
use mathlib.Core.Path.{◌≡◌, refl}
use mathlib.Core.Bool.{Bool, true, ◌&&◌}
use mathlib.Core.List.{List, [], ◌∷◌, ◌++◌, map}
use mathlib.Core.Logic.{⊎_elim}
use Prim.Native.Nat.{ℕ, ◌<◌}
use native.Mathlib.Omega.{arith}
use borrow.Author.Tests.{ltb-true, lt-ltb}
use lib.Dec.{T, ltb}
use lib.ListN.{length, length-append}
use Rattle.lists.specs.Every.{every, both_yes}
use Rattle.lists.proofs.Tests.{is_true}
use Rattle.tokens.specs.Token.{Token, token, as_text}
use Rattle.tokens.specs.Words.{prefixed}
use Rattle.tokens.specs.Listing.{glued, glue, run, join}
use Rattle.tokens.proofs.ListingLaws.{cases, run_glued, run_apart, run_last}

abbrev pub fit_token : Token → Bool
fit_token t = ltb 0 (length t.bytes) && ltb t.kind 8

pub record Fit (ts : List Token) : Type 0 where
  pub each : every fit_token ts ≡ true

pub both : (a b : Bool) → a ≡ true → b ≡ true → (a && b) ≡ true
both a b p q = rw (p, q)

-- ---- one token
single : (t : Token) → fit_token t ≡ true → Fit (t ∷ [])
single t e = record { each = both (fit_token t) true e refl }

-- one that is written out: its test is computed
pub fixed : (t : Token) → T (fit_token t) → Fit (t ∷ [])
fixed t p = single t (is_true (fit_token t) p)

pub one : (k : ℕ) (t : List ℕ) → k < 8 → 0 < length t → Fit (token k t ∷ [])
one k t p q = single (token k t) (both (ltb 0 (length t)) (ltb k 8) (lt-ltb 0 (length t) q) (lt-ltb k 8 p))

parts : (t : Token) → fit_token t ≡ true → (0 < length t.bytes) × (t.kind < 8)
parts t e = let f = both_yes (ltb 0 (length t.bytes)) (ltb t.kind 8) e in (ltb-true 0 (length t.bytes) f.0, ltb-true t.kind 8 f.1)

-- further bytes
longer : (t : Token) (s : List ℕ) → fit_token t ≡ true → fit_token (token t.kind (t.bytes ++ s)) ≡ true
longer t s e =
    let f = parts t e in
    let n : 0 < length (t.bytes ++ s) = rw length-append (omega (arith, f.0)) in
    both (ltb 0 (length (t.bytes ++ s))) (ltb t.kind 8) (lt-ltb 0 (length (t.bytes ++ s)) n) (lt-ltb t.kind 8 f.1)

first : {t : Token} {ts : List Token} → Fit (t ∷ ts) → (fit_token t ≡ true) × Fit ts
first {t} {ts} p = let f = both_yes (fit_token t) (every fit_token ts) p.each in (f.0, record { each = f.1 })

pub prefixed_fit : (t : Token) (v : ℕ) → Fit (t ∷ []) → Fit (prefixed t v ∷ [])
unfolding prefixed
prefixed_fit t v p = single _ (longer t _ (first p).0)

-- ---- tokens behind each other
pub none : Fit []
none = record { each = refl }

more : {t : Token} {ts : List Token} → fit_token t ≡ true → Fit ts → Fit (t ∷ ts)
more {t} {ts} e p = record { each = both (fit_token t) (every fit_token ts) e p.each }

pub behind : {a b : List Token} → Fit a → Fit b → Fit (a ++ b)
behind {a = []} p q = q
behind {a = t ∷ a} p q = let f = first p in more f.0 (behind f.1 q)

-- made Text
pub as_text_lem : {ts : List Token} → Fit ts → Fit (map as_text ts)
as_text_lem {ts = []} p = p
as_text_lem {ts = t ∷ ts} p =
    let f = first p in
    let g = parts t f.0 in
    more (both (ltb 0 (length t.bytes)) true (lt-ltb 0 (length t.bytes) g.0) refl) (as_text_lem f.1)

-- ---- joined
run_fit : (t : Token) (ts : List Token) → fit_token t ≡ true → Fit ts → Fit (run t ts)
run_fit t [] e p = rw run_last (single t e)
run_fit t (u ∷ us) e p =
    let f = first p in
    ⊎_elim (λ h. rw (run_glued t u us h) (run_fit (glue t u) us (longer t u.bytes e) f.1)) (λ h. rw (run_apart t u us h) (more e (run_fit u us f.0 f.1))) (cases (glued t u))

pub join_fit : (ts : List Token) → Fit ts → Fit (join ts)
unfolding join
join_fit [] p = p
join_fit (t ∷ ts) p = let f = first p in run_fit t ts f.0 f.1

run_some : (t : Token) (ts : List Token) → 0 < length (run t ts)
run_some t [] = rw run_last (omega arith)
run_some t (u ∷ us) = ⊎_elim (λ h. rw (run_glued t u us h) (run_some (glue t u) us)) (λ h. rw (run_apart t u us h) (omega arith)) (cases (glued t u))

pub join_some : (ts : List Token) → 0 < length ts → 0 < length (join ts)
unfolding join
join_some [] p = p
join_some (t ∷ ts) p = run_some t ts
