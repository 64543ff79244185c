-- What joining leaves of a line: its first token's kind and whether that is a keyword of the flow, a `goto` in it, and its last byte.
-- Only Text and Punct grow, and no keyword does; along the tokens.
use Prim.Native.Nat.{ℕ}
use mathlib.Core.Path.{◌≡◌, refl, sym, ap, ◌∙◌}
use mathlib.Core.Bool.{Bool, true, false, not, ◌||◌, and-false, false≢true}
use mathlib.Core.List.{List, [], ◌∷◌, ◌++◌, append-nil}
use mathlib.Core.Logic.{◌⊎◌, ⊎_elim}
use lib.Dec.{eqb}
use borrow.Author.Tests.{eqb-true, not-true}
use Rattle.lists.specs.Choice.{pick}
use Rattle.lists.specs.Every.{both_yes, neither, every}
use Rattle.tokens.specs.Token.{Token, punct, plain_text, keyword, joining}
use Rattle.tokens.specs.Listing.{glued, glue, run, join}
use Rattle.tokens.proofs.ListingLaws.{cases, glued_kind, run_glued, run_apart, run_last, join_text}
use Rattle.route.specs.Statement.{Statement, nth, is_punct, is_keyword, final, ending, if_states, first_states, statement_of}
use Rattle.route.specs.Statement.Statement.{label, do_open, if_open, goto_if, other}

-- a first token that states no more than that the line is an instruction's
abbrev pub calm : Token → Bool
calm t = not (is_punct t || is_keyword "return" t || is_keyword "goto" t || is_keyword "if" t)

abbrev pub mild : Token → Bool
mild t = not (is_keyword "goto" t)

no_keyword : (k : ℕ) → joining k ≡ true → eqb k 3 ≡ false
no_keyword k j = ⊎_elim (λ e. absurd (false≢true (rw (eqb-true k 3 e) at j))) (λ e. e) (cases (eqb k 3))

-- a token that grows is none
grows : (t u : Token) → glued t u ≡ true → eqb t.kind 3 ≡ false
grows t u e = no_keyword t.kind (rw (glued_kind t u e) at (both_yes (eqb u.kind t.kind) (joining u.kind) e).1)

mild_glue : (t u : Token) → glued t u ≡ true → mild (glue t u) ≡ true
mild_glue t u e = rw (grows t u e)

-- a test of the first token that growing does not change
first_run : (q : Token → Bool) → ((t u : Token) → glued t u ≡ true → q (glue t u) ≡ q t) → (t : Token) (ts : List Token) → q (nth (run t ts) 0) ≡ q t
first_run q kept t [] = rw run_last
first_run q kept t (u ∷ us) =
    ⊎_elim (λ e. rw (run_glued t u us e) (first_run q kept (glue t u) us ∙ kept t u e)) (λ e. rw (run_apart t u us e)) (cases (glued t u))

pub calm_run : (t : Token) (ts : List Token) → calm (nth (run t ts) 0) ≡ calm t
calm_run = first_run calm (λ t u e. rw (grows t u e))

pub punct_run : (t : Token) (ts : List Token) → is_punct (nth (run t ts) 0) ≡ is_punct t
punct_run = first_run is_punct (λ t u e. refl)

-- ---- an `if`: what stands behind tokens without a `goto`
behind : (t : Token) (ts : List Token) → mild t ≡ true → if_states (t ∷ ts) ≡ if_states ts
unfolding if_states
behind t ts m = rw (not-true (is_keyword "goto" t) m)

past : (x : Statement) (rest : List Token) → ((t : Token) → mild t ≡ true → if_states (run t rest) ≡ x) → (t : Token) (ts : List Token) → mild t ≡ true → every mild ts ≡ true
    → if_states (run t (ts ++ rest)) ≡ x
past x rest at t [] m a = at t m
past x rest at t (u ∷ us) m a =
    let p = both_yes (mild u) (every mild us) a in
    ⊎_elim (λ e. rw (run_glued t u (us ++ rest) e) (past x rest at (glue t u) us (mild_glue t u e) p.1))
    (λ e. rw (run_apart t u (us ++ rest) e) (behind t (run u (us ++ rest)) m ∙ past x rest at u us p.0 p.1))
    (cases (glued t u))

pub if_other : (t : Token) (ts : List Token) → mild t ≡ true → every mild ts ≡ true → if_states (run t ts) ≡ other
unfolding if_states
if_other t ts m a = ap (λ (l : List Token). if_states (run t l)) (sym (append-nil ts)) ∙ past other [] (λ u n. rw run_last (behind u [] n)) t ts m a

-- a name stands apart from the space before it and the semicolon behind it
abbrev pub Named : Token → Type 0
Named n = (n.kind ≡ 4) ⊎ (n.kind ≡ 5)

module _ (n : Token) (named : Named n) where
  abbrev pub goes : List Token
  goes = keyword "goto" ∷ plain_text " " ∷ n ∷ punct ";" ∷ []

  pub goes_apart : run (keyword "goto") (plain_text " " ∷ n ∷ punct ";" ∷ []) ≡ goes
  unfolding run
  goes_apart = ⊎_elim (λ e. rw e) (λ e. rw e) named

  pub if_goes : (t : Token) (ts : List Token) → mild t ≡ true → every mild ts ≡ true → if_states (run t (ts ++ goes)) ≡ goto_if n.bytes
  unfolding if_states
  if_goes = past (goto_if n.bytes) goes (λ t m. rw (run_apart t (keyword "goto") (plain_text " " ∷ n ∷ punct ";" ∷ []) (and-false (eqb 3 t.kind)), goes_apart) (behind t goes m))

-- ---- the last byte
pub final_append : (b : ℕ) (s t : List ℕ) → final b (s ++ t) ≡ final (final b s) t
unfolding final
final_append b [] t = refl
final_append b (x ∷ s) t = final_append x s t

pub ending_joined : (ts : List Token) → ending (join ts) ≡ ending ts
ending_joined ts = ap (final 0) (join_text ts)

-- neither a colon nor an opening brace
abbrev pub shut : ℕ → Bool
shut e = not (eqb e 58 || eqb e 123)

pub calm_other : (ts : List Token) → shut (ending ts) ≡ true → calm (nth ts 0) ≡ true → statement_of ts ≡ other
unfolding statement_of
calm_other ts e c =
    let t = nth ts 0 in
    let b = neither (eqb (ending ts) 58) (eqb (ending ts) 123) (not-true (eqb (ending ts) 58 || eqb (ending ts) 123) e) in
    let p = neither (is_punct t || is_keyword "return" t || is_keyword "goto" t) (is_keyword "if" t) (not-true _ c) in
    let q = neither (is_punct t || is_keyword "return" t) (is_keyword "goto" t) p.0 in
    let r = neither (is_punct t) (is_keyword "return" t) q.0 in
    rw (b.0, b.1, r.0, r.1, q.1, p.1)

-- by a last byte that is known
abbrev pub states_by : ℕ → List Token → Statement
states_by b ts = pick (eqb b 58) (label (nth ts 0).bytes) (pick (eqb b 123) (pick (is_keyword "do" (nth ts 0)) do_open if_open) (first_states (nth ts 0) ts))

pub by_byte : (b : ℕ) (ts : List Token) → eqb (ending ts) b ≡ true → statement_of ts ≡ states_by b ts
unfolding statement_of
by_byte b ts e = rw (eqb-true (ending ts) b e)
