-- What stores of the five numbers and of a code behind them leave.
-- A list of five numbers or more is taken apart once; on it each law computes.
use Rattle.std.proofs.Common.{◌≡◌, ℕ, suc, ◌+◌, ◌≤◌, Bool, true, false, eqb, List, [], ◌∷◌, length, set, sym, refl, ap, ◌∙◌, add-one, arith}
use lib.Seq.{set_out}
use Rattle.lists.specs.Choice.{pick}
use Rattle.lists.specs.Put.{put}
use Rattle.lists.specs.PutLaws.{put_cons, put_none}
use Rattle.codes.specs.Code.{code_of}
use Rattle.codes.specs.Coded.{wrap, bytes_in, tokens_in, count_in, last_in, joins_last, kind_on, Started, Plain, Added, Ended}
use Rattle.codes.specs.State.{with_token}

taken_apart : (P : List ℕ → Type 0) → ((a b d l p : ℕ) (r : List ℕ) → P (a ∷ (b ∷ (d ∷ (l ∷ (p ∷ r)))))) → (c : List ℕ) → 5 ≤ length c → P c
taken_apart P f [] h = absurd (omega arith)
taken_apart P f (a ∷ []) h = absurd (omega arith)
taken_apart P f (a ∷ (b ∷ [])) h = absurd (omega arith)
taken_apart P f (a ∷ (b ∷ (d ∷ []))) h = absurd (omega arith)
taken_apart P f (a ∷ (b ∷ (d ∷ (l ∷ [])))) h = absurd (omega arith)
taken_apart P f (a ∷ (b ∷ (d ∷ (l ∷ (p ∷ r))))) h = f a b d l p r

pub started : (c : List ℕ) → 5 ≤ length c → Started (set (set (set (set (set c 0 0) 1 0) 2 0) 3 255) 4 0)
started =
    taken_apart (λ c. Started (set (set (set (set (set c 0 0) 1 0) 2 0) 3 255) 4 0))
    (λ a b d l p r. record { no_bytes = refl; no_tokens = refl; no_codes = refl; last = refl; plain = refl })

told : (b : Bool) → eqb (pick b 1 0) 1 ≡ b
told true = refl
told false = refl

pub plain_set : (c : List ℕ) (x : ℕ) (b : Bool) → 5 ≤ length c → x ≡ pick b 1 0 → Plain c (set c 4 x) b
plain_set c x b h e =
    rw e
    (taken_apart (λ c. Plain c (set c 4 (pick b 1 0)) b)
    (λ a b' d l p r. record { same_bytes = refl; same_tokens = refl; same_count = refl; last = refl; now_plain = told b; codes = refl }) c h)

pub token_counted : (c : List ℕ) (x f y z kind bytes n : ℕ) (joins : Bool) → x ≡ wrap (bytes_in c + bytes) → f ≡ pick joins 0 1 → y ≡ wrap (tokens_in c + f)
    → z ≡ wrap (count_in c + n) → set (set (set (set c 0 x) 1 y) 2 z) 3 kind ≡ with_token c kind joins bytes n
token_counted c x f y z kind bytes n joins e₀ e₁ e₂ e₃ = rw (e₃, e₂, e₁, e₀)

-- past the end of the list
pub past_one : (c : List ℕ) (i x : ℕ) → length c ≤ 5 + i → c ≡ set c (5 + i) x
past_one c i x h = sym (set_out c (5 + i) x h)

pub past_two : (c : List ℕ) (i x v : ℕ) → length c ≤ 5 + i → c ≡ set (set c (5 + i) x) (6 + i) v
past_two c i x v h = rw (set_out c (5 + i) x h) (sym (set_out c (6 + i) v (omega arith)))

-- the number behind number i
pub next_stored : (c₁ c' : List ℕ) (i v : ℕ) → c' ≡ set c₁ (5 + (i + 1)) v → c' ≡ set c₁ (6 + i) v
next_stored c₁ c' i v e = e ∙ ap (λ (k : ℕ). set c₁ k v) (omega arith)

five : (i : ℕ) → 5 + i ≡ suc (suc (suc (suc (suc i))))
five i = omega arith

six : (i : ℕ) → 6 + i ≡ suc (suc (suc (suc (suc (suc i)))))
six i = omega arith

put_one : (r : List ℕ) (i x : ℕ) → set r i x ≡ put i (x ∷ []) r
put_one r i x = rw (put_cons, put_none)

put_two : (r : List ℕ) (i x v : ℕ) → set (set r i x) (suc i) v ≡ put i (x ∷ (v ∷ [])) r
put_two r i x v = rw (put_cons, put_cons, put_none, add-one)

pub ended : (c : List ℕ) (z : ℕ) (c' : List ℕ) → 5 ≤ length c → z ≡ wrap (count_in c + 1) → c' ≡ set (set (set c 2 z) 3 255) (5 + count_in c) 120 → Ended c c'
ended c z c' h e q =
    rw (q, e)
    (taken_apart (λ c. Ended c (set (set (set c 2 (wrap (count_in c + 1))) 3 255) (5 + count_in c) 120))
    (λ a b d l p r. rw (five d) (record {
      same_bytes = refl;
      same_tokens = refl;
      counted_codes = rw add-one;
      last = refl;
      plain = refl;
      codes = put_one r d 120;
    })) c h)

-- the code of a token, as it is stored on the list c
abbrev code_on : List ℕ → (k what size place : ℕ) → ℕ
code_on c k what size place = code_of (kind_on c k) (joins_last (last_in c) (kind_on c k)) what size place

abbrev token_on : List ℕ → (k bytes n : ℕ) → List ℕ
token_on c k bytes n = with_token c (kind_on c k) (joins_last (last_in c) (kind_on c k)) bytes n

module _ (k what size place bytes : ℕ) where
  one : (c : List ℕ) → 5 ≤ length c → Added c (set (token_on c k bytes 1) (5 + count_in c) (code_on c k what size place)) k what size place bytes []
  one =
      taken_apart (λ c. Added c (set (token_on c k bytes 1) (5 + count_in c) (code_on c k what size place)) k what size place bytes [])
      (λ a b d l p r. rw (five d) (record {
        counted_bytes = refl;
        counted_tokens = refl;
        counted_codes = refl;
        last = refl;
        plain = refl;
        codes = put_one r d _;
      }))

  two : (v : ℕ) (c : List ℕ) → 5 ≤ length c
      → Added c (set (set (token_on c k bytes 2) (5 + count_in c) (code_on c k what size place)) (6 + count_in c) v) k what size place bytes (v ∷ [])
  two v =
      taken_apart (λ c. Added c (set (set (token_on c k bytes 2) (5 + count_in c) (code_on c k what size place)) (6 + count_in c) v) k what size place bytes (v ∷ []))
      (λ a b d l p r. rw (five d, six d) (record {
        counted_bytes = refl;
        counted_tokens = refl;
        counted_codes = refl;
        last = refl;
        plain = refl;
        codes = put_two r d _ v;
      }))

  module _ (c c₁ c' : List ℕ) (kind x : ℕ) (joins : Bool) (h : 5 ≤ length c) (e₀ : kind ≡ kind_on c k) (e₁ : joins ≡ joins_last (last_in c) kind) where
    pub added : c₁ ≡ with_token c kind joins bytes 1 → x ≡ code_of kind joins what size place → c' ≡ set c₁ (5 + count_in c) x
        → Added c c' k what size place bytes []
    added e₂ e₃ e₄ = rw (e₄, e₃, e₂, e₁, e₀) (one c h)

    pub added_valued : (v : ℕ) → c₁ ≡ with_token c kind joins bytes 2 → x ≡ code_of kind joins what size place → c' ≡ set (set c₁ (5 + count_in c) x) (6 + count_in c) v
        → Added c c' k what size place bytes (v ∷ [])
    added_valued v e₂ e₃ e₄ = rw (e₄, e₃, e₂, e₁, e₀) (two v c h)
