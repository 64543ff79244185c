-- A code more, with a value behind it or without, is a token coded.
-- A token that counts as Text has the kind that its code has.
use Rattle.std.proofs.Common.{◌≡◌, ℕ, ◌≤◌, Bool, true, false, List, [], ◌∷◌, ◌++◌, length, refl, ◌∙◌, append-nil, add-zero, arith}
use Rattle.lists.specs.Choice.{pick}
use Rattle.tokens.specs.Token.{token}
use Rattle.tokens.specs.Listing.{text_of}
use Rattle.codes.specs.Code.{code_of, all_in_table, decode}
use Rattle.codes.specs.Code.Event.{tok}
use Rattle.codes.specs.Coded.{last_in, is_plain, joins_last, counted, last_kind, fresh, marked, kind_on, Coded, Added}

-- one token as it counts
module _ (k : ℕ) (x : List ℕ) where
  counts : (p : Bool) → counted p (token k x ∷ []) ≡ token (pick p 0 k) x ∷ []
  unfolding counted
  counts true = refl
  counts false = refl

  text_is : text_of (token k x ∷ []) ≡ x
  unfolding text_of
  text_is = append-nil x

  module _ (l : ℕ) (p : Bool) where
    last_is : last_kind l (counted p (token k x ∷ [])) ≡ pick p 0 k
    unfolding last_kind
    last_is = rw (counts p)

    fresh_is : fresh l (counted p (token k x ∷ [])) ≡ pick (joins_last l (pick p 0 k)) 0 1
    unfolding fresh
    fresh_is = rw (counts p) (add-zero _)

    marked_is : marked l (counted p (token k x ∷ [])) ≡ tok (joins_last l (pick p 0 k)) (token (pick p 0 k) x) ∷ []
    unfolding marked
    marked_is = rw (counts p)

module _ (t s c c' : List ℕ) (k what size place n : ℕ) (values x : List ℕ) where
  -- the code and the values behind it read as the token, whatever codes come behind
  abbrev pub Reads : Type 0
  Reads =
      (r : List ℕ) → decode t s ((code_of (kind_on c k) (joins_last (last_in c) (kind_on c k)) what size place ∷ values) ++ r)
      ≡ tok (joins_last (last_in c) (kind_on c k)) (token (kind_on c k) x) ∷ decode t s r

  -- and they lie within the table
  abbrev pub Lies : Type 0
  Lies =
      (r : List ℕ) → all_in_table (length t) ((code_of (kind_on c k) (joins_last (last_in c) (kind_on c k)) what size place ∷ values) ++ r)
      ≡ all_in_table (length t) r

  pub coded_added : length values ≤ 1 → Added c c' k what size place n values → n ≡ length x → Reads → Lies → Coded t s c c' (token k x ∷ [])
  coded_added h a e q l =
      record {
        cells = code_of (kind_on c k) (joins_last (last_in c) (kind_on c k)) what size place ∷ values;
        bytes = a.counted_bytes ∙ rw (text_is k x, e);
        tokens = a.counted_tokens ∙ rw (fresh_is k x (last_in c) (is_plain c));
        count = a.counted_codes;
        last = a.last ∙ rw (last_is k x (last_in c) (is_plain c));
        plain = a.plain;
        codes = λ _. a.codes;
        reads = λ r. q r ∙ rw (marked_is k x (last_in c) (is_plain c));
        within = l;
        few = omega (arith, h);
      }
