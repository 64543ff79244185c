-- The laws by which coders compose: nothing coded, and one coder behind another.
-- What tokens count, and the codes they have, are sums along the list; sums that wrap add up.
use Rattle.std.proofs.Common.{◌≡◌, ℕ, ◌+◌, ◌<◌, Bool, List, [], ◌∷◌, ◌++◌, length, get_or, sym, refl, ap, ◌∙◌, append_assoc, arith, length-append, w64, Fits}
use Rattle.lists.specs.Choice.{pick}
use Rattle.lists.specs.PutLaws.{put_none, put_append}
use Rattle.tokens.specs.Token.{Token}
use Rattle.tokens.specs.Token.{as_text}
use Rattle.tokens.specs.Listing.{text_of}
use Rattle.tokens.proofs.ListingLaws.{text_append}
use Rattle.codes.specs.Code.{Event, all_in_table, decode}
use Rattle.codes.specs.Code.Event.{tok}
use Rattle.codes.specs.Coded.{wrap, counted, last_kind, fresh, joins_last, marked, tokens_in, count_in, last_in, is_plain, Coded}

wrap_sum : (x y z : ℕ) → wrap (wrap (x + y) + z) ≡ wrap (x + (y + z))
wrap_sum x y z = omega arith

pub wrap_more : {u v : ℕ} (x y z : ℕ) → u ≡ wrap (x + y) → v ≡ wrap (u + z) → v ≡ wrap (x + (y + z))
wrap_more x y z e f = f ∙ rw e (wrap_sum x y z)

counted_append : (p : Bool) (a b : List Token) → counted p (a ++ b) ≡ counted p a ++ counted p b
unfolding counted
counted_append p [] b = refl
counted_append p (t ∷ a) b = ap {B = List Token} (λ l. pick p (as_text t) t ∷ l) (counted_append p a b)

last_append : (l : ℕ) (a b : List Token) → last_kind l (a ++ b) ≡ last_kind (last_kind l a) b
unfolding last_kind
last_append l [] b = refl
last_append l (t ∷ a) b = last_append t.kind a b

fresh_append : (l : ℕ) (a b : List Token) → fresh l (a ++ b) ≡ fresh l a + fresh (last_kind l a) b
unfolding fresh last_kind
fresh_append l [] b = omega arith
fresh_append l (t ∷ a) b = omega (arith, fresh_append t.kind a b)

marked_append : (l : ℕ) (a b : List Token) → marked l (a ++ b) ≡ marked l a ++ marked (last_kind l a) b
unfolding marked last_kind
marked_append l [] b = refl
marked_append l (t ∷ a) b = ap {B = List Event} (λ es. tok (joins_last l t.kind) t ∷ es) (marked_append t.kind a b)

-- the same of tokens as they count, the second behind the last of the first
module _ (l l₁ : ℕ) (p p₁ : Bool) (a b : List Token) (e : l₁ ≡ last_kind l (counted p a)) (q : p₁ ≡ p) where
  last_more : last_kind l₁ (counted p₁ b) ≡ last_kind l (counted p (a ++ b))
  last_more = rw (e, q, counted_append) (sym (last_append l (counted p a) (counted p b)))

  fresh_more : fresh l (counted p a) + fresh l₁ (counted p₁ b) ≡ fresh l (counted p (a ++ b))
  fresh_more = rw (e, q, counted_append) (sym (fresh_append l (counted p a) (counted p b)))

  marked_more : marked l (counted p a) ++ marked l₁ (counted p₁ b) ≡ marked l (counted p (a ++ b))
  marked_more = rw (e, q, counted_append) (sym (marked_append l (counted p a) (counted p b)))

module _ (t s : List ℕ) where
  -- what is known of each number of a lent list is enough
  pub coded_none : (c : List ℕ) → ((i : ℕ) → Fits w64 (get_or c i 0)) → Coded t s c c []
  unfolding counted text_of fresh last_kind marked
  coded_none c h =
      record {
        cells = [];
        bytes = omega (arith, h 0);
        tokens = omega (arith, h 1);
        count = omega (arith, h 2);
        last = refl;
        plain = refl;
        codes = λ l. sym (put_none _ _);
        reads = λ r. refl;
        within = λ r. refl;
        few = omega arith;
      }

  pub coded_more : {c c₁ c₂ : List ℕ} {a b : List Token} → Coded t s c c₁ a → Coded t s c₁ c₂ b → Coded t s c c₂ (a ++ b)
  coded_more {c} {c₁} {c₂} {a} {b} f g =
      record {
        cells = f.cells ++ g.cells;
        bytes = rw (text_append a b, length-append) (wrap_more _ _ _ f.bytes g.bytes);
        tokens = wrap_more _ _ _ f.tokens g.tokens ∙ ap (λ (n : ℕ). wrap (tokens_in c + n)) (fresh_more _ _ _ _ a b f.last f.plain);
        count = rw length-append (wrap_more _ _ _ f.count g.count);
        last = g.last ∙ last_more _ _ _ _ a b f.last f.plain;
        plain = g.plain ∙ f.plain;
        codes = λ h.
            let m : count_in c + (length f.cells + length g.cells) < 18446744073709551616 = omega (arith, h, length-append f.cells g.cells) in
            let d : count_in c₁ ≡ count_in c + length f.cells = omega (arith, f.count, m) in
            g.codes (omega (arith, d, m)) ∙ rw (put_append, d, f.codes (omega (arith, m)));
        reads = λ r.
            let A = marked (last_in c) (counted (is_plain c) a) in
            let B = marked (last_in c₁) (counted (is_plain c₁) b) in
            ap (decode t s) (append_assoc f.cells g.cells r) ∙ f.reads (g.cells ++ r) ∙ ap (λ (l : List Event). A ++ l) (g.reads r)
            ∙ sym (append_assoc A B (decode t s r)) ∙ ap (λ (l : List Event). l ++ decode t s r) (marked_more _ _ _ _ a b f.last f.plain);
        within = λ r. ap (all_in_table (length t)) (append_assoc f.cells g.cells r) ∙ f.within (g.cells ++ r) ∙ g.within r;
        few = omega (arith, f.few, g.few, length-append f.cells g.cells, length-append a b);
      }
