-- What reading a literal promises, from what its passes ensure.
-- A string's literal is found as it is; what is found is a string's literal.
use mathlib.Core.Path.{◌≡◌, refl, sym, ◌∙◌}
use mathlib.Core.Bool.{Bool, false}
use mathlib.Core.List.{List, ◌++◌}
use Prim.Native.Nat.{ℕ, ◌≤◌, ◌<◌}
use native.Mathlib.Omega.{arith}
use native.Mathlib.Nat.{zero-add}
use lib.Dec.{ltb}
use lib.ListN.{length, take, drop}
use lib.Seq.{take_all, take-append_seam}
use borrow.Author.Tests.{le-leb, lt-leb, le-ltb}
use Rattle.lists.specs.PutLaws.{put_fits}
use Rattle.text.specs.Literal.{closing}
use Rattle.strings.specs.Called.{IsLiteral, Returns, kept, values_for, room_no}
use Rattle.strings.specs.Reading.{Found, Measured, Filled}
use Rattle.strings.specs.declared.literal.Literal.{Literal as Lit}
use Rattle.std.specs.Prelude.{Some, None, Ok, Err}
use Rattle.lists.specs.declared.question.Question.TheVariants.{TextRoom, Literal}
use Rattle.strings.proofs.Characters.{string_take}

-- 17
module _ (kind : ℕ) (t out : List ℕ) (none : (wide : Bool) (s : List ℕ) → IsLiteral kind t wide s → ⊥) where
  pub no_literal : Returns kind t out out (Err Literal)
  no_literal =
      record {
        answer = λ wide s q. absurd (none wide s q);
        bytes = λ wide s q. absurd (none wide s q);
        others = λ h. absurd (h refl);
        refused = λ _. (refl, refl);
        whole = λ z. absurd (omega (arith, z));
      }

pub other_kind : (kind : ℕ) (t out : List ℕ) → (kind ≡ 5 → ⊥) → Returns kind t out out (Err Literal)
other_kind kind t out h = no_literal kind t out (λ wide s q. h q.token)

pub other_text : (kind : ℕ) (t out : List ℕ) → Measured t None → Returns kind t out out (Err Literal)
other_text kind t out m = no_literal kind t out (λ wide s q. m wide s q.string q.text)

module _ (kind : ℕ) (t out : List ℕ) (l : Lit) (m : Measured t (Some l)) (k : kind ≡ 5) where
  abbrev found : (wide : Bool) (s : List ℕ) → IsLiteral kind t wide s → Found t l wide s
  found wide s q = m.only wide s q.string q.text

  literal : (wide : Bool) × ((s : List ℕ) × IsLiteral kind t wide s)
  literal = (l.wide, (m.is.0, record { token = k; string = m.is.1.0; text = m.is.1.1 }))

  -- 12
  pub no_room : length out < l.count → Returns kind t out out (Err TextRoom)
  no_room h =
      record {
        answer = twelve;
        bytes = λ wide s q. rw (twelve wide s q);
        others = λ _. literal;
        refused = λ _. (refl, refl);
        whole = λ z. absurd (omega (arith, z));
      }
    where
      twelve : (wide : Bool) (s : List ℕ) → IsLiteral kind t wide s → room_no s out ≡ 12
      twelve wide s q = rw (lt-leb (length (kept s)) (length out) (omega (arith, (found wide s q).count)))

  module _ (p out' : List ℕ) (h : l.count ≤ length out) (e : p ≡ drop l.start t) (w : Filled p l.count out out') where
    module _ (wide : Bool) (s : List ℕ) (q : IsLiteral kind t wide s) where
      room : room_no s out ≡ 0
      room = rw (le-leb (length (kept s)) (length out) (omega (arith, (found wide s q).count)))

      values : record { count = l.count; wide = l.wide; cut = l.cut } ≡ values_for wide s
      values = let f = found wide s q in rw (f.count, f.is_wide, f.is_cut)

      stored : out' ≡ kept s ++ drop (length (kept s)) out
      stored =
          let f = found wide s q in
          w.bytes (kept s) (closing (ltb 80 (length s))) (string_take 80 s q.string) (sym f.count) (e ∙ f.text)
          ∙ put_fits 0 (kept s) out (omega (arith, f.count)) ∙ rw zero-add

      -- the string of at most 80 characters itself
      itself : length s ≤ 80 → (take l.count out' ≡ s) × (l.wide ≡ wide) × (l.cut ≡ false)
      itself b =
          let f = found wide s q in
          (rw (stored, f.count, take-append_seam) (take_all 80 s b), f.is_wide, f.is_cut ∙ le-ltb 80 (length s) b)

    pub given_back : Returns kind t out out' (Ok (record { count = l.count; wide = l.wide; cut = l.cut }))
    given_back =
        record {
          answer = λ wide s q. (room wide s q, values wide s q);
          bytes = λ wide s q. rw (room wide s q) (stored wide s q);
          others = λ _. literal;
          refused = λ z. absurd (z refl);
          whole = λ _. itself;
        }
