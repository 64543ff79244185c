-- What a line sets its first token to, from what the reader of literals answers of its third token.
-- A literal has one answer, which says whether it was cut; where there is room for 80 bytes the list is never short.
use mathlib.Core.Path.{◌≡◌, refl, sym, ap, ◌∙◌}
use mathlib.Core.Bool.{Bool, true, false}
use mathlib.Core.List.{List}
use Rattle.std.specs.Prelude.{Option, None, Some}
use Prim.Native.Nat.{ℕ, ◌≤◌}
use native.Mathlib.Omega.{arith}
use lib.ListN.{length, take, length-take}
use lib.Seq.{take_all}
use borrow.Author.Tests.{ltb-false, le-ltb, le-leb}
use Rattle.lists.specs.Ascii.{ascii}
use Rattle.x86.specs.Words.{same_word}
use Rattle.tokens.specs.Token.{Token, token}
use Rattle.rows.specs.Rows.{Row}
use Rattle.lists.proofs.Tests.{never}
use Rattle.std.specs.Prelude.{Ok, Err}
use Rattle.std.specs.declared.result.Result.{Result}
use Rattle.lists.specs.Question.{number_of}
use Rattle.lists.specs.declared.question.Question.{Question}
use Rattle.lists.proofs.Answered.{value_is, question_some}
use Rattle.strings.specs.Called.{IsLiteral, Returns, kept, room_no, values_of, values_for}
use Rattle.strings.specs.declared.reading.Values.{Values}
use Rattle.commands.specs.Literals.{string_of}
use Rattle.commands.specs.Calls.{token_of, given}
use Rattle.commands.specs.Making.{Gives}
use Rattle.commands.proofs.Strings.{string_sound, string_complete}

gives_none : (out : List ℕ) (o : Option (List ℕ)) → ((s : List ℕ) → o ≡ Some s → ⊥) → Gives None out o
gives_none out None f = record { size = refl; bytes = refl }
gives_none out (Some s) f = absurd (f s refl)

-- ---- the reader's answer r of the text x of a kind, with room for 80 bytes
module _ (kind : ℕ) (x out out' : List ℕ) (r : Result Values Question) (room : 80 ≤ length out) (v : Returns kind x out out' r) where
  roomy : (s : List ℕ) → room_no s out ≡ 0
  roomy s = rw (le-leb (length (kept s)) (length out) (omega (arith, length-take 80 s)))

  -- ---- what it tells, and what is left in the list
  abbrev t : Token
  t = token kind x

  pub none_read : (q : Question) → r ≡ Err q → Gives None out' (string_of t)
  none_read q e =
      gives_none out' (string_of t) (λ s h.
      let f = string_sound t s h in
      let k = question_some (room_no s out) (values_for f.0 s) r q (v.answer f.0 s f.1.0) e in
      let z = roomy s in
      omega (arith, k, z))

  module _ (y : Values) (e : r ≡ Ok y) where
    -- the literal's answer is this one
    same : (wide : Bool) (s : List ℕ) → IsLiteral kind x wide s → y ≡ values_for wide s
    same wide s q = (value_is (room_no s out) (values_for wide s) r y (v.answer wide s q) e).1

    literal : (wide : Bool) × ((s : List ℕ) × IsLiteral kind x wide s)
    literal = v.others (λ h. let z : number_of (Ok y) ≡ 17 = rw e at h in omega (arith, z))

    pub cut_read : y.cut ≡ true → Gives None out' (string_of t)
    cut_read c =
        gives_none out' (string_of t) (λ s h.
        let q = string_sound t s h in
        never (sym (le-ltb 80 (length s) q.1.1) ∙ sym (ap (λ (z : Values). z.cut) (same q.0 s q.1.0)) ∙ c))

    pub whole_read : y.cut ≡ false → Gives (Some y.count) out' (string_of t)
    whole_read c =
        let wide = literal.0 in
        let s = literal.1.0 in
        let q = literal.1.1 in
        let f = same wide s q in
        let l : length s ≤ 80 = ltb-false 80 (length s) (sym (ap (λ (z : Values). z.cut) f) ∙ c) in
        let m : y.count ≡ length s = ap (λ (z : Values). z.count) f ∙ ap length (take_all 80 s l) in
        let d : length s ≡ (values_of r).count = sym m ∙ ap (λ (z : Result Values Question). (values_of z).count) (sym e) in
        rw (string_complete t wide s q l)
        (record { size = ap Some m; bytes = ap (λ (k : ℕ). take k out') d ∙ (v.whole (ap number_of e) wide s q l).0 })

-- ---- of a line, whose second token is ` = ` or not
module _ (r : Row) (u : List ℕ) (s : Bool) (p : u ≡ (token_of r 1).bytes) (g : s ≡ same_word u (ascii " = ")) where
  pub no_assign : (out : List ℕ) → s ≡ false → Gives None out (given r)
  unfolding given
  no_assign out h = rw (← p, ← g, h) (record { size = refl; bytes = refl })

  pub assigned : (kind : ℕ) (n : Option ℕ) (x out : List ℕ) → s ≡ true → kind ≡ (token_of r 2).kind → x ≡ (token_of r 2).bytes → Gives n out (string_of (token kind x)) → Gives n out (given r)
  unfolding given
  assigned kind n x out h k f w = rw (← p, ← g, h) (rw (k, f) at w)
