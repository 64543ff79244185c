-- What the exported functions answer and leave is what their definitions say.
-- The call's answer has the number, the sizes and the looks.
use mathlib.Core.Path.{◌≡◌, refl, ◌∙◌}
use mathlib.Core.List.{List}
use Prim.Native.Nat.{ℕ}
use lib.ListN.{set}
use Rattle.std.specs.Prelude.{Ok, Err}
use Rattle.std.specs.declared.result.Result.{Result}
use Rattle.lists.specs.Put.{put}
use Rattle.lists.specs.Question.{number, number_of, Answers}
use Rattle.lists.specs.declared.question.Question.{Question}
use Rattle.lists.proofs.Answered.{number_is}
use Rattle.rows.specs.Lists.{Lists}
use Rattle.rows.specs.declared.answer.Sizes.{Sizes}
use Rattle.record.specs.Asked.{first_no}
use Rattle.pseudo.specs.Called.{sizes, LooksCounted}
use Rattle.pseudo.specs.Promise.{Promise}
use Rattle.abi.specs.Exported.{size_list, answer_list, looked, Exported, Sized}
use Rattle.abi.specs.Stores.{number_by}

-- the number of an answer whose error is a question
pub number_at : (r : Result ℕ Question) → number_by number r ≡ number_of r
number_at (Ok n) = refl
number_at (Err q) = refl

-- the looks behind the sizes
pub put_looks : (r : Result Sizes Question) (looks : ℕ) (e e₁ e₂ : List ℕ) → e₁ ≡ put 0 (size_list r) e → e₂ ≡ set e₁ 3 looks → e₂ ≡ put 0 (answer_list r looks) e
unfolding put
put_looks (Ok z) looks e e₁ e₂ p q = q ∙ rw p
put_looks (Err k) looks e e₁ e₂ p q = q ∙ rw p

module _ (s : List ℕ) (from to : ℕ) (z z' : List ℕ) (g : Result Sizes Question) (looks n : ℕ) (h : n ≡ number_of g) (q : z' ≡ put 0 (answer_list g looks) z) where
  pub exported : (b a : Lists) → Promise s from to b a g looks → Exported s from to b a z z' n
  exported b a p =
      let e : looks ≡ looked s from to g = p.looked.counted in
      record { answer = g; lists = rw (← e) p; number = h ∙ number_is _ _ g p.called.answer; same = h; sizes = rw (← e) q }

  pub sized : Answers (first_no s from to) (sizes s from to) g → LooksCounted s from to g looks → Sized s from to z z' n
  sized v p =
      let e : looks ≡ looked s from to g = p.counted in
      record { answer = g; asked = v; number = h ∙ number_is _ _ g v; looks = rw (← e) p; sizes = rw (← e) q }
