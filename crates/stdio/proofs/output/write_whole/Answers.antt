-- `write_whole` meets its contract.
-- What a write takes goes from the front of the rest to the end of what was appended.
use Rattle.std.proofs.Common.{◌≡◌, ℕ, ◌-◌, List, ◌++◌, rules, arith, length, take, drop, sym, ap, ◌∙◌, subst, append_assoc, append-nil, take-append-drop, drop_of_length-le}
use Rattle.std.proofs.lemmas.List.{take_rest}
use Rattle.std.specs.Io.KnownBytes.{Appends}
use Rattle.std.proofs.KnownBytes.{Appends-trans, Appends-kept}
use Rattle.stdio.proofs.output.write_whole.Goals as goal
use Rattle.stdio.proofs.output.write_whole.Goals.{in-Ok, in-Err+else-ne}

moves_front : (all done rest : List ℕ) (n : ℕ) → all ≡ done ++ rest → all ≡ (done ++ take n rest) ++ take (length rest - n) (drop n rest)
moves_front all done rest n e =
    e ∙ ap (λ l. done ++ l) (sym (take-append-drop n rest)) ∙ sym (append_assoc done (take n rest) (drop n rest)) ∙ ap (λ l. (done ++ take n rest) ++ l) (sym (take_rest rest n))

all_gone : (all done rest : List ℕ) → all ≡ done ++ rest → length rest ≡ 0 → all ≡ done
all_gone all done rest e none = e ∙ ap (λ l. done ++ l) (drop_of_length-le rest {i = 0} (omega arith)) ∙ append-nil done

pub loop-preserved : goal.loop-preserved
loop-preserved g c =
    let (done, split, appended) = c.loop.invariant in
    let rest = c.loop.rest.now in
    elim c.match-write.branch [
      | in-Ok w ↦
          let n = w.in-Ok.n in
          (done ++ take n rest, rw w.rest-is (moves_front _ done rest n split), Appends-trans _ _ _ _ _ appended w.in-Ok.ensures.bytes)
      | in-Err+else-ne w ↦ (done, rw w.rest-is split, Appends-kept _ _ _ _ appended w.in-Err.ensures.bytes)
    ]

pub returns-then-is_empty : goal.returns-then-is_empty
returns-then-is_empty g c =
    let (done, split, appended) = c.loop.invariant in
    λ _. subst (Appends _ _) (sym (all_gone _ done _ split (search rules))) appended

pub returns : goal.returns
returns g c =
    let (done, split, appended) = c.loop.invariant in
    λ yes. subst (Appends _ _) (sym (all_gone _ done _ split (search rules))) appended
