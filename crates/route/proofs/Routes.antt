-- The theorem over rows: for any outcomes and any n, what is met in the listing from its top is what the processor meets from the first block.
-- The simulation of the whole tree, with the contexts that the silent list goes by; gotos by induction on n.
use mathlib.Core.Path.{◌≡◌, sym, ap, ◌∙◌, subst}
use mathlib.Core.Bool.{Bool, true, false≢true}
use mathlib.Core.List.{List, [], ◌∷◌, ◌++◌, map, append_assoc, append-nil}
use Prim.Native.Nat.{ℕ, zero, suc, ◌+◌, ◌-◌, ◌≤◌, zero-le}
use native.Mathlib.Nat.{le_refl, add-zero}
use native.Mathlib.Omega.{arith}
use lib.ListN.{get_or, length, replicate, length-replicate, get_or-replicate, get_or-append}
use lib.Seq.{get_or-append-add}
use Rattle.structure.specs.Tree.{Tree, tree_of}
use Rattle.structure.specs.Tree.Tree.{over, plain, region, loop}
use Rattle.structure.specs.Plan.{Line, range_lines, plan_of}
use Rattle.structure.specs.Demand.{Context, contexts}
use Rattle.structure.specs.Demand.Context.{in_range, last_in_body}
use Rattle.structure.proofs.Grown.{Fits, tree_fits}
use Rattle.structure.proofs.Addresses.{contexts_length}
use Rattle.route.specs.Assumed.{label_stands, all_labelled}
use Rattle.route.specs.Following.{route}
use Rattle.route.specs.Processor.Spot.{before}
use Rattle.route.proofs.Stating.{Own, stated_as}
use Rattle.route.proofs.Rules.{Runs, Rowed, Addressed}
use Rattle.route.proofs.Follows.{Agrees, Ok, Jumps, ok_tree}

abbrev at : List Context → ℕ → Context
at cs m = get_or cs m last_in_body

regrouped : (x y post : List Context) (m : ℕ) → at ((x ++ y) ++ post) m ≡ at (x ++ (y ++ post)) m
regrouped x y post m = ap (λ (cs : List Context). at cs m) (append_assoc x y post)

past : (x y post : List Context) (m : ℕ) → at ((x ++ y) ++ post) (length x + m) ≡ at (y ++ post) m
past x y post m = regrouped x y post (length x + m) ∙ get_or-append-add x (y ++ post) m last_in_body

-- the contexts say of each place what the regions write it in
agrees : (blocks edges : List ℕ) (context : ℕ → Context) (t : Tree) (i to : ℕ) (post : List Context) → Fits blocks edges t i to
    → ((m : ℕ) → context (i + m) ≡ at (contexts t i to ++ post) m) → Agrees context t i to
unfolding contexts
agrees blocks edges context over i to post f h = tt
agrees blocks edges context (plain r) i to post f h = (
  ap context (sym (add-zero i)) ∙ h 0,
  agrees blocks edges context r (i + 1) to post f.1 (λ m. let e : i + 1 + m ≡ i + suc m = omega arith in ap context e ∙ h (suc m)),
)
agrees blocks edges context (region t a r) i to post f h =
    let x = contexts a (i + 1) t in
    let y = contexts r t to in (
      agrees blocks edges context a (i + 1) t (y ++ post) f.4
          (λ m. let e : i + 1 + m ≡ i + suc m = omega arith in ap context e ∙ h (suc m) ∙ regrouped x y post m),
      agrees blocks edges context r t to post f.5
          (λ m.
          let e : t + m ≡ i + suc (length x + m) = omega (arith, contexts_length blocks edges a (i + 1) t f.4) in
          ap context e ∙ h (suc (length x + m)) ∙ past x y post m),
    )
agrees blocks edges context (loop j r) i to post f h =
    let c = in_range (j + 1) in
    let x = replicate (j - i) c in
    let y = last_in_body ∷ contexts r (j + 1) to in
    let n : length x ≡ j - i = length-replicate (j - i) c in (
      (λ k p q.
          let e : k ≡ i + (k - i) = omega arith in
          ap context e ∙ h (k - i) ∙ regrouped x y post (k - i)
          ∙ get_or-append x (y ++ post) last_in_body (k - i) (omega arith) ∙ get_or-replicate (j - i) (k - i) c last_in_body (omega arith)),
      agrees blocks edges context r (j + 1) to post f.3
          (λ m. let e : j + 1 + m ≡ i + (length x + suc m) = omega arith in ap context e ∙ h (length x + suc m) ∙ past x y post (suc m)),
    )

module _ (blocks edges shown starts targets : List ℕ) (B d : ℕ) (name target : ℕ → List ℕ) (own : ℕ → Own) (address : ℕ → ℕ) (line-address : Line → ℕ) where
  abbrev tree : Tree
  tree = tree_of blocks edges starts targets B 0 B

  abbrev pub plan : List Line
  plan = plan_of blocks edges shown starts targets B 0 B d

  abbrev pub context : ℕ → Context
  context k = get_or (contexts (tree_of blocks edges starts targets B 0 B) 0 B) k last_in_body

  tree_agrees : Agrees context tree 0 B
  tree_agrees =
      agrees blocks edges context tree 0 B [] (tree_fits blocks edges starts targets B 0 B)
      (λ m. let e : 0 + m ≡ m = omega arith in ap context e ∙ ap (λ (cs : List Context). at cs m) (sym (append-nil (contexts tree 0 B))))

  abbrev OkAt : ℕ → ℕ → List Line → Type 0
  OkAt n k ls = Ok blocks edges shown B context name target own address line-address plan n (before k) [] ls

  abbrev JumpsLead : ℕ → Type 0
  JumpsLead n = Jumps blocks edges shown B context name target own address line-address plan n

  module _ (rowed : Rowed blocks edges shown B name target own) (addressed : Addressed line-address address) (labelled : all_labelled blocks plan ≡ true) where
    -- no block is past the last, and no label past the last line
    ok_end : (n : ℕ) → OkAt n B []
    unfolding label_stands
    ok_end n a = (λ p. absurd (omega arith), λ k p q. absurd (false≢true q))

    ok_plan : (n : ℕ) → JumpsLead n → OkAt n 0 plan
    unfolding range_lines
    ok_plan n jumps =
        subst (OkAt n 0) (append-nil plan)
        (ok_tree blocks edges shown B context name target own address line-address plan rowed addressed n jumps tree 0 0 B d [] []
        (tree_fits blocks edges starts targets B 0 B) zero-le (le_refl B) tree_agrees (ok_end n))

    jumps_lead : (n : ℕ) → JumpsLead n
    unfolding all_labelled
    jumps_lead zero k p q m os h = absurd (omega arith)
    jumps_lead (suc n) k p q m os h = (ok_plan n (jumps_lead n) labelled).1 k p q m os (omega arith)

  pub follows : Rowed blocks edges shown B name target own → Addressed line-address address → 1 ≤ B → all_labelled blocks plan ≡ true
      → (n : ℕ) (os : List Bool) → Runs blocks shown B context own address n os (before 0) (route n os (map (stated_as name target own line-address) plan))
  unfolding all_labelled
  follows rowed addressed some labelled n os =
      (ok_plan rowed addressed labelled n (jumps_lead rowed addressed labelled n) labelled).0 some n os (le_refl n)
