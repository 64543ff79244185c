-- What the lines of a listing show, of their tokens as the lists hold them, joined: the condition of a branch, loop, setcc or cmovcc, and
-- the arguments of a call. What a line is written for, its block and its instruction stand beside it.
use Rattle.std.specs.Prelude.{◌≡◌, Bool, true, false, ◌&&◌, ◌||◌, List, [], ◌∷◌, ◌++◌, ℕ, eqb}
use Rattle.lists.specs.Choice.{pick}
use Rattle.tokens.specs.Token.{Token, punct, plain_text, keyword, symbol}
use Rattle.tokens.specs.Listing.{join}
use Rattle.x86.specs.Mnemonics as mnemonic
use Rattle.record.specs.declared.header.Header.{Header}
use Rattle.record.specs.Body.{mnemonic_of, condition_of, operand_kind, operand_number}
use Rattle.operand.specs.Names.{name_or}
use Rattle.operand.specs.Operand.{op_tokens}
use Rattle.cfg.specs.Graph.{first_in}
use Rattle.structure.specs.Plan.{What, Line, is}
use Rattle.structure.specs.Plan.What.{label_line, do_line, open_line, if_goto, while_line, close_line, goto_line, tail_call, insn_line}
use Rattle.flow.specs.Rows.{block_rows}
use Rattle.expressions.specs.Condition.{body_of}
use Rattle.expressions.specs.Shown.{Shows}
use Rattle.expressions.specs.ArgumentLaw.{since_call, UpToLast}

-- `if (..) {`
abbrev pub opening : List Token → List Token
opening c = keyword "if" ∷ punct " (" ∷ (c ++ (punct ") {" ∷ []))

-- `if (..) ` and what is then done
abbrev pub guarded : List Token → List Token → List Token
guarded done c = keyword "if" ∷ punct " (" ∷ (c ++ (punct ") " ∷ done))

-- `} while (..);`
abbrev pub closing : List Token → List Token
closing c = punct "} " ∷ keyword "while" ∷ punct " (" ∷ (c ++ (punct ");" ∷ []))

-- `x = ..;`
abbrev pub assigned : List Token → List Token → List Token
assigned x c = x ++ (punct " = " ∷ (c ++ (punct ";" ∷ [])))

-- a line that ends in a call: a call's own, that of a jmp through memory, and a tail call's
abbrev pub ends_in_call : What → List ℕ → Bool
ends_in_call w b =
    is w tail_call
    || (is w insn_line && (eqb (mnemonic_of b) mnemonic.call || (eqb (mnemonic_of b) mnemonic.jmp && eqb (operand_kind b 0) 1)))

-- what holds of each line, by the lines before it and its tokens
abbrev pub EachLine : (List Line → Line → List Token → Type 0) → List Line → List Line → List (List Token) → Type 0
EachLine P before [] [] = Unit {0}
EachLine P before [] (ts ∷ rest) = ⊥
EachLine P before (l ∷ ls) [] = ⊥
EachLine P before (l ∷ ls) (ts ∷ rest) = P before l ts × EachLine P (before ++ (l ∷ [])) ls rest

module _ (h : Header) (s : List ℕ) where
  -- a line of which a part shows the condition of instruction i, or turned over; `first` is the first instruction of its block
  pub record ShownIn (line : List Token → List Token) (turned : Bool) (first i : ℕ) (ts : List Token) : Type 0 where
    pub condition : List Token
    pub tokens : ts ≡ join (line condition)
    pub shows : Shows h s first i (condition_of (body_of h s i)) turned condition

  -- `goto` and the name of the branch's target
  abbrev pub goes : ℕ → List Token
  goes i = keyword "goto" ∷ plain_text " " ∷ name_or h s (operand_number (body_of h s i) 0) (symbol "loc_") ∷ punct ";" ∷ []

  -- an if-region's opening line shows the opposite of its branch's condition, each other line that shows one its own
  abbrev pub ConditionShown : What → ℕ → ℕ → List Token → Type 0
  ConditionShown open_line first i ts = ShownIn opening true first i ts
  ConditionShown if_goto first i ts = ShownIn (guarded (goes i)) false first i ts
  ConditionShown while_line first i ts = ShownIn closing false first i ts
  ConditionShown insn_line first i ts =
      let b = body_of h s i in
      (mnemonic_of b ≡ mnemonic.setcc → ShownIn (assigned (op_tokens h s b 0)) false first i ts)
      × (mnemonic_of b ≡ mnemonic.cmovcc → ShownIn (guarded (assigned (op_tokens h s b 0) (op_tokens h s b 1))) false first i ts)
  ConditionShown label_line first i ts = Unit {0}
  ConditionShown do_line first i ts = Unit {0}
  ConditionShown close_line first i ts = Unit {0}
  ConditionShown goto_line first i ts = Unit {0}
  ConditionShown tail_call first i ts = Unit {0}

  abbrev pub ConditionsShown : List Line → List (List Token) → Type 0
  ConditionsShown ls lines =
      EachLine (λ before l ts. ConditionShown l.what (first_in (block_rows h s) l.place) l.at ts) [] ls lines

  -- the instructions whose own lines these are: none is silent, and the branches and tests of the flow are left out
  abbrev pub shown_as : What → ℕ → List (List ℕ)
  shown_as w i = pick (is w insn_line) (body_of h s i ∷ []) []

  abbrev pub shown : List Line → List (List ℕ)
  shown [] = []
  shown (l ∷ ls) = shown_as l.what l.at ++ shown ls

  -- a line's last tokens are `(`, the convention's registers up to the last one written since the last call that is not silent, `);`
  pub record ArgumentsShown (before : List Line) (ts : List Token) : Type 0 where
    pub callee : List Token
    pub arguments : List Token
    pub tokens : ts ≡ join (callee ++ (punct "(" ∷ (arguments ++ (punct ");" ∷ []))))
    pub registers : UpToLast h.convention (since_call (shown before)) arguments

  abbrev pub CallsShown : List Line → List (List Token) → Type 0
  CallsShown ls lines = EachLine (λ before l ts. ends_in_call l.what (body_of h s l.at) ≡ true → ArgumentsShown before ts) [] ls lines
