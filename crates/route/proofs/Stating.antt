-- What a planned line is written for, as a statement; and the lines of a plan as a route reads them.
-- `stating` is over names and what instructions do; `statementFor` is that of a record.
use Prim.Native.Nat.{ℕ}
use mathlib.Core.List.{List}
use lib.Dec.{eqb}
use Rattle.lists.specs.Choice.{pick}
use Rattle.x86.specs.Mnemonics.{ret, jmp}
use Rattle.tokens.specs.Token.{symbol}
use Rattle.tokens.specs.Words.{prefixed}
use Rattle.record.specs.declared.header.Header.{Header}
use Rattle.record.specs.Layout.{starts_of, bodies_of}
use Rattle.record.specs.Blocks.{start_at}
use Rattle.record.specs.Body.{body_at, mnemonic_of, operand_number}
use Rattle.operand.specs.Names.{name_or}
use Rattle.structure.specs.Plan.{What, Line}
use Rattle.structure.specs.Plan.What.{label_line, do_line, open_line, if_goto, while_line, close_line, goto_line, tail_call, insn_line}
use Rattle.route.specs.Statement.{Statement}
use Rattle.route.specs.Statement.Statement.{label, do_open, if_open, goto_if, while_close, if_close, goto, return, leave, other}
use Rattle.route.specs.Following.{Stated}

-- what an instruction does that has a line of its own
pub data Own : Type 0 where
  own_on : Own
  own_return : Own
  own_leave : Own

abbrev pub own_statement : Own → Statement
own_statement own_on = other
own_statement own_return = return
own_statement own_leave = leave

-- `name` of a place's label, `target` the name that an instruction's goto has, `own` what an instruction does
module _ (name target : ℕ → List ℕ) (own : ℕ → Own) where
  abbrev pub stating : What → ℕ → ℕ → Statement
  stating label_line k i = label (name k)
  stating do_line k i = do_open
  stating open_line k i = if_open
  stating if_goto k i = goto_if (target i)
  stating while_line k i = while_close
  stating close_line k i = if_close
  stating goto_line k i = goto (target i)
  stating tail_call k i = leave
  stating insn_line k i = own_statement (own i)

  -- a line as a route reads it, with the address that a list has for it
  abbrev pub stated_as : (Line → ℕ) → Line → Stated
  stated_as address l = record { place = l.place; address = address l; statement = stating l.what l.place l.at }

-- the name of a label at an address: `loc_` and the address
abbrev pub label_name : ℕ → List ℕ
label_name va = (prefixed (symbol "loc_") va).bytes

-- ret returns; of jmps only indirect ones have a line of their own
abbrev pub own_of : List ℕ → Own
own_of b = pick (eqb (mnemonic_of b) ret) own_return (pick (eqb (mnemonic_of b) jmp) own_leave own_on)

module _ (h : Header) (s : List ℕ) where
  abbrev pub name_at : ℕ → List ℕ
  name_at k = label_name (start_at (starts_of h s) k)

  -- the name that a branch's or jump's target prints as
  abbrev pub target_name : ℕ → List ℕ
  target_name i = (name_or h s (operand_number (body_at (bodies_of h s) i) 0) (symbol "loc_")).bytes

  abbrev pub own_at : ℕ → Own
  own_at i = own_of (body_at (bodies_of h s) i)

  abbrev pub statement_for : Line → Statement
  statement_for l = stating name_at target_name own_at l.what l.place l.at
