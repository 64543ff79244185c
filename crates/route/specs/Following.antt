-- The listing's route (#109), "defined from its lines alone": for outcomes of the branches and a number of instruction lines to meet. For
-- each brace that is open the stack has the lines behind it.
use Rattle.std.specs.Prelude.{ℕ, zero, suc, List, [], ◌∷◌, Bool, take}
use Rattle.lists.specs.Choice.{pick}
use Rattle.x86.specs.Words.{same_word}
use Rattle.tokens.specs.Token.{Token}
use Rattle.tokens.specs.Lines.{lines_in}
use Rattle.rows.specs.Lists.{Lists}
use Rattle.route.specs.Statement.{Statement, statement_of}
use Rattle.route.specs.Statement.Statement.{label, do_open, if_open, goto_if, while_close, if_close, goto, return, leave, other}
use Rattle.route.specs.Trace.{Stop, Trace, chosen}
use Rattle.route.specs.Trace.Stop.{enough, returned, left, past, lost}
use Rattle.route.specs.Trace.Trace.{met, stop}

-- a line: its block's place, its address, what it states
pub record Stated : Type 0 where
  pub place : ℕ
  pub address : ℕ
  pub statement : Statement

abbrev pub Stack : Type 0
Stack = List (List Stated)

abbrev pub popped : Stack → Stack
popped [] = []
popped (b ∷ st) = st

-- the lines behind the latest brace
abbrev pub top : Stack → List Stated
top [] = []
top (b ∷ st) = b

-- behind the lone brace that closes an if, where e more are open
abbrev pub skipping : Statement → ℕ → List Stated → (ℕ → List Stated) → List Stated
skipping if_open e ls on = on (suc e)
skipping if_close zero ls on = ls
skipping if_close (suc e) ls on = on e
skipping (label n) e ls on = on e
skipping do_open e ls on = on e
skipping (goto_if n) e ls on = on e
skipping while_close e ls on = on e
skipping (goto n) e ls on = on e
skipping return e ls on = on e
skipping leave e ls on = on e
skipping other e ls on = on e

unfoldable pub skip : List Stated → ℕ → List Stated
skip [] e = []
skip (l ∷ ls) e = skipping l.statement e ls (skip ls)

-- on from the label of this name, with what is open there
abbrev pub seeking : Statement → List ℕ → (Stack → List Stated → Trace) → Stack → List Stated → (Stack → Trace) → Trace
seeking (label m) n go st ls on = pick (same_word m n) (go st ls) (on st)
seeking do_open n go st ls on = on (ls ∷ st)
seeking if_open n go st ls on = on (ls ∷ st)
seeking while_close n go st ls on = on (popped st)
seeking if_close n go st ls on = on (popped st)
seeking (goto_if m) n go st ls on = on st
seeking (goto m) n go st ls on = on st
seeking return n go st ls on = on st
seeking leave n go st ls on = on st
seeking other n go st ls on = on st

unfoldable pub seek : List ℕ → (Stack → List Stated → Trace) → List Stated → Stack → Trace
seek n go [] st = stop lost
seek n go (l ∷ ls) st = seeking l.statement n go st ls (seek n go ls)

module _ (whole : List Stated) where
  -- a line: labels, do-lines and lone braces are passed, any other is met. An opened if is entered when its branch is not taken, and taken it
  -- leads behind its brace; a while-line taken leads behind its do-line
  abbrev pub passing : Stated → (List Bool → Stack → List Stated → Trace) → List Bool → Stack → List Stated → (Stack → Trace) → Statement → Trace
  passing l next os st ls on (label n) = on st
  passing l next os st ls on do_open = on (ls ∷ st)
  passing l next os st ls on if_close = on (popped st)
  passing l next os st ls on other = met l.place l.address (next os st ls)
  passing l next os st ls on return = met l.place l.address (stop returned)
  passing l next os st ls on leave = met l.place l.address (stop left)
  passing l next os st ls on (goto n) = met l.place l.address (seek n (next os) whole [])
  passing l next os st ls on (goto_if n) = met l.place l.address (chosen os (λ r. seek n (next r) whole []) (λ r. next r st ls))
  passing l next os st ls on if_open = met l.place l.address (chosen os (λ r. next r st (skip ls 0)) (λ r. next r (ls ∷ st) ls))
  passing l next os st ls on while_close = met l.place l.address (chosen os (λ r. next r st (top st)) (λ r. next r (popped st) ls))

  -- up to the next instruction line, and from there by `next`
  unfoldable pub walk : (List Bool → Stack → List Stated → Trace) → List Bool → List Stated → Stack → Trace
  walk next os [] st = stop past
  walk next os (l ∷ ls) st = passing l next os st ls (walk next os ls) l.statement

  unfoldable pub follow : ℕ → List Bool → Stack → List Stated → Trace
  follow zero os st ls = stop enough
  follow (suc n) os st ls = walk (follow n) os ls st

-- "the first n instruction lines met from the listing's top"
abbrev pub route : ℕ → List Bool → List Stated → Trace
route n os ls = follow ls n os [] ls

-- lines of tokens beside their places and addresses
unfoldable pub stated : List (List Token) → List ℕ → List ℕ → List Stated
stated [] ps vas = []
stated (l ∷ ls) [] vas = []
stated (l ∷ ls) (p ∷ ps) [] = []
stated (l ∷ ls) (p ∷ ps) (a ∷ vas) = record { place = p; address = a; statement = statement_of l } ∷ stated ls ps vas

-- the first m lines that lists hold
abbrev pub stated_in : Lists → ℕ → List Stated
stated_in l m = stated (lines_in l.text l.ends l.kinds l.lines m) (take m l.places) (take m l.addresses)
