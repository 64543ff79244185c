-- What a route meets, and why no more: of the listing's and of the processor's.
use Rattle.std.specs.Prelude.{ℕ, Bool, true, false, List, [], ◌∷◌}

pub data Stop : Type 0 where
  -- as many were met as asked for
  enough : Stop
  -- "Endings are a return, an indirect jump and a jump to no block of the record."; the last two can be one line, so they are one ending
  returned : Stop
  left : Stop
  -- "where outcomes run out"
  dry : Stop
  -- past the last line or block; a goto to no label: neither is met under the assumptions
  past : Stop
  lost : Stop
  -- the processor's steps are used up
  spent : Stop

-- an instruction is met as its block's place and its address
pub data Trace : Type 0 where
  met : ℕ → ℕ → Trace → Trace
  stop : Stop → Trace

-- "for any outcomes, branch taken or not": the next one decides
abbrev pub chosen : List Bool → (taken falls : List Bool → Trace) → Trace
chosen [] taken falls = stop dry
chosen (true ∷ os) taken falls = taken os
chosen (false ∷ os) taken falls = falls os

-- "Fewer come only at the same ending or where outcomes run out."
abbrev pub is_end : Stop → Bool
is_end enough = true
is_end returned = true
is_end left = true
is_end dry = true
is_end past = false
is_end lost = false
is_end spent = false

abbrev pub ends : Trace → Bool
ends (met k a t) = ends t
ends (stop w) = is_end w
