-- How many bytes a program has to answer, and which they are.
use Rattle.std.specs.declared.option.Option.{Option}
use Rattle.std.specs.declared.result.Result.{Result}
use Rattle.std.specs.Io.KnownBytes.{Consumes, IsAtEnd}
use Rattle.std.specs.Prelude.{ℕ, ◌<◌, List, length, take, IfOk}
use Rattle.std.specs.Result.{result_unwrap_or}

-- as many as were read, or another number where reading failed
abbrev pub bytes_read : {E : Type 0} → Result ℕ E → ℕ → ℕ
bytes_read r failed = result_unwrap_or r failed

-- where it is known what the reader had left: these bytes came first, and fewer than the list holds only at the end
abbrev pub HasRead : {E : Type 0} → Result ℕ E → Option (List ℕ) → Option (List ℕ) → List ℕ → Type 0
HasRead r old new list = IfOk r (λ n. Consumes old new (take n list) × (n < length list → IsAtEnd new))
