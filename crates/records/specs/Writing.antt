-- Document 01, writers: they answer what the reader would answer on the bytes, then 13; on success they fill the first bytes
-- and keep the rest; on a refusal a lent buffer keeps its bytes.
use Rattle.std.specs.Prelude.{ℕ, List, ltb, Result, Ok, Err}
use Rattle.refusal.specs.declared.Refusal.{Refusal}
use Rattle.refusal.specs.Outcome.{Outcome}
use Rattle.refusal.specs.declared.Refusal.TheVariants.{NoRoom}
use Rattle.refusal.specs.Chain.{unless_refused, refuse_if}
use Rattle.refusal.specs.Number.{number_of}
use Rattle.wire.specs.Parts.{onto}

-- what the reader says of a record of len bytes, then 13 where the output has fewer than len
unfoldable pub written_of : Outcome → ℕ → ℕ → Result ℕ Refusal
written_of checks len room = unless_refused Err (refuse_if checks (ltb room len) NoRoom) (Ok len)

-- the output afterwards: the record and what stood behind it, or as it was
unfoldable pub output_of : Result ℕ Refusal → List ℕ → List ℕ → List ℕ
output_of (Ok len) bytes out = onto bytes out
output_of (Err r) bytes out = out

-- document 01's numbers: 0 and the record's length, or the refusal's number and 0
unfoldable pub written_number : Result ℕ Refusal → ℕ
written_number (Ok len) = 0
written_number (Err r) = number_of r

unfoldable pub written_length : Result ℕ Refusal → ℕ
written_length (Ok len) = len
written_length (Err r) = 0
