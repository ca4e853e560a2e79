-- Document 02, No. 1: what the writer makes and answers.
use Rattle.std.specs.Prelude.{ℕ, List, [], ◌∷◌, ltb, length, Result}
use Rattle.refusal.specs.declared.Refusal.{Refusal}
use Rattle.refusal.specs.declared.Refusal.TheVariants.{TooLong, WrongShifts}
use Rattle.refusal.specs.Chain.{Check, ◌⇒◌, first_of}
use Rattle.wire.specs.Numbers.{le_bytes}
use Rattle.wire.specs.Parts.{joined, le32_bytes}
use Rattle.records.specs.Writing.{written_of}
use Rattle.segment.specs.declared.Head.{Head}
use Rattle.segment.specs.Layout.{length_for, shifts_wrong}

-- the record's length
abbrev pub segment_length : List ℕ → ℕ
segment_length sizes = length_for (length sizes)

-- the head and the sizes, and no bytes after them
abbrev pub pieces : Head → List ℕ → List (List ℕ)
pieces h sizes =
    le_bytes 8 h.start_offset
    ∷ le_bytes 4 (segment_length sizes)
    ∷ le_bytes 4 h.bytes_in_stream
    ∷ le_bytes 4 h.bytes_in_vdl
    ∷ (0 ∷ 0 ∷ [])
    ∷ le_bytes 1 h.shifts.unit
    ∷ le_bytes 1 h.shifts.chunk
    ∷ le_bytes 1 h.shifts.cluster
    ∷ (1 ∷ [])
    ∷ le_bytes 2 (length sizes)
    ∷ le32_bytes sizes
    ∷ []

unfoldable pub segment_bytes : Head → List ℕ → List ℕ
segment_bytes h sizes = joined (pieces h sizes)

-- 1, then 25
unfoldable pub write_checks : Head → List ℕ → List Check
write_checks h sizes =
    (ltb 65535 (segment_length sizes) ⇒ TooLong)
    ∷ (shifts_wrong h.shifts.unit h.shifts.chunk h.shifts.cluster ⇒ WrongShifts)
    ∷ []

-- what those checks say, then 13 where the output has not that many bytes
abbrev pub segment_written : Head → List ℕ → ℕ → Result ℕ Refusal
segment_written h sizes room = written_of (first_of (write_checks h sizes)) (segment_length sizes) room
