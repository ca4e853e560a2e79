-- Document 02, No. 1: what the reader answers.
use Rattle.std.specs.Prelude.{ℕ, ◌*◌, ◌^◌, cond, List, [], ◌∷◌, ltb, length, Result, Ok, Err, Option, None, Some}
use Rattle.refusal.specs.declared.Refusal.{Refusal}
use Rattle.refusal.specs.declared.Refusal.TheVariants.{TooLong, Short, LengthsDisagree, WrongMark, WrongShifts}
use Rattle.refusal.specs.Chain.{Check, ◌⇒◌, first_of, unless_refused}
use Rattle.refusal.specs.Number.{number_of}
use Rattle.wire.specs.declared.Span.{Span}
use Rattle.wire.specs.Parts.{part_of}
use Rattle.segment.specs.declared.Head.{Head}
use Rattle.segment.specs.declared.Segment.{Segment}
use Rattle.segment.specs.Layout.{length_field, zero_bytes, unit_shift, chunk_shift, cluster_shift, one_byte, block_count, size_at, head_of, lengths_disagree, marks_wrong, shifts_wrong, larger_than}

unfoldable pub segment_checks : List ℕ → List Check
segment_checks s =
    -- 1; 2 under 28 bytes
    (ltb 65535 (length s) ⇒ TooLong)
    ∷ (ltb (length s) 28 ⇒ Short)
    -- 3 unless Length is the record's length and at least 28 plus four per block
    ∷ (lengths_disagree (length s) (length_field s) (block_count s) ⇒ LengthsDisagree)
    -- 4 for the fixed bytes
    ∷ (marks_wrong (zero_bytes s) (one_byte s) ⇒ WrongMark)
    -- 25 if chunk and unit shift differ or any shift is over 31
    ∷ (shifts_wrong (unit_shift s) (chunk_shift s) (cluster_shift s) ⇒ WrongShifts)
    ∷ []

-- the head's numbers, the place of the sizes, and how many blocks are larger than the data unit, 2 to the unit shift; bytes after
-- the sizes are ignored
unfoldable pub shown : List ℕ → Segment
shown s =
    record {
      head = head_of s;
      length = length_field s;
      blocks = block_count s;
      sizes = record { at = 28; len = 4 * block_count s };
      larger = larger_than (2 ^ unit_shift s) (block_count s) (size_at s);
    }

-- what the reader answers
unfoldable pub segment_of : List ℕ → Result Segment Refusal
segment_of s = unless_refused Err (first_of (segment_checks s)) (Ok (shown s))

-- document 01's numbers: 0 and the values, or the refusal's number and zeros
unfoldable pub segment_number : Result Segment Refusal → ℕ
segment_number (Ok t) = 0
segment_number (Err r) = number_of r

-- the head beside a refusal
abbrev pub no_head : Head
no_head = record { start_offset = 0; bytes_in_stream = 0; bytes_in_vdl = 0; shifts = record { unit = 0; chunk = 0; cluster = 0 } }

unfoldable pub segment_values : Result Segment Refusal → Segment
segment_values (Ok t) = t
segment_values (Err r) = record { head = no_head; length = 0; blocks = 0; sizes = record { at = 0; len = 0 }; larger = 0 }

-- where the sizes stand; 0 and 0 on a refusal
abbrev pub span_of : Result Segment Refusal → Span
span_of r = (segment_values r).sizes

abbrev pub segment_span : List ℕ → Span
segment_span s = span_of (segment_of s)

-- the very bytes of the sizes, or the empty part on a refusal
abbrev pub segment_part : List ℕ → List ℕ
segment_part s = part_of s (segment_span s).at (segment_span s).len

-- the size of the block at an index, none beyond the count; what the reader refuses is refused
unfoldable pub size_of : List ℕ → ℕ → Result (Option ℕ) Refusal
size_of s k = unless_refused Err (first_of (segment_checks s)) (cond (ltb k (block_count s)) (Ok (Some (size_at s k))) (Ok None))

-- its numbers: 0 and whether there is one, and its size; or the refusal's number and zeros
unfoldable pub size_number : Result (Option ℕ) Refusal → ℕ
size_number (Ok (Some n)) = 0
size_number (Ok None) = 0
size_number (Err r) = number_of r

unfoldable pub size_found : Result (Option ℕ) Refusal → ℕ
size_found (Ok (Some n)) = 1
size_found (Ok None) = 0
size_found (Err r) = 0

unfoldable pub size_value : Result (Option ℕ) Refusal → ℕ
size_value (Ok (Some n)) = n
size_value (Ok None) = 0
size_value (Err r) = 0
