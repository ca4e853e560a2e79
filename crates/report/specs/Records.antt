-- Document 02, No. 7: the records of a trace, what each is answered, and what is counted of it.
use Rattle.std.specs.Prelude.{ℕ, zero, suc, ◌+◌, ◌-◌, ◌/◌, ◌%◌, Bool, true, false, cond, List, [], ◌∷◌, map, eqb, length, take, drop, Result, Ok, Err, Option, Some, None}
use Rattle.refusal.specs.declared.Refusal.{Refusal}
use Rattle.trace.specs.declared.Recorded.{Recorded}
use Rattle.getkey.specs.declared.Granted.{Granted}
use Rattle.gkid.specs.declared.FileTime.{FileTime}
use Rattle.getkey.specs.Deciding.{decision_by_verdict, answer_number}
use Rattle.trace.specs.Reading.{record_length, record_of}
use Rattle.tally.specs.declared.Counted.{Counted}
use Rattle.tally.specs.declared.Tally.{Tally}
use Rattle.tally.specs.Totals.{tally_of}

-- so many records from the start of bytes on; the last may be a part of one
unfoldable pub cut : ℕ → List ℕ → List (List ℕ)
cut zero s = []
cut (suc n) s = take record_length s ∷ cut n (drop record_length s)

-- the records of a chunk: its whole ones, and "a part of a record at the end" where the trace ends with it
unfoldable pub records_of : Bool → List ℕ → List (List ℕ)
records_of ends s = cut ((length s + cond ends 36 0) / record_length) s

-- the bytes that its records have: all of them where the trace ends with it, else those of its whole records
unfoldable pub recorded : Bool → List ℕ → List ℕ
recorded true s = s
recorded false s = take (length s - length s % record_length) s

-- 26, or what the decision by verdict answers, at the record's clock
unfoldable pub answered : List ℕ → Result Recorded Refusal → Result Granted Refusal
answered table (Err r) = Err r
answered table (Ok q) = decision_by_verdict q.verdict q.rights q.request q.clock table

unfoldable pub answer_to : List ℕ → List ℕ → Result Granted Refusal
answer_to table s = answered table (record_of s)

-- "26 left out on both sides": a record that is 26 has no clock that counts, every other has
unfoldable pub clock_of : Result Recorded Refusal → Option FileTime
clock_of (Err r) = None
clock_of (Ok q) = Some q.clock

unfoldable pub counted_of : List ℕ → List ℕ → Counted
counted_of table s = record { accepted = eqb (answer_number (answer_to table s)) 0; clock = clock_of (record_of s) }

-- the total of records
unfoldable pub total_of : List ℕ → List (List ℕ) → Tally
total_of table records = tally_of (map (counted_of table) records)
