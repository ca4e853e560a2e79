-- Document 02, No. 7: the replay of a trace, whole, and as a state that goes on from record to record and from chunk to chunk.
use Rattle.std.specs.Prelude.{ℕ, ◌+◌, ◌-◌, ◌*◌, ◌^◌, min, Bool, true, cond, ◌&&◌, List, [], ◌∷◌, ◌++◌, ltb, length, Result, Option, Some, None}
use Rattle.report.specs.declared.Stepped.{Stepped}
use Rattle.refusal.specs.declared.Refusal.{Refusal}
use Rattle.getkey.specs.declared.Granted.{Granted}
use Rattle.trace.specs.Reading.{record_length}
use Rattle.tally.specs.Totals.{tally_of}
use Rattle.tally.specs.Merging.{merge, fits}
use Rattle.report.specs.declared.State.{State}
use Rattle.report.specs.declared.Stopped.{Stopped}
use Rattle.report.specs.declared.Stopped.TheVariants.{Records, Room, Full}
use Rattle.report.specs.declared.Progress.{Progress}
use Rattle.report.specs.Records.{records_of, answer_to, total_of}
use Rattle.report.specs.Lines.{line_of, lines_from, total_line}

-- before the first record: lines are "numbered from 1", and nothing is counted
unfoldable pub start : State
start = record { next = 1; tally = tally_of [] }

-- behind records
unfoldable pub after : List ℕ → State → List (List ℕ) → State
after table st records = record { next = st.next + length records; tally = merge st.tally (total_of table records) }

-- what is printed of a trace from a state on: the lines of its records in order, and the total
unfoldable pub report_from : List ℕ → State → List ℕ → List ℕ
report_from table st s = lines_from table st.next (records_of true s) ++ total_line (after table st (records_of true s)).tally

-- what is printed of a trace
unfoldable pub report_of : List ℕ → List ℕ → List ℕ
report_of table s = report_from table start s

-- the next number and the counts behind a record are numbers of 64 bits
unfoldable pub counts : List ℕ → State → List ℕ → Bool
counts table st s = ltb (st.next + 1) (2 ^ 64) && fits (after table st (s ∷ [])).tally

abbrev pub stepped : ℕ → Result Granted Refusal → State → Stepped
stepped number answer st = record { number = number; answer = answer; state = st }

-- one record in, its number, its answer and the next state out; none where a count does not fit
unfoldable pub step_of : List ℕ → State → List ℕ → Option Stepped
step_of table st s = cond (counts table st s) (Some (stepped st.next (answer_to table s) (after table st (s ∷ [])))) None

-- the room that a line is sure to fit in
abbrev pub line_room : ℕ
line_room = 128

-- records replayed into so much room: how many, their text, the state behind them, and why no more
pub record Replayed : Type 0 where
  pub stopped : Stopped
  pub records : ℕ
  pub text : List ℕ
  pub state : State

abbrev pub halt : Stopped → State → Replayed
halt stopped st = record { stopped = stopped; records = 0; text = []; state = st }

-- a number of records with their text, then the others
abbrev pub behind : ℕ → List ℕ → Replayed → Replayed
behind n text r = record { stopped = r.stopped; records = n + r.records; text = text ++ r.text; state = r.state }

-- no record is left; or a line might not fit; or a count does not; or this record's line, then the others in the room that is left
unfoldable pub replay_of : List ℕ → State → List (List ℕ) → ℕ → Replayed
replay_of table st [] room = halt Records st
replay_of table st (s ∷ records) room =
    cond (ltb room line_room) (halt Room st)
    (cond (counts table st s)
    (behind 1 (line_of st.next (answer_to table s)) (replay_of table (after table st (s ∷ [])) records (room - length (line_of st.next (answer_to table s)))))
    (halt Full st))

-- how much of the chunk and of the output was used
unfoldable pub progress_of : ℕ → Replayed → Progress
progress_of len r = record { stopped = r.stopped; used = min (record_length * r.records) len; written = length r.text; state = r.state }
