-- Document 02, No. 7, as C has its answers: where a replay stands, as C hands it in and is shown it, one record replayed, and a chunk.
use Rattle.std.specs.Prelude.{ℕ, Option, Some, None}
use Rattle.report.specs.declared.Stepped.{Stepped}
use Rattle.report.specs.declared.State.{State}
use Rattle.report.specs.declared.Stopped.{Stopped}
use Rattle.report.specs.declared.Stopped.TheVariants.{Records, Room, Full}
use Rattle.report.specs.declared.Progress.{Progress}
use Rattle.face.specs.Shapes.{no_identifier}
use Rattle.face_decisions.specs.declared.DecisionAnswer.{DecisionAnswer}
use Rattle.face_decisions.specs.Decisions.{decision_answer}
use Rattle.face_traces.specs.declared.ReplayState.{ReplayState}
use Rattle.face_traces.specs.declared.ReplayLine.{ReplayLine}
use Rattle.face_traces.specs.declared.ReplayAnswer.{ReplayAnswer}
use Rattle.face_traces.specs.Totals.{tally_from, tally_shown}

abbrev pub state_from : ReplayState → State
state_from st = record { next = st.next; tally = tally_from st.tally }

abbrev pub state_shown : State → ReplayState
state_shown st = record { next = st.next; tally = tally_shown st.tally }

-- zeros, where no record was answered
abbrev pub no_decision : DecisionAnswer
no_decision = record { refusal = 0; granted = 0; form = 0; at = no_identifier; row = 0 }

-- the answer, its number and the next state; where a count does not fit, number 0 and the state asked with
unfoldable pub line_answer : State → Option Stepped → ReplayLine
line_answer st (Some stepped) = record { answer = decision_answer stepped.answer; number = stepped.number; state = state_shown stepped.state }
line_answer st None = record { answer = no_decision; number = 0; state = state_shown st }

unfoldable pub stopped_code : Stopped → ℕ
stopped_code Records = 1
stopped_code Room = 2
stopped_code Full = 3

unfoldable pub replay_answer : Progress → ReplayAnswer
replay_answer p = record { stopped = stopped_code p.stopped; reserved = 0; used = p.used; written = p.written; state = state_shown p.state }
