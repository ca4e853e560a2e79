-- `TraceAnswer::from`: the number is the refusal's.
use Rattle.trace.specs.Reading.{record_number}
use Rattle.face_decisions.specs.Decisions.{rights_code, given_code, root_bytes_shown}
use Rattle.face_traces.specs.Records.{record_values, trace_answer}
use Rattle.face_traces.proofs.TraceAnswerFromRefusal.from.Goals as goal

pub returns : goal.returns
unfolding trace_answer record_number record_values rights_code given_code root_bytes_shown
returns c = rw c.number.ensures
