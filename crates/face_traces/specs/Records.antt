-- Document 02, No. 7, as C has its answers: a recorded request.
use Rattle.std.specs.Prelude.{false, pos, Result, Ok, Err, None}
use Rattle.refusal.specs.declared.Refusal.{Refusal}
use Rattle.getkey.specs.declared.Rights.TheVariants as rights
use Rattle.trace.specs.declared.Recorded.{Recorded}
use Rattle.trace.specs.Reading.{record_number}
use Rattle.face.specs.Codes.{bool_code}
use Rattle.face_decisions.specs.Decisions.{rights_code, request_shown}
use Rattle.face_traces.specs.declared.TraceAnswer.{TraceAnswer}

-- no rights, no verdict, no root key, and zeros on a refusal
unfoldable pub record_values : Result Recorded Refusal → Recorded
record_values (Ok q) = q
record_values (Err r) =
    record {
      clock = record { 0 = 0 };
      rights = rights.None;
      verdict = false;
      request = record { root = None; l0 = pos 0; l1 = pos 0; l2 = pos 0 };
    }

unfoldable pub trace_answer : Result Recorded Refusal → TraceAnswer
trace_answer r =
    record {
      refusal = record_number r;
      verdict = bool_code (record_values r).verdict;
      rights = rights_code (record_values r).rights;
      reserved = 0;
      clock = (record_values r).clock.0;
      request = request_shown (record_values r).request;
    }
