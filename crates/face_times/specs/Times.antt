-- Document 01, "Time and identifiers", as C has its answers.
use Rattle.gkid.specs.declared.Gkid.{Gkid}
use Rattle.std.specs.Prelude.{Result, Option}
use Rattle.refusal.specs.declared.Refusal.{Refusal}
use Rattle.gkid.specs.declared.FileTime.{FileTime}
use Rattle.gkid.specs.Start.{start_number, start_shown}
use Rattle.gkid.specs.Older.{older_number, older_found, older_shown}
use Rattle.face.specs.Codes.{bool_code}
use Rattle.face.specs.Shapes.{identifier_shown}
use Rattle.face_times.specs.declared.IdentifierAnswer.{IdentifierAnswer}
use Rattle.face_times.specs.declared.StartAnswer.{StartAnswer}

-- a reading always has its identifier
abbrev pub present_answer : Gkid → IdentifierAnswer
present_answer i = record { refusal = 0; found = 1; at = identifier_shown i }

unfoldable pub start_answer : Result FileTime Refusal → StartAnswer
start_answer s = record { refusal = start_number s; reserved = 0; time = start_shown s }

unfoldable pub older_answer : Result (Option Gkid) Refusal → IdentifierAnswer
older_answer o = record { refusal = older_number o; found = bool_code (older_found o); at = identifier_shown (older_shown o) }
