-- Document 01, "The GetKey decision", as C has its answer, and the request and the rights as C hands them in, and as C is shown
-- them.
use Rattle.std.specs.Prelude.{ℕ, cond, eqb, replicate, Result, Ok, Err, Option, Some, None}
use Rattle.std.specs.Option.{is_some}
use Rattle.rootid.specs.declared.RootId.{RootId}
use Rattle.refusal.specs.declared.Refusal.{Refusal}
use Rattle.request.specs.declared.Request.{Request}
use Rattle.getkey.specs.declared.Granted.{Granted}
use Rattle.getkey.specs.declared.Rights.{Rights}
use Rattle.getkey.specs.declared.Rights.TheVariants as rights
use Rattle.getkey.specs.Deciding.{answer_number, answer_at, answer_form, answer_row}
use Rattle.face.specs.declared.RootBytes.{RootBytes}
use Rattle.face.specs.Codes.{form_code}
use Rattle.face.specs.Shapes.{identifier_shown, root_id_from, root_shown}
use Rattle.face_decisions.specs.declared.RequestIndices.{RequestIndices}
use Rattle.face_decisions.specs.declared.DecisionAnswer.{DecisionAnswer}

-- not listed: no rights
abbrev pub rights_from : ℕ → Rights
rights_from code = cond (eqb code 1) rights.Public (cond (eqb code 2) rights.Seed rights.None)

-- the same codes
unfoldable pub rights_code : Rights → ℕ
rights_code rights.None = 0
rights_code rights.Public = 1
rights_code rights.Seed = 2

-- 0 names no root key; every other value names one, as C has it
abbrev pub root_from : ℕ → RootBytes → Option RootId
root_from given id = cond (eqb given 0) None (Some (root_id_from id))

abbrev pub request_from : RequestIndices → Request
request_from q = record { root = root_from q.root_given q.root; l0 = q.l0; l1 = q.l1; l2 = q.l2 }

-- 1 where a root key is named
unfoldable pub given_code : Option RootId → ℕ
given_code None = 0
given_code (Some id) = 1

-- zeros where none is
unfoldable pub root_bytes_shown : Option RootId → RootBytes
root_bytes_shown None = record { bytes = replicate 16 0 }
root_bytes_shown (Some id) = root_shown id

abbrev pub request_shown : Request → RequestIndices
request_shown q = record { root_given = given_code q.root; l0 = q.l0; l1 = q.l1; l2 = q.l2; root = root_bytes_shown q.root }

-- 1 with a root row, 2 for a root key to create, 0 on a refusal
unfoldable pub grant_code : Result Granted Refusal → ℕ
grant_code (Ok granted) = cond (is_some granted.row) 1 2
grant_code (Err r) = 0

unfoldable pub decision_answer : Result Granted Refusal → DecisionAnswer
decision_answer a =
    record {
      refusal = answer_number a;
      granted = grant_code a;
      form = form_code (answer_form a);
      at = identifier_shown (answer_at a);
      row = answer_row a;
    }
