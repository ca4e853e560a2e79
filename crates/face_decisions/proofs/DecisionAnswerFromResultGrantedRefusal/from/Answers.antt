-- `DecisionAnswer::from`: the decision is told.
use Rattle.lemmas.proofs.Basics.{cond, ◌≡◌}
use Rattle.std.specs.Option.{is_some}
use Rattle.getkey.specs.Deciding.{answer_number, answer_at, answer_form, answer_row}
use Rattle.face.specs.Codes.{form_code}
use Rattle.face_decisions.specs.Decisions.{grant_code, decision_answer}
use Rattle.face_decisions.proofs.DecisionAnswerFromResultGrantedRefusal.from.Goals as goal
use Rattle.face_decisions.proofs.DecisionAnswerFromResultGrantedRefusal.from.Goals.{then-is_some, else-is_some}

pub returns-after-is_some : goal.returns-after-is_some
unfolding decision_answer grant_code answer_number answer_at answer_form answer_row
returns-after-is_some c =
    let granted : c.if-is_some.result ≡ cond (is_some c.in-Ok.field-0.row) 1 2 =
    elim c.if-is_some.branch [
      | then-is_some w ↦ rw (w.result-is, ← w.if-is_some.ensures)
      | else-is_some w ↦ rw (w.result-is, ← w.if-is_some.ensures)
    ]
    in
    rw (c.in-Ok.is, granted, c.form_code.ensures, c.into.ensures, c.unwrap_or.ensures)

pub returns-in-Err : goal.returns-in-Err
unfolding decision_answer grant_code answer_number answer_at answer_form answer_row form_code
returns-in-Err c = rw (c.in-Err.is, c.number.ensures)
