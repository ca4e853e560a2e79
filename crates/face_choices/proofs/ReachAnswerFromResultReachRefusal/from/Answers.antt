-- `ReachAnswer::from`: the reach is told, and a refusal shows zeros.
use Rattle.reach.specs.Maps.{empty_map}
use Rattle.reach.specs.Reaches.{reach_number, reach_rows, reach_total}
use Rattle.reach.proofs.FormLaws.{refused_total}
use Rattle.face_choices.specs.Choices.{reach_answer}
use Rattle.face_choices.proofs.ReachAnswerFromResultReachRefusal.from.Goals as goal

pub returns-in-Ok : goal.returns-in-Ok
unfolding reach_answer reach_number reach_rows reach_total
returns-in-Ok c = rw (c.in-Ok.is, c.total.ensures, c.rows.ensures)

pub returns-in-Err : goal.returns-in-Err
unfolding reach_answer reach_number reach_rows empty_map
returns-in-Err c = rw (c.in-Err.is, c.number.ensures, refused_total)
