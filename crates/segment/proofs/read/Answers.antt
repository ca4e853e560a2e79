-- `read`: what is shown is of an accepted header.
use Rattle.lemmas.proofs.Basics.{sym}
use Rattle.segment.proofs.Reading.{accepted_fits}
use Rattle.segment.proofs.read.Goals as goal

pub shown-requires : goal.shown-requires
shown-requires c = accepted_fits _ (sym c.in_ok-judge.ensures)
