-- `read`: what the checks came to is told.
use Rattle.lemmas.proofs.Basics.{refl, sym, ◌∙◌}
use Rattle.lemmas.proofs.Results.{passed_on}
use Rattle.refusal.specs.Chain.{unless_refused}
use Rattle.trace.proofs.Reading.{record_judged, accepted-whole}
use Rattle.trace.proofs.read.Goals as goal

pub shown-requires : goal.shown-requires
shown-requires c = accepted-whole _ (sym c.judge.ensures ∙ c.in_ok-judge.was)

pub returns-in_err-judge : goal.returns-in_err-judge
unfolding unless_refused
returns-in_err-judge c = passed_on c.from_residual.ensures.1 ∙ sym (record_judged _ (sym c.in_err-judge.was ∙ c.judge.ensures) refl)

pub returns : goal.returns
unfolding unless_refused
returns c = sym (record_judged _ (sym c.in_ok-judge.was ∙ c.judge.ensures) c.shown.ensures)
