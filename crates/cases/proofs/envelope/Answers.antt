-- `envelope`: each run in its place.
use Rattle.lemmas.proofs.Basics.{ap, ◌∙◌}
use Rattle.cases.specs.Building.{put_at, envelope_put}
use Rattle.cases.proofs.envelope.Goals as goal

pub returns : goal.returns
unfolding envelope_put
returns c = c.numbers-2.ensures ∙ ap (put_at _ _) (c.bytes.ensures ∙ ap (put_at _ _) c.numbers.ensures)
