-- `entry`: the head, then the item's length.
use Rattle.lemmas.proofs.Basics.{ap, ◌∙◌}
use Rattle.cases.specs.Building.{put_at, entry_put}
use Rattle.cases.proofs.entry.Goals as goal

pub returns : goal.returns
unfolding entry_put
returns c = c.numbers-2.ensures ∙ ap (put_at _ _) c.numbers.ensures
