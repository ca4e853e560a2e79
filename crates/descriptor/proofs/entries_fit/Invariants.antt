use Rattle.lemmas.proofs.Basics.{◌≡◌}
use Rattle.descriptor.specs.Checking.{entries_fit}
use Rattle.descriptor.proofs.entries_fit.Given as goal

abbrev pub invariant-loop-left : goal.invariant-loop-left
invariant-loop-left l = entries_fit l.left l.entries ≡ entries_fit l.count l.t

abbrev pub decreases-loop-left : goal.decreases-loop-left
decreases-loop-left l = l.left
