-- `seam_of`: the clocks that meet are compared.
use Rattle.lemmas.proofs.Basics.{arith, rules}
use Rattle.std.proofs.lemmas.Bool.Decides.{nat_tests}
use Rattle.lemmas.specs.Counting.{bit}
use Rattle.tally.specs.Merging.{seam}
use Rattle.tally.proofs.seam_of.Goals as goal

pub returns-in-Some-Some : goal.returns-in-Some-Some
unfolding seam bit
returns-in-Some-Some c = rw (c.in-Some-Some.is-0, c.in-Some-Some.is-1) (grind (arith, nat_tests))

pub returns-in_default : goal.returns-in_default
unfolding seam
returns-in_default c = search rules

pub returns-in_default-2 : goal.returns-in_default-2
unfolding seam
returns-in_default-2 c = search rules
