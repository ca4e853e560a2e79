use Rattle.lemmas.proofs.Basics.{not, ◌≡◌}
use Rattle.lemmas.specs.Counting.{every}
use Rattle.text.proofs.Texts.{nonzero, paired_to}
use Rattle.text.proofs.judge.Given as goal

abbrev pub invariant-loop-k : goal.invariant-loop-k
invariant-loop-k l = (l.zero ≡ not (every l.k (nonzero l.s))) × (l.unpaired ≡ not (paired_to l.s l.k))
