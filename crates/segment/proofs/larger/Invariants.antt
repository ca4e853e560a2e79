use Rattle.lemmas.proofs.Basics.{◌≤◌, ◌≡◌}
use Rattle.segment.specs.Layout.{size_at, larger_than}
use Rattle.segment.proofs.larger.Given as goal

abbrev pub invariant-loop-k : goal.invariant-loop-k
invariant-loop-k l = (l.larger ≤ l.k) × (l.larger ≡ larger_than l.unit l.k (size_at l.s))
