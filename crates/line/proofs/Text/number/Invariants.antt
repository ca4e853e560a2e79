use Rattle.line.proofs.Decimals.{Spelt}
use Rattle.line.proofs.Text.number.Given as goal

abbrev pub invariant-loop-rest : goal.invariant-loop-rest
invariant-loop-rest g l = Spelt l.n l.digits l.rest l.i

abbrev pub decreases-loop-rest : goal.decreases-loop-rest
decreases-loop-rest g l = l.i
