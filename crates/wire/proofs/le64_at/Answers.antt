-- `le64_at`: the number's bytes by their places.
use Rattle.lemmas.proofs.Basics.{arith, rules}
use Rattle.wire.specs.Numbers.{le_of}
use Rattle.wire.proofs.Numbers.{le_read}
use Rattle.wire.proofs.le64_at.Goals as goal

pub returns : goal.returns
unfolding le_of
returns c = omega (arith, le_read 8 _ _ _ c.array_at.ensures.little (search rules))
