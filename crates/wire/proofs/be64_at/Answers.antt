-- `be64_at`: the number's bytes by their places.
use Rattle.lemmas.proofs.Basics.{arith, rules}
use Rattle.wire.specs.Numbers.{le_of, be_of}
use Rattle.wire.proofs.Numbers.{be_read}
use Rattle.wire.proofs.be64_at.Goals as goal

pub returns : goal.returns
unfolding be_of le_of
returns c = omega (arith, be_read 8 c.args.s.now c.array_at.result c.args.at c.array_at.ensures.big (search rules))
