-- `row_to`: a word of ones, its last bits shifted out.
use Rattle.lemmas.proofs.Basics.{arith}
use Rattle.reach.proofs.BitLaws.{row_to, row-whole}
use Rattle.reach.proofs.row_to.Goals as goal

pub returns-then-index-lt32 : goal.returns-then-index-lt32
returns-then-index-lt32 c = row_to c.args.index c.if-index-lt32.true

pub returns-else-index-lt32 : goal.returns-else-index-lt32
returns-else-index-lt32 c = row-whole c.args.index (omega arith)
