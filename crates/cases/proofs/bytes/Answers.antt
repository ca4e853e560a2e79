-- `bytes`: the rest of the buffer is lent.
use Rattle.lemmas.proofs.Basics.{arith}
use Rattle.cases.proofs.Building.{put_rest, put_past}
use Rattle.cases.proofs.bytes.Goals as goal

pub returns-then-at-dst : goal.returns-then-at-dst
returns-then-at-dst c = put_rest _ c.args.dst.now c.args.at (omega arith) c.copy_into.ensures

pub returns-else-at-dst : goal.returns-else-at-dst
returns-else-at-dst c = put_past _ _ _ (omega arith)
