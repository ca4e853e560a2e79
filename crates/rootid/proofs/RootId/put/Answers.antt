-- `RootId::put`: the two halves, each into its own eight bytes.
use Rattle.lemmas.proofs.Basics.{arith, [], refl, sym}
use Rattle.wire.specs.Numbers.{le_bytes}
use Rattle.wire.proofs.Numbers.{length-le_bytes}
use Rattle.wire.proofs.Writing.{lent, onto-none, onto_out}
use Rattle.rootid.specs.Root.{root_bytes}
use Rattle.rootid.proofs.Roots.{length-root_bytes}
use Rattle.rootid.proofs.RootId.put.Goals as goal

pub returns-then-dst-ge16 : goal.returns-then-dst-ge16
unfolding root_bytes
returns-then-dst-ge16 c =
    let low = le_bytes 8 c.args.self.low in
    let high = le_bytes 8 c.args.self.high in
    let size = length-le_bytes 8 c.args.self.low in
    let r1 = lent [] low c.args.dst.now 0 8 (sym (onto-none c.args.dst.now)) refl (omega (arith, size)) (omega arith) c.put_le64.ensures in
    lent low high c.args.dst.now 8 16 r1 size (omega (arith, length-le_bytes 8 c.args.self.high)) (omega arith) c.put_le64-then-dst-ge16.ensures

pub returns-else-dst-ge16 : goal.returns-else-dst-ge16
returns-else-dst-ge16 c = sym (onto_out (root_bytes c.args.self) c.args.dst.now (omega (arith, length-root_bytes c.args.self)))
