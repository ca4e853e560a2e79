-- `put_head`: the numbers before the root identifier, that identifier, and the numbers behind it.
use Rattle.lemmas.proofs.Basics.{arith, [], ◌++◌, refl, sym, ap, ◌∙◌, length-append}
use Rattle.wire.specs.Parts.{onto, le32_bytes}
use Rattle.wire.proofs.Writing.{lent, onto-none, length-le32_bytes}
use Rattle.rootid.specs.Root.{root_bytes}
use Rattle.rootid.proofs.Roots.{length-root_bytes}
use Rattle.envelope.proofs.Writing.{front, back, head_runs}
use Rattle.envelope.proofs.put_head.Goals as goal

pub returns : goal.returns
returns c =
    let before = le32_bytes (front c.args.head) in
    let root = root_bytes c.args.head.root in
    let size = length-le32_bytes (front c.args.head) in
    let r1 = lent [] before c.args.dst.now 0 24 (sym (onto-none c.args.dst.now)) refl (omega (arith, size)) (omega arith) c.put_le32s.ensures in
    let r2 = lent before root c.args.dst.now 24 40 r1 size (omega (arith, length-root_bytes c.args.head.root)) (omega arith) c.put.ensures in
    let r3 = lent (before ++ root) (le32_bytes (back c.args.head c.args.n.each)) c.args.dst.now 40 80 r2 (omega (arith, size, length-append before root, length-root_bytes c.args.head.root))
    (omega (arith, length-le32_bytes (back c.args.head c.args.n.each))) (omega arith) c.put_le32s-2.ensures
    in
    r3 ∙ ap (λ bs. onto bs c.args.dst.now) (head_runs c.args.head c.args.n.each)
