-- `put`: the head, then the item, then the FEK, each into the part that it is lent.
use Rattle.lemmas.proofs.Basics.{◌+◌, arith, [], ◌++◌, refl, sym, ap, ◌∙◌, length, length-append}
use Rattle.wire.specs.Parts.{onto, le32_bytes}
use Rattle.wire.proofs.Writing.{lent, onto-none, length-le32_bytes}
use Rattle.keyentry.proofs.Writing.{head, bytes_are}
use Rattle.keyentry.proofs.put.Goals as goal

pub returns : goal.returns
returns c =
    let numbers = head c.args.flags c.args.item.now c.args.fek.now in
    let front = le32_bytes numbers in
    let at = 20 + length c.args.item.now in
    let size = length-le32_bytes numbers in
    let r1 = lent [] front c.args.out.now 0 20 (sym (onto-none c.args.out.now)) refl (omega (arith, size)) (omega arith) c.put_le32s.ensures in
    let r2 = lent front c.args.item.now c.args.out.now 20 at r1 size refl (omega arith) c.copy_into.ensures in
    let r3 = lent (front ++ c.args.item.now) c.args.fek.now c.args.out.now at (at + length c.args.fek.now) r2 (length-append front c.args.item.now ∙ ap (λ n. n + length c.args.item.now) size) refl (omega arith) c.copy_into-2.ensures in
    r3 ∙ ap (λ bs. onto bs c.args.out.now) (sym (bytes_are c.args.flags c.args.item.now c.args.fek.now))
