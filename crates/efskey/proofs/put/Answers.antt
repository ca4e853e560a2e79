-- `put`: the head, then the SID, then the certificate, each into the part that it is lent.
use Rattle.lemmas.proofs.Basics.{◌+◌, arith, [], ◌++◌, refl, sym, ap, ◌∙◌, length, length-append}
use Rattle.wire.specs.Parts.{onto, le32_bytes}
use Rattle.wire.proofs.Writing.{lent, onto-none, length-le32_bytes}
use Rattle.efskey.proofs.Writing.{head, bytes_are}
use Rattle.efskey.proofs.put.Goals as goal

pub returns : goal.returns
returns c =
    let numbers = head c.args.sid.now c.args.certificate.now c.offset_for.result in
    let front = le32_bytes numbers in
    let at = 32 + length c.args.sid.now in
    let size = length-le32_bytes numbers in
    let r1 = lent [] front c.args.out.now 0 32 (sym (onto-none c.args.out.now)) refl (omega (arith, size)) (omega arith) c.put_le32s.ensures in
    let r2 = lent front c.args.sid.now c.args.out.now 32 at r1 size refl (omega arith) c.copy_into.ensures in
    let r3 = lent (front ++ c.args.sid.now) c.args.certificate.now c.args.out.now at (at + length c.args.certificate.now) r2 (length-append front c.args.sid.now ∙ ap (λ n. n + length c.args.sid.now) size) refl (omega arith) c.copy_into-2.ensures in
    r3 ∙ ap (λ bs. onto bs c.args.out.now) (sym (bytes_are c.args.sid.now c.args.certificate.now _ c.offset_for.ensures))
