-- `put`: the start offset, the numbers behind it, and the sizes, each into the part that it is lent.
use Rattle.lemmas.proofs.Basics.{◌+◌, ◌*◌, arith, [], ◌++◌, refl, sym, ap, ◌∙◌, length, length-append}
use Rattle.wire.specs.Numbers.{le_bytes}
use Rattle.wire.specs.Parts.{onto, le32_bytes}
use Rattle.wire.proofs.Numbers.{length-le_bytes}
use Rattle.wire.proofs.Writing.{lent, onto-none, length-le32_bytes}
use Rattle.segment.proofs.Writing.{Fits, middle, bytes_are}
use Rattle.segment.proofs.put.Goals as goal

pub returns : goal.returns
returns c =
    let offset = le_bytes 8 c.args.head.start_offset in
    let numbers = le32_bytes (middle c.args.head c.args.sizes.now) in
    let size = length-le_bytes 8 c.args.head.start_offset in
    let more = length-le32_bytes (middle c.args.head c.args.sizes.now) in
    let r1 = lent [] offset c.args.out.now 0 8 (sym (onto-none c.args.out.now)) refl (omega (arith, size)) (omega arith) c.put_le64.ensures in
    let r2 = lent offset numbers c.args.out.now 8 28 r1 size (omega (arith, more)) (omega arith) c.put_le32s.ensures in
    let r3 = lent (offset ++ numbers) (le32_bytes c.args.sizes.now) c.args.out.now 28 (28 + 4 * length c.args.sizes.now) r2 (omega (arith, length-append offset numbers, size, more)) (ap (λ n. 28 + n) (length-le32_bytes c.args.sizes.now)) (omega arith) c.put_le32s-2.ensures in
    let fits : Fits c.args.head c.args.sizes.now = record { limit = c.requires.limit; unit = c.requires.shifts.1; chunk = c.requires.shifts.0; cluster = c.requires.shifts.2 } in
    r3 ∙ ap (λ bs. onto bs c.args.out.now) (sym (bytes_are c.args.head c.args.sizes.now fits))
