-- `put_le32s`: the invariant is that the numbers passed stand at the start; a turn lends the next four bytes.
use Rattle.lemmas.proofs.Basics.{◌+◌, ◌-◌, ◌*◌, arith, add-one, ◌≡◌, refl, sym, ap, ◌∙◌, length, get_or, take, length-take-le}
use borrow.Rule.Slice.PartMut.{mid_of}
use Rattle.wire.specs.Numbers.{le_bytes}
use Rattle.wire.specs.Parts.{onto, le32_bytes, joined}
use Rattle.wire.proofs.Numbers.{length-le_bytes, le_stored}
use Rattle.wire.proofs.Writing.{onto-none, onto_out, length-onto, lent, length-le32_bytes, le32_bytes_next}
use Rattle.wire.proofs.put_le32s.Goals as goal

pub loop-i-init : goal.loop-i-init
unfolding le32_bytes joined
loop-i-init c = (refl, sym (onto-none _))

pub loop-i-preserved : goal.loop-i-preserved
loop-i-preserved c =
    let i = c.loop-i.i in
    let xs = c.args.xs.now in
    let passed : length (le32_bytes (take i xs)) ≡ 4 * i = length-le32_bytes _ ∙ ap (λ n. 4 * n) (length-take-le i xs (omega arith)) in
    let bytes : 4 * i + length (le_bytes 4 (get_or xs i 0)) ≡ 4 * i + 4 = ap (λ n. 4 * i + n) (length-le_bytes 4 (get_or xs i 0)) in
    let put : c.copy_into.new.dst ≡ onto (le_bytes 4 (get_or xs i 0)) (mid_of (4 * i) (4 * i + 4 - 4 * i) c.loop-i.dst) = cc (le_stored 4 (get_or xs i 0)) in
    let next = lent _ _ c.args.dst.now (4 * i) (4 * i + 4) c.loop-i.invariant.1 passed bytes (omega arith) put in
    (ap length next ∙ length-onto _ c.args.dst.now, next ∙ ap (λ bs. onto bs c.args.dst.now) (rw add-one (sym (le32_bytes_next xs i (omega arith)))))

pub returns-else-xs-dst : goal.returns-else-xs-dst
returns-else-xs-dst c = sym (onto_out _ _ (rw (length-le32_bytes _) (omega arith)))
