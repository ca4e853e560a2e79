-- `part`: where the part stands; there the bytes are handed out.
use Rattle.wire.proofs.Parts.{handed_out}
use Rattle.keylist.proofs.Stepping.{span_inside}
use Rattle.keylist.proofs.part.Goals as goal

pub returns : goal.returns
returns c =
    let told = handed_out _ _ _ _ _ c.args.list.ref_ptr.1 c.part_at.ensures (span_inside _ _ _) (c.part.ensures.bytes, c.part.ensures.place) in
    record { bytes = told.0; place = told.1 }
