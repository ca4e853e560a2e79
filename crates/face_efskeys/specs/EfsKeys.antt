-- Document 01, "EfsKey", with No. 2 of document 02, as C has its answer.
use Rattle.efskey.specs.declared.EfsKeyPart.TheVariants as part
use Rattle.std.specs.Prelude.{Result}
use Rattle.refusal.specs.declared.Refusal.{Refusal}
use Rattle.efskey.specs.declared.EfsKey.{EfsKey}
use Rattle.efskey.specs.Reading.{efs_key_number, sid_kind, span_of}
use Rattle.face.specs.Shapes.{part_shown}
use Rattle.face_efskeys.specs.declared.EfsKeyAnswer.{EfsKeyAnswer}

unfoldable pub efs_key_answer : Result EfsKey Refusal → EfsKeyAnswer
efs_key_answer r =
    record {
      refusal = efs_key_number r;
      kind = sid_kind r;
      sid = part_shown (span_of r part.Sid);
      certificate = part_shown (span_of r part.Certificate);
    }
