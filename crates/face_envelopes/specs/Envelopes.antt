-- Document 01, "Group Key Envelope", as C has its answer, and the head as C hands it in.
use Rattle.std.specs.Prelude.{Result}
use Rattle.refusal.specs.declared.Refusal.{Refusal}
use Rattle.wire.specs.declared.Span.{Span}
use Rattle.envelope.specs.declared.Head.{Head}
use Rattle.envelope.specs.declared.Envelope.{Envelope}
use Rattle.envelope.specs.declared.Bodies.{Bodies}
use Rattle.envelope.specs.Layout.{is_public}
use Rattle.envelope.specs.Reading.{envelope_number, envelope_values, form_of}
use Rattle.face.specs.Codes.{form_code, bool_code}
use Rattle.face.specs.Shapes.{part_shown, identifier_shown, gkid_from, root_id_from, root_shown}
use Rattle.face_envelopes.specs.declared.EnvelopeHead.{EnvelopeHead}
use Rattle.face_envelopes.specs.declared.EnvelopeBodies.{EnvelopeBodies}
use Rattle.face_envelopes.specs.declared.EnvelopeAnswer.{EnvelopeAnswer}

abbrev pub head_shown : Head → EnvelopeHead
head_shown h =
    record {
      version = h.version;
      flags = h.flags;
      at = identifier_shown h.at;
      root = root_shown h.root;
      private_length = h.private_length;
      public_length = h.public_length;
    }

abbrev pub head_from : EnvelopeHead → Head
head_from h =
    record {
      version = h.version;
      flags = h.flags;
      at = gkid_from h.at;
      root = root_id_from h.root;
      private_length = h.private_length;
      public_length = h.public_length;
    }

abbrev pub bodies_shown : Bodies Span → EnvelopeBodies
bodies_shown b =
    record {
      kdf = part_shown b.kdf;
      kdf_parameters = part_shown b.kdf_parameters;
      agreement = part_shown b.agreement;
      agreement_parameters = part_shown b.agreement_parameters;
      domain = part_shown b.domain;
      forest = part_shown b.forest;
      l1_key = part_shown b.l1_key;
      l2_key = part_shown b.l2_key;
    }

unfoldable pub envelope_answer : Result Envelope Refusal → EnvelopeAnswer
envelope_answer r =
    record {
      refusal = envelope_number r;
      form = form_code (form_of (envelope_values r));
      is_public = bool_code (is_public (envelope_values r).head.flags);
      head = head_shown (envelope_values r).head;
      bodies = bodies_shown (envelope_values r).bodies;
    }
