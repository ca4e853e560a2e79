-- Document 01, "Group Key Envelope": what the reader answers.
use Rattle.std.specs.Prelude.{ℕ, not, cond, ◌&&◌, List, [], ◌∷◌, ◌++◌, ltb, eqb, length, Result, Ok, Err}
use Rattle.refusal.specs.declared.Refusal.{Refusal}
use Rattle.refusal.specs.declared.Refusal.TheVariants.{TooLong, Short, LengthsDisagree, WrongMark, IndexAbove31}
use Rattle.refusal.specs.Chain.{Check, ◌⇒◌, first_of, unless_refused}
use Rattle.refusal.specs.Number.{number_of}
use Rattle.wire.specs.declared.Span.{Span}
use Rattle.wire.specs.Numbers.{le_of}
use Rattle.wire.specs.Parts.{le_at, part_of}
use Rattle.gkid.specs.Identifier.{gkid, index_above_31}
use Rattle.text.specs.Text.{text_checks}
use Rattle.keys.specs.declared.Form.{Form}
use Rattle.keys.specs.declared.Form.TheVariants.{Keyless, L1Only, L2Only, Both, Public}
use Rattle.keys.specs.KeyRule.{key_checks}
use Rattle.envelope.specs.declared.Head.{Head}
use Rattle.envelope.specs.declared.EnvelopePart.{EnvelopePart}
use Rattle.envelope.specs.declared.EnvelopePart.TheVariants.{Kdf, Agreement, Domain, Forest}
use Rattle.envelope.specs.declared.Envelope.{Envelope}
use Rattle.envelope.specs.Layout.{mark, head_of, is_public, lengths_of, end_at, bodies_of, body}

-- the bytes of a body, by the lengths of the head
abbrev pub body_at : List ℕ → EnvelopePart → List ℕ
body_at s which = part_of s (body (bodies_of (lengths_of s)) which).at (body (bodies_of (lengths_of s)) which).len

-- 1, 2, 4
unfoldable pub head_checks : List ℕ → List Check
head_checks s = (ltb 65535 (length s) ⇒ TooLong) ∷ (ltb (length s) 80 ⇒ Short) ∷ (not (eqb (le_at 4 s 4) (le_of mark)) ⇒ WrongMark) ∷ []

-- the rule of a text, for the four texts in body order: what it refuses of one comes before the next
unfoldable pub four_texts : List ℕ → List ℕ → List ℕ → List ℕ → List Check
four_texts kdf agreement domain forest = text_checks kdf ++ text_checks agreement ++ text_checks domain ++ text_checks forest

-- those, then the key rule for keys of these lengths
unfoldable pub body_checks : Head → List ℕ → List ℕ → List ℕ → List ℕ → ℕ → ℕ → List Check
body_checks h kdf agreement domain forest l1Len l2Len =
    four_texts kdf agreement domain forest ++ key_checks (is_public h.flags) h.at h.public_length l1Len l2Len

-- 5; 3 unless 80 plus the eight body lengths is the record's length; 10 and 24 for each text, then 11, for the bodies
unfoldable pub layout_checks : List ℕ → List Check
layout_checks s =
    (index_above_31 (head_of s).at ⇒ IndexAbove31)
    ∷ (not (eqb (end_at (lengths_of s)) (length s)) ⇒ LengthsDisagree)
    ∷ body_checks (head_of s) (body_at s Kdf) (body_at s Agreement) (body_at s Domain) (body_at s Forest) (lengths_of s).l1_key (lengths_of s).l2_key

unfoldable pub envelope_checks : List ℕ → List Check
envelope_checks s = head_checks s ++ layout_checks s

-- what an accepted envelope shows
unfoldable pub shown : List ℕ → Envelope
shown s = record { head = head_of s; bodies = bodies_of (lengths_of s) }

-- what the reader answers
unfoldable pub envelope_of : List ℕ → Result Envelope Refusal
envelope_of s = unless_refused Err (first_of (envelope_checks s)) (Ok (shown s))

-- document 01's number and values: 0 and what is shown, or the refusal's number and zeros
unfoldable pub envelope_number : Result Envelope Refusal → ℕ
envelope_number (Ok e) = 0
envelope_number (Err r) = number_of r

abbrev no_body : Span
no_body = record { at = 0; len = 0 }

unfoldable pub envelope_values : Result Envelope Refusal → Envelope
envelope_values (Ok e) = e
envelope_values (Err r) =
    record {
      head = record { version = 0; flags = 0; at = gkid 0 0 0; root = record { low = 0; high = 0 }; private_length = 0; public_length = 0 };
      bodies =
          record {
            kdf = no_body;
            kdf_parameters = no_body;
            agreement = no_body;
            agreement_parameters = no_body;
            domain = no_body;
            forest = no_body;
            l1_key = no_body;
            l2_key = no_body;
          };
    }

-- where a body stands; 0 and 0 on a refusal
unfoldable pub span_of : Result Envelope Refusal → EnvelopePart → Span
span_of (Ok e) which = body e.bodies which
span_of (Err r) which = no_body

abbrev pub envelope_span : List ℕ → EnvelopePart → Span
envelope_span s which = span_of (envelope_of s) which

-- the very bytes of a body, or the empty part on a refusal
abbrev pub envelope_part : List ℕ → EnvelopePart → List ℕ
envelope_part s which = part_of s (envelope_span s which).at (envelope_span s which).len

-- the form, by the keys present: none, PUBLIC for any public envelope with a key, else which of the two seed keys
unfoldable pub form_of : Envelope → Form
form_of e =
    cond (eqb e.bodies.l1_key.len 0 && eqb e.bodies.l2_key.len 0) Keyless
    (cond (is_public e.head.flags) Public
    (cond (eqb e.bodies.l2_key.len 0) L1Only
    (cond (eqb e.bodies.l1_key.len 0) L2Only
    Both)))
