-- An envelope's words and the newline fit in a line, and so come out joined.
use Rattle.lemmas.proofs.Basics.{◌≤◌, arith, [], ◌∷◌, ◌++◌, ◌≡◌, length}
use Rattle.std.specs.Prelude.{Result, Ok, Err}
use Rattle.refusal.specs.declared.Refusal.{Refusal}
use Rattle.envelope.specs.declared.Envelope.{Envelope}
use Rattle.refusal.specs.Number.{number_of}
use Rattle.wire.specs.Parts.{joined}
use Rattle.wire.proofs.Writing.{length-joined}
use Rattle.keys.specs.Forms.{keys_of}
use Rattle.reach.specs.Reaches.{keys_reach, reach_total}
use Rattle.envelope.specs.Reading.{form_of}
use Rattle.line.specs.Text.{room, newline, laid}
use Rattle.line.proofs.Decimals.{length_decimal}
use Rattle.line.proofs.Lines.{fits-joined}
use Rattle.words.specs.Words.{identifier_words, refused_words}
use Rattle.words.proofs.Lengths.{length_form}
use Rattle.envline.specs.Line.{envelope_words, line_words, line_of}

fits : (r : Result Envelope Refusal) → length (joined (line_words r ++ (newline ∷ []))) ≤ room
unfolding line_words envelope_words identifier_words refused_words
fits (Ok e) =
    let at = e.head.at in
    rw length-joined
    (omega (arith, length_decimal 20 at.l0.0, length_decimal 20 at.l1.0, length_decimal 20 at.l2.0, length_form (form_of e), length_decimal 20 (reach_total (keys_reach (keys_of (form_of e)) at))))
fits (Err r) = rw length-joined (omega (arith, length_decimal 20 (number_of r)))

pub ended : (r : Result Envelope Refusal) → laid [] (line_words r ++ (newline ∷ [])) ≡ line_of r
unfolding line_of
ended r = fits-joined [] (line_words r ++ (newline ∷ [])) (fits r)
