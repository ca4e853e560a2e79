-- Document 01, "Bench cases": the program's line for one envelope, newline-ended.
use Rattle.std.specs.Prelude.{ℕ, List, [], ◌∷◌, ◌++◌, Result, Ok, Err}
use Rattle.refusal.specs.declared.Refusal.{Refusal}
use Rattle.wire.specs.Parts.{joined}
use Rattle.keys.specs.Forms.{keys_of}
use Rattle.reach.specs.Reaches.{keys_reach, reach_total}
use Rattle.envelope.specs.declared.Envelope.{Envelope}
use Rattle.envelope.specs.Reading.{form_of}
use Rattle.line.specs.Text.{space, newline, decimal_of}
use Rattle.words.specs.Words.{form_word, identifier_words, refused_words}

-- ENV, then L0, L1, L2, the word for the keys present and the reach total
unfoldable pub envelope_words : Envelope → List (List ℕ)
envelope_words e =
    ((69 ∷ 78 ∷ 86 ∷ 32 ∷ []) ∷ identifier_words e.head.at)
    ++ (space ∷ form_word (form_of e) ∷ space ∷ decimal_of (reach_total (keys_reach (keys_of (form_of e)) e.head.at)) ∷ [])

-- an envelope's words, or REFUSED and the number
unfoldable pub line_words : Result Envelope Refusal → List (List ℕ)
line_words (Ok e) = envelope_words e
line_words (Err r) = refused_words r

unfoldable pub line_of : Result Envelope Refusal → List ℕ
line_of r = joined (line_words r ++ (newline ∷ []))
