-- Document 01, "Bench cases": the words for answers, in ASCII, as pieces of a line.
use Rattle.std.specs.Prelude.{ℕ, List, [], ◌∷◌, Result, Ok, Err}
use Rattle.refusal.specs.declared.Refusal.{Refusal}
use Rattle.refusal.specs.Number.{number_of}
use Rattle.wire.specs.declared.Span.{Span}
use Rattle.gkid.specs.declared.Gkid.{Gkid}
use Rattle.keys.specs.declared.Form.{Form}
use Rattle.keys.specs.declared.Form.TheVariants.{Keyless, L1Only, L2Only, Both, Public}
use Rattle.line.specs.Text.{space, decimal_of}

-- L0, L1 and L2
unfoldable pub identifier_words : Gkid → List (List ℕ)
identifier_words at = decimal_of at.l0.0 ∷ space ∷ decimal_of at.l1.0 ∷ space ∷ decimal_of at.l2.0 ∷ []

-- NOKEY, L1ONLY, L2ONLY, BOTH or PUBLIC by the keys present
unfoldable pub form_word : Form → List ℕ
form_word Keyless = 78 ∷ 79 ∷ 75 ∷ 69 ∷ 89 ∷ []
form_word L1Only = 76 ∷ 49 ∷ 79 ∷ 78 ∷ 76 ∷ 89 ∷ []
form_word L2Only = 76 ∷ 50 ∷ 79 ∷ 78 ∷ 76 ∷ 89 ∷ []
form_word Both = 66 ∷ 79 ∷ 84 ∷ 72 ∷ []
form_word Public = 80 ∷ 85 ∷ 66 ∷ 76 ∷ 73 ∷ 67 ∷ []

-- REFUSED and the number
unfoldable pub refused_words : Refusal → List (List ℕ)
refused_words r = (82 ∷ 69 ∷ 70 ∷ 85 ∷ 83 ∷ 69 ∷ 68 ∷ 32 ∷ []) ∷ decimal_of (number_of r) ∷ []

-- the offset and the length
unfoldable pub span_words : Span → List (List ℕ)
span_words span = decimal_of span.at ∷ space ∷ decimal_of span.len ∷ []

-- WRITTEN and the record's length, or the refusal
unfoldable pub written_words : Result ℕ Refusal → List (List ℕ)
written_words (Ok len) = (87 ∷ 82 ∷ 73 ∷ 84 ∷ 84 ∷ 69 ∷ 78 ∷ 32 ∷ []) ∷ decimal_of len ∷ []
written_words (Err r) = refused_words r
