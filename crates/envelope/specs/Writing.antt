-- Document 01, "Group Key Envelope": what the writer makes and answers.
use Rattle.std.specs.Prelude.{ℕ, List, [], ◌∷◌, ◌++◌, length, Result}
use Rattle.std.specs.Borrow.{Bor}
use Rattle.refusal.specs.declared.Refusal.{Refusal}
use Rattle.refusal.specs.Chain.{Check, first_of}
use Rattle.wire.specs.Numbers.{le_bytes}
use Rattle.wire.specs.Parts.{joined}
use Rattle.rootid.specs.Root.{root_bytes}
use Rattle.records.specs.Writing.{written_of}
use Rattle.envelope.specs.declared.Head.{Head}
use Rattle.envelope.specs.declared.Bodies.{Bodies}
use Rattle.envelope.specs.Layout.{mark, end_at}
use Rattle.envelope.specs.Reading.{envelope_checks}

-- the eight bodies that the writer is given
abbrev pub Given : Type 0
Given = Bodies (List ℕ)

abbrev pub given : List ℕ → List ℕ → List ℕ → List ℕ → List ℕ → List ℕ → List ℕ → List ℕ → Given
given a b c d e f k l = record { kdf = a; kdf_parameters = b; agreement = c; agreement_parameters = d; domain = e; forest = f; l1_key = k; l2_key = l }

-- what the slices that it is handed hold
abbrev pub given_in : Bodies (Bor (List ℕ)) → Given
given_in b = given b.kdf.now b.kdf_parameters.now b.agreement.now b.agreement_parameters.now b.domain.now b.forest.now b.l1_key.now b.l2_key.now

-- writers derive lengths from what they are given
abbrev pub given_lengths : Given → Bodies ℕ
given_lengths g =
    record {
      kdf = length g.kdf;
      kdf_parameters = length g.kdf_parameters;
      agreement = length g.agreement;
      agreement_parameters = length g.agreement_parameters;
      l1_key = length g.l1_key;
      l2_key = length g.l2_key;
      domain = length g.domain;
      forest = length g.forest;
    }

-- the record's length
abbrev pub envelope_length : Given → ℕ
envelope_length g = end_at (given_lengths g)

-- the head: domain and forest lengths come after the keys' lengths
abbrev pub head_pieces : Head → Bodies ℕ → List (List ℕ)
head_pieces h n =
    le_bytes 4 h.version
    ∷ mark
    ∷ le_bytes 4 h.flags
    ∷ le_bytes 4 h.at.l0.0
    ∷ le_bytes 4 h.at.l1.0
    ∷ le_bytes 4 h.at.l2.0
    ∷ root_bytes h.root
    ∷ le_bytes 4 n.kdf
    ∷ le_bytes 4 n.kdf_parameters
    ∷ le_bytes 4 n.agreement
    ∷ le_bytes 4 n.agreement_parameters
    ∷ le_bytes 4 h.private_length
    ∷ le_bytes 4 h.public_length
    ∷ le_bytes 4 n.l1_key
    ∷ le_bytes 4 n.l2_key
    ∷ le_bytes 4 n.domain
    ∷ le_bytes 4 n.forest
    ∷ []

-- the bodies: domain and forest come before the keys
abbrev pub body_pieces : Given → List (List ℕ)
body_pieces g = g.kdf ∷ g.kdf_parameters ∷ g.agreement ∷ g.agreement_parameters ∷ g.domain ∷ g.forest ∷ g.l1_key ∷ g.l2_key ∷ []

abbrev pub pieces : Head → Given → List (List ℕ)
pieces h g = head_pieces h (given_lengths g) ++ body_pieces g

unfoldable pub envelope_bytes : Head → Given → List ℕ
envelope_bytes h g = joined (pieces h g)

-- what the reader would answer on those bytes
unfoldable pub write_checks : Head → Given → List Check
write_checks h g = envelope_checks (envelope_bytes h g)

-- what those checks say, then 13 where the output has not that many bytes
abbrev pub envelope_written : Head → Given → ℕ → Result ℕ Refusal
envelope_written h g room = written_of (first_of (write_checks h g)) (envelope_length g) room
