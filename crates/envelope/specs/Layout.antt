-- Document 01, "Group Key Envelope": the head's numbers and the places of the eight bodies.
use Rattle.std.specs.Prelude.{ℕ, ◌+◌, ◌<◌, ◌^◌, ◌%◌, Bool, List, [], ◌∷◌, eqb}
use Rattle.wire.specs.declared.Span.{Span}
use Rattle.wire.specs.Parts.{le_at}
use Rattle.gkid.specs.Identifier.{gkid}
use Rattle.rootid.specs.Root.{root_at}
use Rattle.envelope.specs.declared.Head.{Head}
use Rattle.envelope.specs.declared.Bodies.{Bodies}
use Rattle.envelope.specs.declared.EnvelopePart.{EnvelopePart}
use Rattle.envelope.specs.declared.EnvelopePart.TheVariants.{Kdf, KdfParameters, Agreement, AgreementParameters, Domain, Forest, L1Key, L2Key}

-- the mark, at 4
abbrev pub mark : List ℕ
mark = 0x4B ∷ 0x44 ∷ 0x53 ∷ 0x4B ∷ []

-- Version 0, dwFlags 8, L0 12, L1 16, L2 20, root identifier 24 to 40; private key length and public key length at 56 and 60
unfoldable pub head_of : List ℕ → Head
head_of s =
    record {
      version = le_at 4 s 0;
      flags = le_at 4 s 8;
      at = gkid (le_at 4 s 12) (le_at 4 s 16) (le_at 4 s 20);
      root = root_at s 24;
      private_length = le_at 4 s 56;
      public_length = le_at 4 s 60;
    }

-- "Bit 31 (LSB)" of dwFlags has the value 1: public
unfoldable pub is_public : ℕ → Bool
is_public flags = eqb (flags % 2) 1

-- lengths from 40: KDF algorithm, KDF parameters, agreement algorithm, agreement parameters, (private key length, public key
-- length,) L1 key, L2 key, domain, forest
unfoldable pub lengths_of : List ℕ → Bodies ℕ
lengths_of s =
    record {
      kdf = le_at 4 s 40;
      kdf_parameters = le_at 4 s 44;
      agreement = le_at 4 s 48;
      agreement_parameters = le_at 4 s 52;
      l1_key = le_at 4 s 64;
      l2_key = le_at 4 s 68;
      domain = le_at 4 s 72;
      forest = le_at 4 s 76;
    }

-- the numbers that eight length fields can hold
abbrev pub LengthsFit : Bodies ℕ → Type 0
LengthsFit n =
    (n.kdf < 2 ^ 32) × (n.kdf_parameters < 2 ^ 32) × (n.agreement < 2 ^ 32) × (n.agreement_parameters < 2 ^ 32) × (n.domain < 2 ^ 32) × (n.forest < 2 ^ 32) × (n.l1_key < 2 ^ 32) × (n.l2_key < 2 ^ 32)

-- bodies from 80: KDF algorithm, KDF parameters, agreement algorithm, agreement parameters, domain, forest, L1 key, L2 key
abbrev pub kdf_parameters_at : Bodies ℕ → ℕ
kdf_parameters_at n = 80 + n.kdf

abbrev pub agreement_at : Bodies ℕ → ℕ
agreement_at n = kdf_parameters_at n + n.kdf_parameters

abbrev pub agreement_parameters_at : Bodies ℕ → ℕ
agreement_parameters_at n = agreement_at n + n.agreement

abbrev pub domain_at : Bodies ℕ → ℕ
domain_at n = agreement_parameters_at n + n.agreement_parameters

abbrev pub forest_at : Bodies ℕ → ℕ
forest_at n = domain_at n + n.domain

abbrev pub l1_key_at : Bodies ℕ → ℕ
l1_key_at n = forest_at n + n.forest

abbrev pub l2_key_at : Bodies ℕ → ℕ
l2_key_at n = l1_key_at n + n.l1_key

-- 80 plus the eight body lengths
abbrev pub end_at : Bodies ℕ → ℕ
end_at n = l2_key_at n + n.l2_key

unfoldable pub bodies_of : Bodies ℕ → Bodies Span
bodies_of n =
    record {
      kdf = record { at = 80; len = n.kdf };
      kdf_parameters = record { at = kdf_parameters_at n; len = n.kdf_parameters };
      agreement = record { at = agreement_at n; len = n.agreement };
      agreement_parameters = record { at = agreement_parameters_at n; len = n.agreement_parameters };
      domain = record { at = domain_at n; len = n.domain };
      forest = record { at = forest_at n; len = n.forest };
      l1_key = record { at = l1_key_at n; len = n.l1_key };
      l2_key = record { at = l2_key_at n; len = n.l2_key };
    }

-- of the eight the one asked for
unfoldable pub body : {A : Type 0} → Bodies A → EnvelopePart → A
body b Kdf = b.kdf
body b KdfParameters = b.kdf_parameters
body b Agreement = b.agreement
body b AgreementParameters = b.agreement_parameters
body b Domain = b.domain
body b Forest = b.forest
body b L1Key = b.l1_key
body b L2Key = b.l2_key
