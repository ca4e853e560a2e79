-- Laws of the writer: what its bytes read as, and which checks can apply to them.
use Rattle.lemmas.proofs.Basics.{ℕ, ◌^◌, ◌≤◌, ◌<◌, arith, not, List, [], ◌∷◌, ◌++◌, append-nil, append_assoc, ◌≡◌, refl, sym, ap, ◌∙◌, false, ltb, length, take, le-ltb, ltb-false, eq-eqb}
use Rattle.std.specs.Prelude.{Ok}
use Rattle.refusal.specs.declared.Refusal.TheVariants.{TooLong, IndexAbove31}
use Rattle.refusal.specs.Chain.{Check, ◌⇒◌, first_of}
use Rattle.refusal.proofs.Chains.{first_next, first_after}
use Rattle.wire.specs.Numbers.{le_of, le_bytes}
use Rattle.wire.specs.Parts.{le_at, part_of, joined, le32_bytes}
use Rattle.wire.proofs.Numbers.{le_piece}
use Rattle.wire.proofs.Parts.{piece_part, joined-append}
use Rattle.wire.proofs.Writing.{length-joined}
use Rattle.gkid.specs.Identifier.{index_above_31}
use Rattle.rootid.specs.Root.{root_bytes}
use Rattle.rootid.proofs.Roots.{root_piece}
use Rattle.envelope.specs.declared.Head.{Head}
use Rattle.envelope.specs.declared.Bodies.{Bodies}
use Rattle.envelope.specs.declared.EnvelopePart.{EnvelopePart}
use Rattle.envelope.specs.declared.EnvelopePart.TheVariants.{Kdf, KdfParameters, Agreement, AgreementParameters, Domain, Forest, L1Key, L2Key}
use Rattle.envelope.specs.Layout.{mark, head_of, lengths_of, bodies_of, body}
use Rattle.envelope.specs.Reading.{head_checks, body_checks, layout_checks, envelope_checks}
use Rattle.envelope.proofs.Reading.{passed}
use Rattle.envelope.specs.Writing.{Given, given_lengths, envelope_length, head_pieces, body_pieces, pieces, envelope_bytes, write_checks}

-- the head's values are those of its fields' widths
pub record Fit (h : Head) : Type 0 where
  pub version : h.version < 2 ^ 32
  pub flags : h.flags < 2 ^ 32
  pub l0 : h.at.l0.0 < 2 ^ 32
  pub l1 : h.at.l1.0 < 2 ^ 32
  pub l2 : h.at.l2.0 < 2 ^ 32
  pub high : h.root.high < 2 ^ 64
  pub low : h.root.low < 2 ^ 64
  pub private_length : h.private_length < 2 ^ 32
  pub public_length : h.public_length < 2 ^ 32

pub length-bytes : (h : Head) (g : Given) → length (envelope_bytes h g) ≡ envelope_length g
unfolding envelope_bytes le_bytes root_bytes
length-bytes h g = length-joined (pieces h g) ∙ omega arith

module _ (h : Head) (g : Given) (fit : Fit h) (small : envelope_length g ≤ 65535) where
  pub is_marked : le_at 4 (envelope_bytes h g) 4 ≡ le_of mark
  unfolding envelope_bytes joined le_bytes le_of
  is_marked = le_piece 4 (pieces h g) 1 (le_of mark) 4 refl (omega arith) refl

  pub is_head : head_of (envelope_bytes h g) ≡ h
  unfolding head_of envelope_bytes joined le_bytes root_bytes
  is_head =
      λ i.
      record {
        version = le_piece 4 (pieces h g) 0 h.version 0 refl fit.version refl i;
        flags = le_piece 4 (pieces h g) 2 h.flags 8 refl fit.flags refl i;
        at =
            record {
              l0 = record { 0 = le_piece 4 (pieces h g) 3 h.at.l0.0 12 refl fit.l0 refl i };
              l1 = record { 0 = le_piece 4 (pieces h g) 4 h.at.l1.0 16 refl fit.l1 refl i };
              l2 = record { 0 = le_piece 4 (pieces h g) 5 h.at.l2.0 20 refl fit.l2 refl i };
            };
        root = root_piece (pieces h g) 6 h.root 24 refl fit.high fit.low refl i;
        private_length = le_piece 4 (pieces h g) 11 h.private_length 56 refl fit.private_length refl i;
        public_length = le_piece 4 (pieces h g) 12 h.public_length 60 refl fit.public_length refl i;
      }

  pub are_lengths : lengths_of (envelope_bytes h g) ≡ given_lengths g
  unfolding lengths_of envelope_bytes joined le_bytes root_bytes
  are_lengths =
      λ i.
      record {
        kdf = le_piece 4 (pieces h g) 7 (length g.kdf) 40 refl (omega arith) refl i;
        kdf_parameters = le_piece 4 (pieces h g) 8 (length g.kdf_parameters) 44 refl (omega arith) refl i;
        agreement = le_piece 4 (pieces h g) 9 (length g.agreement) 48 refl (omega arith) refl i;
        agreement_parameters = le_piece 4 (pieces h g) 10 (length g.agreement_parameters) 52 refl (omega arith) refl i;
        l1_key = le_piece 4 (pieces h g) 13 (length g.l1_key) 64 refl (omega arith) refl i;
        l2_key = le_piece 4 (pieces h g) 14 (length g.l2_key) 68 refl (omega arith) refl i;
        domain = le_piece 4 (pieces h g) 15 (length g.domain) 72 refl (omega arith) refl i;
        forest = le_piece 4 (pieces h g) 16 (length g.forest) 76 refl (omega arith) refl i;
      }

-- The body where the lengths place it is the body that was given.
pub body_is : (h : Head) (g : Given) (which : EnvelopePart) → part_of (envelope_bytes h g) (body (bodies_of (given_lengths g)) which).at (body (bodies_of (given_lengths g)) which).len ≡ body g which
unfolding envelope_bytes bodies_of body le_bytes root_bytes
body_is h g Kdf = piece_part (pieces h g) 17 80 _ (length-joined (take 17 (pieces h g)) ∙ omega arith) refl
body_is h g KdfParameters = piece_part (pieces h g) 18 _ _ (length-joined (take 18 (pieces h g)) ∙ omega arith) refl
body_is h g Agreement = piece_part (pieces h g) 19 _ _ (length-joined (take 19 (pieces h g)) ∙ omega arith) refl
body_is h g AgreementParameters = piece_part (pieces h g) 20 _ _ (length-joined (take 20 (pieces h g)) ∙ omega arith) refl
body_is h g Domain = piece_part (pieces h g) 21 _ _ (length-joined (take 21 (pieces h g)) ∙ omega arith) refl
body_is h g Forest = piece_part (pieces h g) 22 _ _ (length-joined (take 22 (pieces h g)) ∙ omega arith) refl
body_is h g L1Key = piece_part (pieces h g) 23 _ _ (length-joined (take 23 (pieces h g)) ∙ omega arith) refl
body_is h g L2Key = piece_part (pieces h g) 24 _ _ (length-joined (take 24 (pieces h g)) ∙ omega arith) refl

-- the head in the three runs in which it is written
abbrev pub front : Head → List ℕ
front h = h.version ∷ 0x4B53444B ∷ h.flags ∷ h.at.l0.0 ∷ h.at.l1.0 ∷ h.at.l2.0 ∷ []

abbrev pub back : Head → Bodies ℕ → List ℕ
back h n = n.kdf ∷ n.kdf_parameters ∷ n.agreement ∷ n.agreement_parameters ∷ h.private_length ∷ h.public_length ∷ n.l1_key ∷ n.l2_key ∷ n.domain ∷ n.forest ∷ []

pub head_runs : (h : Head) (n : Bodies ℕ) → (le32_bytes (front h) ++ root_bytes h.root) ++ le32_bytes (back h n) ≡ joined (head_pieces h n)
unfolding le32_bytes joined le_bytes root_bytes
head_runs h n = refl

-- The envelope is its head, then its bodies.
pub bytes_are : (h : Head) (g : Given) → envelope_bytes h g
    ≡ (((((((joined (head_pieces h (given_lengths g)) ++ g.kdf) ++ g.kdf_parameters) ++ g.agreement) ++ g.agreement_parameters) ++ g.domain) ++ g.forest) ++ g.l1_key) ++ g.l2_key
unfolding envelope_bytes joined
bytes_are h g = joined-append (head_pieces h (given_lengths g)) (body_pieces g) ∙ simp (append_assoc, append-nil)

pub length-head : (h : Head) (n : Bodies ℕ) → length (joined (head_pieces h n)) ≡ 80
unfolding joined le_bytes root_bytes
length-head h n = refl

-- the checks that can apply to what is given: 1, 5 and those of the bodies
abbrev pub given_checks : Head → Given → List Check
given_checks h g =
    (ltb 65535 (envelope_length g) ⇒ TooLong)
    ∷ (index_above_31 h.at ⇒ IndexAbove31)
    ∷ body_checks h g.kdf g.agreement g.domain g.forest (length g.l1_key) (length g.l2_key)

-- Of the reader's checks on the bytes no others can apply.
pub write_checks_lem : (h : Head) (g : Given) → Fit h → first_of (write_checks h g) ≡ first_of (given_checks h g)
unfolding write_checks envelope_checks head_checks layout_checks body
write_checks_lem h g fit =
    rw (length-bytes h g)
    (first_after _ _ _ _ (λ q. let small = ltb-false 65535 (envelope_length g) q in
    first_next _ _ _ (le-ltb (envelope_length g) 80 (omega arith))
    ∙ rw (
      is_marked h g fit small,
      is_head h g fit small,
      are_lengths h g fit small,
      body_is h g Kdf,
      body_is h g Agreement,
      body_is h g Domain,
      body_is h g Forest,
    )
    (first_next _ _ _ (ap not (eq-eqb (le_of mark) (le_of mark) refl))
    ∙ first_after _ _ _ _ (λ _. first_next _ _ _ (ap not (eq-eqb (envelope_length g) (envelope_length g) refl))))))

-- Within the limit, at an identifier of a group, they are those of the bodies.
pub bodies_judged : (h : Head) (g : Given) → Fit h → envelope_length g ≤ 65535 → index_above_31 h.at ≡ false
    → first_of (body_checks h g.kdf g.agreement g.domain g.forest (length g.l1_key) (length g.l2_key)) ≡ first_of (write_checks h g)
bodies_judged h g fit within indices = sym (write_checks_lem h g fit ∙ first_next _ _ _ (le-ltb 65535 _ within) ∙ first_next _ _ _ indices)

-- What is accepted is within the limit.
pub within_limit : (h : Head) (g : Given) → first_of (write_checks h g) ≡ Ok tt → envelope_length g ≤ 65535
unfolding write_checks
within_limit h g e = rw (length-bytes h g) at (ltb-false 65535 (length (envelope_bytes h g)) (passed _ e).limit)
