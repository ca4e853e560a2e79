-- Laws of the reader's answer.
use Rattle.lemmas.proofs.Basics.{ℕ, ◌+◌, ◌≤◌, arith, false, not, List, ◌≡◌, refl, sym, ap, ◌∙◌, ltb, eqb, length, eq-eqb, eqb-true}
use Rattle.std.specs.Prelude.{Result, Ok, Err}
use Rattle.lemmas.proofs.Cases.{not-false}
use Rattle.refusal.specs.Outcome.{Outcome}
use Rattle.refusal.specs.declared.Refusal.{Refusal}
use Rattle.refusal.specs.Chain.{first_of, unless_refused, goes_on}
use Rattle.refusal.proofs.Chains.{accepted_pass, pass_accepted, first_next, append-accepted, accepted-append, then_first, stops, unless_zero}
use Rattle.wire.specs.declared.Span.{Span}
use Rattle.wire.specs.Numbers.{le_of}
use Rattle.wire.specs.Parts.{le_at, part_of}
use Rattle.gkid.specs.Identifier.{index_above_31}
use Rattle.text.specs.Text.{text_checks}
use Rattle.keys.specs.KeyRule.{key_checks}
use Rattle.envelope.specs.declared.Head.{Head}
use Rattle.envelope.specs.declared.Bodies.{Bodies}
use Rattle.envelope.specs.declared.Envelope.{Envelope}
use Rattle.envelope.specs.declared.EnvelopePart.{EnvelopePart}
use Rattle.envelope.specs.declared.EnvelopePart.TheVariants.{Kdf, KdfParameters, Agreement, AgreementParameters, Domain, Forest, L1Key, L2Key}
use Rattle.envelope.specs.Layout.{mark, head_of, is_public, lengths_of, end_at, bodies_of, body}
use Rattle.envelope.specs.Reading.{body_at, head_checks, four_texts, body_checks, layout_checks, envelope_checks, shown, envelope_of, envelope_number, span_of, envelope_span}

-- the answer of an outcome
abbrev pub answer : Outcome → Envelope → Result Envelope Refusal
answer o e = unless_refused Err o (Ok e)

-- The answer from the outcome of the checks, and what is shown.
pub envelope_judged : (s : List ℕ) {o : Outcome} {e : Envelope} → o ≡ first_of (envelope_checks s) → e ≡ shown s → envelope_of s ≡ answer o e
unfolding envelope_of
envelope_judged s judged is-shown = rw (judged, is-shown)

-- The layout's checks from the head, the lengths and the bodies' places, as they were read: the texts' outcome, then the keys'.
pub layout_judged : (s : List ℕ) {h : Head} {n : Bodies ℕ} {b : Bodies Span} {texts keys : Outcome} → h ≡ head_of s → n ≡ lengths_of s → b ≡ bodies_of n
    → index_above_31 h.at ≡ false → end_at n ≡ length s
    → texts ≡ first_of (four_texts (part_of s b.kdf.at b.kdf.len) (part_of s b.agreement.at b.agreement.len) (part_of s b.domain.at b.domain.len) (part_of s b.forest.at b.forest.len))
    → keys ≡ first_of (key_checks (is_public h.flags) h.at h.public_length n.l1_key n.l2_key) → goes_on texts keys ≡ first_of (layout_checks s)
unfolding layout_checks body_checks body
layout_judged s is_head is-lengths is-bodies indices lengths texts keys =
    rw (← is_head, ← is-lengths, ← is-bodies) (then_first _ _ texts keys ∙ sym (first_next _ _ _ indices ∙ first_next _ _ _ (ap not (eq-eqb _ _ lengths))))

-- What the checks of the head refuse is refused so.
pub head_refused : (s : List ℕ) {o : Outcome} {r : Refusal} → o ≡ first_of (head_checks s) → o ≡ Err r → envelope_of s ≡ Err r
unfolding envelope_checks unless_refused
head_refused s judged told = envelope_judged s (sym told ∙ stops (head_checks s) (layout_checks s) judged told) refl

-- An accepted envelope: no check applies, and it shows its head and where its bodies stand.
pub accepted-checks : (s : List ℕ) → envelope_number (envelope_of s) ≡ 0 → first_of (envelope_checks s) ≡ Ok tt
unfolding envelope_of envelope_number
accepted-checks s z = (unless_zero envelope_number Err (λ r. refl) (first_of (envelope_checks s)) _ z).0

pub accepted-shown : (s : List ℕ) → envelope_number (envelope_of s) ≡ 0 → envelope_of s ≡ Ok (shown s)
unfolding envelope_of unless_refused
accepted-shown s z = ap (λ o. answer o (shown s)) (accepted-checks s z)

-- what checks that are passed say of an envelope
pub record Passed (s : List ℕ) : Type 0 where
  pub limit : ltb 65535 (length s) ≡ false
  pub head : ltb (length s) 80 ≡ false
  pub marked : not (eqb (le_at 4 s 4) (le_of mark)) ≡ false
  pub indices : index_above_31 (head_of s).at ≡ false
  pub lengths : not (eqb (end_at (lengths_of s)) (length s)) ≡ false
  pub kdf : first_of (text_checks (body_at s Kdf)) ≡ Ok tt
  pub agreement : first_of (text_checks (body_at s Agreement)) ≡ Ok tt
  pub domain : first_of (text_checks (body_at s Domain)) ≡ Ok tt
  pub forest : first_of (text_checks (body_at s Forest)) ≡ Ok tt
  pub keys : first_of (key_checks (is_public (head_of s).flags) (head_of s).at (head_of s).public_length (lengths_of s).l1_key (lengths_of s).l2_key) ≡ Ok tt

pub passed : (s : List ℕ) → first_of (envelope_checks s) ≡ Ok tt → Passed s
unfolding envelope_checks head_checks layout_checks body_checks four_texts
passed s e =
    let p = accepted_pass (envelope_checks s) e in
    let rest = p.1.1.1.1.1 in
    let keys = append-accepted _ _ (pass_accepted _ rest) in
    let forest = append-accepted _ _ keys.0 in
    let domain = append-accepted _ _ forest.0 in
    let texts = append-accepted _ _ domain.0 in
    record {
      limit = p.0;
      head = p.1.0;
      marked = p.1.1.0;
      indices = p.1.1.1.0;
      lengths = p.1.1.1.1.0;
      kdf = texts.0;
      agreement = texts.1;
      domain = domain.1;
      forest = forest.1;
      keys = keys.1;
    }

pub passes : (s : List ℕ) → Passed s → first_of (envelope_checks s) ≡ Ok tt
unfolding envelope_checks head_checks layout_checks body_checks four_texts
passes s p =
    let bodies = accepted-append _ _ (accepted-append _ _ (accepted-append _ _ (accepted-append _ _ p.kdf p.agreement) p.domain) p.forest) p.keys in
    pass_accepted (envelope_checks s) (p.limit, (p.head, (p.marked, (p.indices, (p.lengths, accepted_pass _ bodies)))))

-- Each body lies inside the envelope.
pub body_inside : (n : Bodies ℕ) (which : EnvelopePart) → (body (bodies_of n) which).at + (body (bodies_of n) which).len ≤ end_at n
unfolding body bodies_of
body_inside n Kdf = omega arith
body_inside n KdfParameters = omega arith
body_inside n Agreement = omega arith
body_inside n AgreementParameters = omega arith
body_inside n Domain = omega arith
body_inside n Forest = omega arith
body_inside n L1Key = omega arith
body_inside n L2Key = omega arith

pub part_inside : (s : List ℕ) (which : EnvelopePart) → (envelope_span s which).at + (envelope_span s which).len ≤ length s
unfolding envelope_of unless_refused span_of shown
part_inside s which = told (first_of (envelope_checks s)) refl
  where
    told : (o : Outcome) → first_of (envelope_checks s) ≡ o → (envelope_span s which).at + (envelope_span s which).len ≤ length s
    told (Ok tt) e = rw (e, ← (eqb-true (end_at (lengths_of s)) (length s) (not-false _ (passed s e).lengths))) (body_inside (lengths_of s) which)
    told (Err r) e = rw e (omega arith)
