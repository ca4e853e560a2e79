-- Laws of the reader's answer.
use Rattle.lemmas.proofs.Basics.{ℕ, ◌+◌, ◌-◌, ◌≤◌, arith, false, not, List, ◌≡◌, refl, sym, ap, ◌∙◌, ltb, eqb, length, ltb-false, eqb-true}
use Rattle.std.specs.Prelude.{Result, Ok, Err}
use Rattle.lemmas.proofs.Cases.{cond_cases, or-false, not-false}
use Rattle.refusal.specs.Outcome.{Outcome}
use Rattle.refusal.specs.declared.Refusal.{Refusal}
use Rattle.refusal.specs.Chain.{first_of, unless_refused}
use Rattle.refusal.proofs.Chains.{accepted_pass, pass_accepted, unless_zero, stops, follows}
use Rattle.wire.specs.declared.Span.{Span}
use Rattle.wire.proofs.Parts.{length_part}
use Rattle.efskey.specs.declared.SidHint.{SidHint}
use Rattle.efskey.specs.declared.EfsKey.{EfsKey}
use Rattle.efskey.specs.declared.EfsKeyPart.{EfsKeyPart}
use Rattle.efskey.specs.declared.EfsKeyPart.TheVariants.{Sid, Certificate}
use Rattle.efskey.specs.Layout.{length1, length2, sid_offset, reserved1, certificate_length, certificate_offset, lengths_disagree, certificate_misplaced, sid_misplaced, gap_without_sid, sid_area, sid_malformed, area_of, hint_in}
use Rattle.efskey.specs.Reading.{head_checks, efs_key_checks, shown_with, shown, efs_key_of, efs_key_number, span_of, efs_key_span}
use Rattle.efskey.proofs.Hints.{hint_span_lem, Says, area_says, said-judged}

-- the answer of an outcome
abbrev pub answer : Outcome → EfsKey → Result EfsKey Refusal
answer o key = unless_refused Err o (Ok key)

-- The answer from the outcome of the checks, and what is shown.
pub efskey_judged : (s : List ℕ) {o : Outcome} {key : EfsKey} → o ≡ first_of (efs_key_checks s) → key ≡ shown s → efs_key_of s ≡ answer o key
unfolding efs_key_of
efskey_judged s judged is-shown = rw (judged, is-shown)

-- The answer from the head's checks.
pub head_refused : (s : List ℕ) (r : Refusal) → first_of (head_checks s) ≡ Err r → efs_key_of s ≡ Err r
unfolding efs_key_checks unless_refused
head_refused s r e = efskey_judged s (sym e ∙ stops (head_checks s) _ refl e) refl

-- Behind them it is that of the area.
abbrev pub shown_as : List ℕ → Result SidHint Refusal → Result EfsKey Refusal
shown_as s (Ok sid) = Ok (shown_with s sid)
shown_as s (Err r) = Err r

pub head_accepted : (s : List ℕ) → first_of (head_checks s) ≡ Ok tt → efs_key_of s ≡ shown_as s (area_of (sid_offset s) (sid_area s))
unfolding efs_key_checks unless_refused
head_accepted s e = told _ (area_says (sid_offset s) (sid_area s))
  where
    told : (a : Result SidHint Refusal) → Says (sid_offset s) (sid_area s) a → efs_key_of s ≡ shown_as s a
    told (Ok hint) said = efskey_judged s (follows (head_checks s) _ refl e (sym (said-judged _ _ (Ok hint) said))) (ap (shown_with s) said.1)
    told (Err r) said = efskey_judged s (follows (head_checks s) _ refl e (sym (said-judged _ _ (Err r) said))) refl

-- A refused record: the first check that applies gives that refusal.
pub refused_checks : (s : List ℕ) (r : Refusal) → efs_key_of s ≡ Err r → first_of (efs_key_checks s) ≡ Err r
unfolding efs_key_of unless_refused
refused_checks s r = told (first_of (efs_key_checks s))
  where
    told : (o : Outcome) → answer o (shown s) ≡ Err r → o ≡ Err r
    told (Ok tt) h = let z : ◌≡◌ {A = ℕ} 0 1 = cc in absurd (omega arith)
    told (Err q) h = ap Err (cc)

-- An accepted record: no check applies.
pub accepted-checks : (s : List ℕ) → efs_key_number (efs_key_of s) ≡ 0 → first_of (efs_key_checks s) ≡ Ok tt
unfolding efs_key_of efs_key_number
accepted-checks s z = (unless_zero efs_key_number Err (λ r. refl) (first_of (efs_key_checks s)) _ z).0

-- what checks that are passed say of a record
pub record Passed (s : List ℕ) : Type 0 where
  pub limit : ltb 65535 (length s) ≡ false
  pub head : ltb (length s) 32 ≡ false
  pub lengths : lengths_disagree (length s) (length1 s) (length2 s) ≡ false
  pub marked : not (eqb (reserved1 s) 2) ≡ false
  pub certificate : eqb (certificate_length s) 0 ≡ false
  pub place : certificate_misplaced (certificate_offset s) (certificate_length s) (length1 s) ≡ false
  pub offset : sid_misplaced (sid_offset s) ≡ false
  pub gap : gap_without_sid (sid_offset s) (certificate_offset s) ≡ false
  pub sid : sid_malformed (hint_in s) (sid_area s) ≡ false

pub passed : (s : List ℕ) → first_of (efs_key_checks s) ≡ Ok tt → Passed s
unfolding efs_key_checks head_checks
passed s e =
    let p = accepted_pass (efs_key_checks s) e in
    let mark = p.1.1.1 in
    let sid = mark.1.1.1 in
    record {
      limit = p.0;
      head = p.1.0;
      lengths = p.1.1.0;
      marked = mark.0;
      certificate = mark.1.0;
      place = mark.1.1.0;
      offset = sid.0;
      gap = sid.1.0;
      sid = sid.1.1.0;
    }

pub passes : (s : List ℕ) → Passed s → first_of (efs_key_checks s) ≡ Ok tt
unfolding efs_key_checks head_checks
passes s p =
    pass_accepted (efs_key_checks s) (p.limit, (p.head, (p.lengths, (p.marked, (p.certificate, (p.place, (p.offset, (p.gap, (p.sid, tt)))))))))

-- Length1 is the record's length, and Length2 four less.
pub lengths_are : (s : List ℕ) → Passed s → (length1 s ≡ length s) × (length2 s + 4 ≡ length s)
lengths_are s p =
    let agree = or-false _ _ p.lengths in
    let whole = eqb-true (length1 s) (length s) (not-false _ agree.0) in
    (whole, eqb-true _ _ (not-false _ agree.1) ∙ whole)

-- The certificate stands behind the head and ends the record.
pub placed : (s : List ℕ) → Passed s → (28 ≤ certificate_offset s) × (4 + certificate_offset s + certificate_length s ≡ length s)
placed s p = let both = or-false _ _ p.place in (ltb-false _ _ both.0, eqb-true _ _ (not-false _ both.1) ∙ (lengths_are s p).0)

-- The SID area ends where the certificate begins.
pub area_length : (s : List ℕ) → Passed s → length (sid_area s) ≡ certificate_offset s - 28
unfolding sid_area
area_length s p = length_part s 32 _ (omega (arith, placed s p))

-- Each part lies inside the record.
pub part_inside : (s : List ℕ) (which : EfsKeyPart) → (efs_key_span s which).at + (efs_key_span s which).len ≤ length s
unfolding efs_key_of unless_refused span_of
part_inside s which = told (first_of (efs_key_checks s)) refl which
  where
    told : (o : Outcome) → first_of (efs_key_checks s) ≡ o → (which : EfsKeyPart) → (efs_key_span s which).at + (efs_key_span s which).len ≤ length s
    told (Ok tt) e Sid =
        rw (e, hint_span_lem (sid_offset s) (sid_area s))
        (cond_cases (λ (span : Span). span.at + span.len ≤ length s) (eqb (sid_offset s) 0) (λ _. omega arith) (λ _. omega (arith, placed s (passed s e), area_length s (passed s e))))
    told (Ok tt) e Certificate = rw e (omega (arith, placed s (passed s e)))
    told (Err r) e which = rw e (omega arith)
