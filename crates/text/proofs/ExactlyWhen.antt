-- A text is accepted exactly when it is well formed: whole units, the last one zero and no earlier one, and all of them characters.
use Rattle.lemmas.proofs.Basics.{ℕ, zero, suc, ◌+◌, ◌*◌, ◌<◌, arith, true, false, cond, not, ◌&&◌, true≢false, false≢true, List, [], ◌∷◌, ◌≡◌, refl, sym, ap, ◌∙◌, eqb, length, eqb-true}
use Rattle.std.specs.Prelude.{Ok}
use Rattle.refusal.specs.Chain.{first_of}
use Rattle.refusal.proofs.Chains.{accepted_pass, pass_accepted}
use Rattle.lemmas.proofs.Cases.{by_cases, not-false}
use Rattle.wire.specs.Numbers.{le_of}
use Rattle.text.specs.Units.{unit}
use Rattle.text.specs.Text.{zero_unit, is_empty, is_text, text_checks}
use Rattle.text.specs.WellFormed.{Terminated, WellFormed}
use Rattle.text.proofs.Units.{unit_first, unit-later}
use Rattle.text.proofs.Pairs.{paired_characters, characters_paired}

-- a unit is zero exactly where the rule says so
zero_unit_lem : (a b : ℕ) → zero_unit a b ≡ true → le_of (a ∷ b ∷ []) ≡ 0
unfolding zero_unit le_of
zero_unit_lem a b =
    by_cases (λ t. t && eqb b 0 ≡ true → le_of (a ∷ b ∷ []) ≡ 0) (eqb a 0) (λ p q. omega (arith, eqb-true a 0 p, eqb-true b 0 q)) (λ p q. absurd (false≢true q))

unit-zero : (a b : ℕ) → le_of (a ∷ b ∷ []) ≡ 0 → zero_unit a b ≡ true
unfolding zero_unit le_of
unit-zero a b e =
    let low : a ≡ 0 = omega arith in
    let high : b ≡ 0 = omega arith in
    rw (low, high)

-- Whole units, the last zero and no earlier one.
pub is_terminated : (s : List ℕ) → is_text s ≡ true → Terminated s
unfolding is_text is_empty
is_terminated [] e = absurd (false≢true e)
is_terminated (a ∷ []) e = absurd (false≢true e)
is_terminated (a ∷ b ∷ s) e =
    by_cases (λ t. cond t (is_empty s) (is_text s) ≡ true → (is_text s ≡ true → Terminated s) → Terminated (a ∷ b ∷ s)) (zero_unit a b)
    (λ z q _. ends a b s z q)
    (λ z q more. goes_on_lem a b s z (more q))
    e (is_terminated s)
  where
    ends : (a b : ℕ) (s : List ℕ) → zero_unit a b ≡ true → is_empty s ≡ true → Terminated (a ∷ b ∷ s)
    ends a b [] z q = record { before = 0; units = refl; last = unit_first a b [] ∙ zero_unit_lem a b z; earlier = λ k h. absurd (omega arith) }
    ends a b (c ∷ s) z q = absurd (false≢true q)

    goes_on_lem : (a b : ℕ) (s : List ℕ) → zero_unit a b ≡ false → Terminated s → Terminated (a ∷ b ∷ s)
    goes_on_lem a b s z w =
        record {
          before = suc w.before;
          units = omega (arith, w.units);
          last = unit-later a b s w.before ∙ w.last;
          earlier = λ k. elim k as (λ k. k < suc w.before → unit (a ∷ b ∷ s) k ≡ 0 → ⊥) [ zero ↦ (λ h q. true≢false (sym (unit-zero a b (sym (unit_first a b s) ∙ q)) ∙ z)) | suc j ↦ (λ h q. w.earlier j (omega arith) (sym (unit-later a b s j) ∙ q)) ];
        }

-- And back.
pub terminated_is : (s : List ℕ) → Terminated s → is_text s ≡ true
unfolding is_text is_empty
terminated_is [] w = absurd (omega (arith, w.units))
terminated_is (a ∷ []) w = absurd (omega (arith, w.units))
terminated_is (a ∷ b ∷ s) w = go w.before w.units w.last w.earlier (terminated_is s)
  where
    go : (before : ℕ) → length (a ∷ b ∷ s) ≡ 2 * (before + 1) → unit (a ∷ b ∷ s) before ≡ 0 → ((k : ℕ) → k < before → unit (a ∷ b ∷ s) k ≡ 0 → ⊥)
        → (Terminated s → is_text s ≡ true) → cond (zero_unit a b) (is_empty s) (is_text s) ≡ true
    go zero units last earlier more = rw (unit-zero a b (sym (unit_first a b s) ∙ last)) (empty s (omega arith))
      where
        empty : (s : List ℕ) → length s ≡ 0 → is_empty s ≡ true
        empty [] e = refl
        empty (c ∷ s) e = absurd (omega arith)
    go (suc before) units last earlier more =
        by_cases (λ t. cond t (is_empty s) (is_text s) ≡ true) (zero_unit a b)
        (λ z. absurd (earlier 0 (omega arith) (unit_first a b s ∙ zero_unit_lem a b z)))
        (λ z. more (record { before = before; units = omega arith; last = sym (unit-later a b s before) ∙ last; earlier = λ k h q. earlier (suc k) (omega arith) (unit-later a b s k ∙ q) }))

-- Accepted, so well formed.
pub text_well_formed : (s : List ℕ) → first_of (text_checks s) ≡ Ok tt → WellFormed s
unfolding text_checks
text_well_formed s e =
    let passed = accepted_pass (text_checks s) e in
    record { terminated = is_terminated s (not-false _ passed.0); characters = paired_characters s (not-false _ passed.1.0) }

-- Well formed, so accepted.
pub well_formed_text : (s : List ℕ) → WellFormed s → first_of (text_checks s) ≡ Ok tt
unfolding text_checks
well_formed_text s w = pass_accepted (text_checks s) (ap not (terminated_is s w.terminated), (ap not (characters_paired s w.characters), tt))
