-- Laws of the text rule as one pass over the units looks at it: each is compared with zero and with the unit behind it.
use Rattle.lemmas.proofs.Basics.{ℕ, suc, ◌+◌, ◌-◌, ◌*◌, ◌%◌, ◌≤◌, ◌<◌, arith, add-one, Bool, true, false, not, ◌&&◌, ◌||◌, and-true, and_assoc, true≢false, ⊎_elim, List, ◌≡◌, refl, sym, ap, ◌∙◌, ltb, eqb, length, ltb-true, ltb-false, eq-eqb, ne_eqb, eqb-true, eqb-false, not-true}
use mathlib.Core.Bool.{beq, not-not}
use Rattle.lemmas.specs.Counting.{every}
use Rattle.lemmas.proofs.Counting.{every_all, all_every}
use Rattle.lemmas.proofs.Cases.{by_cases, or-true, both_true, true-and, same_truth}
use Rattle.wire.specs.Parts.{le_at}
use Rattle.text.specs.Units.{unit, is_high, is_low}
use Rattle.text.specs.Text.{is_text, are_paired}
use Rattle.text.specs.WellFormed.{Terminated}
use Rattle.text.proofs.Units.{unit-none}
use Rattle.text.proofs.Pairs.{paired_neighbours, neighbours_paired}
use Rattle.text.proofs.ExactlyWhen.{is_terminated, terminated_is}

either_not : (a b : Bool) → not a || not b ≡ not (a && b)
either_not true b = refl
either_not false b = refl

-- what a turn asks of a unit
abbrev pub nonzero : List ℕ → ℕ → Bool
nonzero s k = not (eqb (unit s k) 0)

abbrev pub meets : List ℕ → ℕ → Bool
meets s k = beq (is_high (unit s k)) (is_low (unit s (suc k)))

-- what is asked of the first unit, and of those passed
abbrev pub paired_to : List ℕ → ℕ → Bool
paired_to s k = not (is_low (unit s 0)) && every k (meets s)

-- Before the first turn only the first unit was looked at; a turn passes one unit more.
pub unpaired_none : (s : List ℕ) {low : Bool} → low ≡ is_low (unit s 0) → low ≡ not (paired_to s 0)
unfolding every
unpaired_none s is = is ∙ rw (and-true (not (is_low (unit s 0)))) (sym (not-not (is_low (unit s 0))))

pub zero_more : (s : List ℕ) (k : ℕ) {so_far : Bool} {u : ℕ} → so_far ≡ not (every k (nonzero s)) → u ≡ unit s k → so_far || eqb u 0 ≡ not (every (k + 1) (nonzero s))
unfolding every
zero_more s k is at = rw (add-one k, is, at) (ap (λ b. not (every k (nonzero s)) || b) (sym (not-not (eqb (unit s k) 0))) ∙ either_not (every k (nonzero s)) (nonzero s k))

pub unpaired_more : (s : List ℕ) (k : ℕ) {so_far high low : Bool} → so_far ≡ not (paired_to s k) → high ≡ is_high (unit s k) → low ≡ is_low (unit s (suc k)) → so_far || not (beq high low) ≡ not (paired_to s (k + 1))
unfolding every
unpaired_more s k is high low = rw (add-one k, is, high, low) (either_not (paired_to s k) (meets s k) ∙ ap not (and_assoc (not (is_low (unit s 0))) (every k (meets s)) (meets s k)))

-- no text without a terminator behind whole units
no_text : (s : List ℕ) → (Terminated s → ⊥) → is_text s ≡ false
no_text s none = by_cases (λ t. t ≡ false) (is_text s) (λ e. absurd (none (is_terminated s e))) (λ _. refl)

pub short : (s : List ℕ) → length s < 2 → is_text s ≡ false
short s h = no_text s (λ w. omega (arith, w.units))

pub unterminated : (s : List ℕ) → 2 ≤ length s → not (eqb (length s % 2) 0) || not (eqb (le_at 2 s (length s - 2)) 0) ≡ true → is_text s ≡ false
unterminated s some e =
    no_text s (λ w.
    let last : 2 * w.before ≡ length s - 2 = omega (arith, w.units) in
    ⊎_elim
    (λ odd. eqb-false (length s % 2) 0 (not-true _ odd) (omega (arith, w.units)))
    (λ other. eqb-false (le_at 2 s (length s - 2)) 0 (not-true _ other) (rw last at w.last))
    (or-true _ _ e))

same-beq : (a b : Bool) → beq a b ≡ true → a ≡ b
same-beq true true e = refl
same-beq false false e = refl
same-beq true false e = sym e
same-beq false true e = e

beq_same : (a b : Bool) → a ≡ b → beq a b ≡ true
beq_same true b e = rw (← e)
beq_same false b e = rw (← e)

-- Behind a terminator at the end of whole units, all units before it passed: they make a text where none is zero, and no surrogate is unpaired where all meet.
module _ (s : List ℕ) (last : ℕ) (units : length s ≡ 2 * (last + 1)) (ends : unit s last ≡ 0) where
  pub text_passed : every last (nonzero s) ≡ is_text s
  text_passed =
      same_truth (every last (nonzero s)) (is_text s)
      (λ e. terminated_is s (record { before = last; units = units; last = ends; earlier = λ k h z. true≢false (sym (every_all last (nonzero s) e k h) ∙ ap not (eq-eqb _ 0 z)) }))
      (λ e. let w = is_terminated s e in all_every last (nonzero s) (λ k h. ap not (ne_eqb _ 0 (w.earlier k (omega (arith, w.units))))))

  none_from : (k : ℕ) → last ≤ k → unit s k ≡ 0
  none_from k h =
      by_cases (λ _. unit s k ≡ 0) (eqb k last)
      (λ q. rw (eqb-true k last q) ends)
      (λ q. let n = eqb-false k last q in unit-none s k (omega arith))

  pub paired_passed : paired_to s last ≡ are_paired s
  unfolding is_high is_low
  paired_passed =
      same_truth (paired_to s last) (are_paired s)
      (λ e. let both = both_true _ _ e in neighbours_paired s (record { first = not-true _ both.0; next = next both.1 }))
      (λ e. let n = paired_neighbours s e in true-and (ap not n.first) (all_every last (meets s) (λ k _. beq_same _ _ (n.next k))))
    where
      next : every last (meets s) ≡ true → (k : ℕ) → is_high (unit s k) ≡ is_low (unit s (suc k))
      next e k =
          by_cases (λ _. is_high (unit s k) ≡ is_low (unit s (suc k))) (ltb k last)
          (λ q. same-beq _ _ (every_all last (meets s) e k (ltb-true k last q)))
          (λ q. let behind = ltb-false k last q in rw (none_from k (omega arith), none_from (suc k) (omega arith)))
