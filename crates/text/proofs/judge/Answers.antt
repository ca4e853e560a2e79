-- `judge`: the units passed are none of them zero, and meet; a turn passes one more.
use Rattle.lemmas.proofs.Basics.{◌+◌, ◌-◌, ◌*◌, ◌/◌, ◌%◌, ◌≤◌, suc, arith, ℕ, Bool, false, List, [], ◌∷◌, add-zero, not, ◌||◌, ◌≡◌, refl, sym, ap, ◌∙◌, eqb, length, eqb-true}
use Rattle.lemmas.specs.Counting.{every}
use Rattle.lemmas.proofs.Cases.{or-false, not-false}
use Rattle.refusal.specs.Chain.{◌⇒◌, first_of}
use Rattle.refusal.specs.declared.Refusal.TheVariants.{MalformedText, UnpairedSurrogate}
use Rattle.lemmas.proofs.Results.{passed_on}
use Rattle.refusal.proofs.Chains.{stops, follows}
use Rattle.wire.specs.Parts.{le_at}
use Rattle.wire.proofs.Parts.{number_within}
use Rattle.text.specs.Units.{is_high, is_low}
use Rattle.text.specs.Text.{is_text, are_paired, text_checks}
use Rattle.text.proofs.Texts.{nonzero, paired_to, unpaired_none, zero_more, unpaired_more, short, unterminated, text_passed, paired_passed}
use Rattle.text.proofs.judge.Goals as goal

pub returns-then-s-lt2 : goal.returns-then-s-lt2
unfolding text_checks first_of
returns-then-s-lt2 c = rw (short c.args.s.now c.if-s-lt2.true)

pub returns-then-s-le16_at : goal.returns-then-s-le16_at
unfolding text_checks first_of
returns-then-s-le16_at c =
    rw (unterminated c.args.s.now (omega arith) (ap (λ u. not (eqb (length c.args.s.now % 2) 0) || not (eqb u 0)) (sym c.le16_at.ensures) ∙ c.if-s-le16_at.true))

pub loop-k-init : goal.loop-k-init
unfolding every
loop-k-init c = (refl, unpaired_none _ (c.is_low-unpaired.ensures ∙ ap is_low c.le16_at-2.ensures))

pub loop-k-preserved : goal.loop-k-preserved
loop-k-preserved c =
    let inside : 2 * c.loop-k.k + 4 ≤ length c.args.s.now = omega arith in
    let behind : 2 * c.loop-k.k + 2 ≡ 2 * suc c.loop-k.k = omega arith in
    let this = c.le16_at-unit.ensures ∙ number_within 2 c.args.s.now (2 * c.loop-k.k) 4 0 inside (omega arith) ∙ ap (le_at 2 c.args.s.now) (add-zero (2 * c.loop-k.k)) in
    let next = c.le16_at-next.ensures ∙ number_within 2 c.args.s.now (2 * c.loop-k.k) 4 2 inside (omega arith) ∙ ap (le_at 2 c.args.s.now) behind in
    (zero_more c.args.s.now c.loop-k.k c.loop-k.invariant.0 this, unpaired_more c.args.s.now c.loop-k.k c.loop-k.invariant.1 (c.is_high.ensures ∙ ap is_high this) (c.is_low.ensures ∙ ap is_low next))

-- behind the last turn, what the pass has gathered is what the two checks ask
gathered : (s : List ℕ) (k : ℕ) {zero unpaired : Bool} → not (eqb (length s % 2) 0) || not (eqb (le_at 2 s (length s - 2)) 0) ≡ false → 2 ≤ length s → k ≡ length s / 2 - 1
    → (zero ≡ not (every k (nonzero s))) × (unpaired ≡ not (paired_to s k)) → (zero ≡ not (is_text s)) × (unpaired ≡ not (are_paired s))
gathered s k ends some all told =
    let e = or-false _ _ ends in
    let even = eqb-true (length s % 2) 0 (not-false _ e.0) in
    let units : length s ≡ 2 * (length s / 2 - 1 + 1) = omega arith in
    let at : 2 * (length s / 2 - 1) ≡ length s - 2 = omega arith in
    let zero = ap (le_at 2 s) at ∙ eqb-true _ 0 (not-false _ e.1) in
    (told.0 ∙ ap (λ n. not (every n (nonzero s))) all ∙ ap not (text_passed s _ units zero), told.1 ∙ ap (λ n. not (paired_to s n)) all ∙ ap not (paired_passed s _ units zero))

pub returns-in_err-refuse_if : goal.returns-in_err-refuse_if
unfolding text_checks
returns-in_err-refuse_if c =
    let told = gathered c.args.s.now c.loop-k.k (rw (← c.le16_at.ensures) c.if-s-le16_at.false) c.if-s-lt2.false (omega arith) c.loop-k.invariant in
    passed_on c.from_residual.ensures.1 ∙ sym c.in_err-refuse_if.was ∙ stops _ _ (c.refuse_if.ensures ∙ ap (λ t. first_of ((t ⇒ MalformedText) ∷ [])) told.0) c.in_err-refuse_if.was

pub returns : goal.returns
unfolding text_checks
returns c =
    let told = gathered c.args.s.now c.loop-k.k (rw (← c.le16_at.ensures) c.if-s-le16_at.false) c.if-s-lt2.false (omega arith) c.loop-k.invariant in
    follows _ _ (c.refuse_if.ensures ∙ ap (λ t. first_of ((t ⇒ MalformedText) ∷ [])) told.0) c.in_ok-refuse_if.was (c.refuse_if-2.ensures ∙ ap (λ t. first_of ((t ⇒ UnpairedSurrogate) ∷ [])) told.1)
