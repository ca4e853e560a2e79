-- `judge_layout`: the indices and the lengths, then the texts and the keys.
use Rattle.lemmas.proofs.Basics.{ℕ, List, ◌≡◌, refl, sym, ◌∙◌, ne_eqb}
use Rattle.lemmas.proofs.Results.{passed_on}
use Rattle.refusal.specs.Chain.{first_of, unless_refused}
use Rattle.envelope.specs.Reading.{four_texts, layout_checks}
use Rattle.envelope.proofs.Reading.{layout_judged}
use Rattle.envelope.proofs.judge_layout.Goals as goal

-- the texts as they were handed in
texts_at : {a b c d e f g h : List ℕ} → a ≡ e → b ≡ f → c ≡ g → d ≡ h → first_of (four_texts a b c d) ≡ first_of (four_texts e f g h)
texts_at p q r s = λ i. first_of (four_texts (p i) (q i) (r i) (s i))

pub returns-then-index_above_31 : goal.returns-then-index_above_31
unfolding layout_checks first_of
returns-then-index_above_31 c =
    rw (← c.head_of-head.ensures, sym c.index_above_31.ensures ∙ c.if-index_above_31.true)

pub returns-then-end-s : goal.returns-then-end-s
unfolding layout_checks first_of
returns-then-end-s c =
    rw (← c.head_of-head.ensures, sym c.index_above_31.ensures ∙ c.if-index_above_31.false, ← c.of-n.ensures, ← c.end.ensures, ne_eqb _ _ c.if-end-s.true)

pub returns-in_err-judge_texts : goal.returns-in_err-judge_texts
unfolding unless_refused
returns-in_err-judge_texts c =
    passed_on c.from_residual.ensures.1 ∙ rw c.in_err-judge_texts.was at (layout_judged _ c.head_of-head.ensures c.of-n.ensures c.places-bodies.ensures
    (sym c.index_above_31.ensures ∙ c.if-index_above_31.false) (sym c.end.ensures ∙ c.if-end-s.false) (c.judge_texts.ensures ∙ texts_at c.part.ensures.bytes c.part-2.ensures.bytes c.part-3.ensures.bytes c.part-4.ensures.bytes) refl)

pub returns : goal.returns
unfolding unless_refused
returns c =
    rw c.in_ok-judge_texts.was at (layout_judged _ c.head_of-head.ensures c.of-n.ensures c.places-bodies.ensures
    (sym c.index_above_31.ensures ∙ c.if-index_above_31.false) (sym c.end.ensures ∙ c.if-end-s.false) (c.judge_texts.ensures ∙ texts_at c.part.ensures.bytes c.part-2.ensures.bytes c.part-3.ensures.bytes c.part-4.ensures.bytes) c.judge_keys.ensures)
