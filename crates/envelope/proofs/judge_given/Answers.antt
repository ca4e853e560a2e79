-- `judge_given`: the checks that can apply, one after the other.
use Rattle.lemmas.proofs.Basics.{◌≤◌, ◌<◌, arith, sym, ◌∙◌, lt-ltb, le-ltb}
use Rattle.std.proofs.Common.{rules}
use Rattle.lemmas.proofs.Results.{passed_on}
use Rattle.refusal.specs.Chain.{first_of}
use Rattle.refusal.proofs.Chains.{stops, follows}
use Rattle.envelope.specs.Reading.{body_checks}
use Rattle.envelope.specs.Writing.{given_in, envelope_length}
use Rattle.envelope.proofs.Writing.{write_checks_lem, bodies_judged}
use Rattle.envelope.proofs.judge_given.Goals as goal

pub returns-then-capped-gt-LIMIT : goal.returns-then-capped-gt-LIMIT
unfolding first_of
returns-then-capped-gt-LIMIT c =
    let over : 65535 < envelope_length (given_in c.args.bodies) = omega arith in
    sym (write_checks_lem c.args.head _ (search rules) ∙ rw (lt-ltb 65535 _ over))

pub returns-then-index_above_31 : goal.returns-then-index_above_31
unfolding first_of
returns-then-index_above_31 c =
    let within : envelope_length (given_in c.args.bodies) ≤ 65535 = omega arith in
    sym (write_checks_lem c.args.head _ (search rules) ∙ rw (le-ltb 65535 _ within, sym c.index_above_31.ensures ∙ c.if-index_above_31.true))

pub returns-in_err-judge_texts : goal.returns-in_err-judge_texts
unfolding body_checks
returns-in_err-judge_texts c =
    passed_on c.from_residual.ensures.1 ∙ sym c.in_err-judge_texts.was ∙ stops _ _ c.judge_texts.ensures c.in_err-judge_texts.was
    ∙ bodies_judged c.args.head (given_in c.args.bodies) (search rules) (omega arith) (sym c.index_above_31.ensures ∙ c.if-index_above_31.false)

pub returns : goal.returns
unfolding body_checks
returns c =
    follows _ _ c.judge_texts.ensures c.in_ok-judge_texts.was c.judge_keys.ensures
    ∙ bodies_judged c.args.head (given_in c.args.bodies) (search rules) (omega arith) (sym c.index_above_31.ensures ∙ c.if-index_above_31.false)
