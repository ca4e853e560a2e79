-- `decide_by_verdict`: the refusal of the checks, or what is granted.
use Rattle.lemmas.proofs.Basics.{arith, sym, ◌∙◌, length}
use Rattle.lemmas.proofs.Results.{passed_on}
use Rattle.getkey.specs.Deciding.{granting}
use Rattle.getkey.proofs.Decisions.{passed, begins, refused_decided, passed_granting}
use Rattle.getkey.proofs.decide_by_verdict.Goals as goal

pub invariant_of-target : goal.invariant_of-target
invariant_of-target c =
    let checked = passed c.args.verdict c.args.rights c.args.request _ 0 (sym (c.judge.ensures 0) ∙ c.in_ok-judge.was) in
    record { starts = begins c.args.request c.args.clock (omega (arith, c.well_formed.1.1.1.0)) (rw c.at-present.ensures at checked) (sym c.narrowed.ensures.answer ∙ c.in_ok-narrowed.was) }

pub returns-in_err-judge : goal.returns-in_err-judge
returns-in_err-judge c =
    passed_on c.from_residual.ensures.1
    ∙ sym (refused_decided c.args.verdict c.args.rights c.args.request c.args.clock c.args.table.now (rw c.at-present.ensures at (sym (c.judge.ensures (length c.args.table.now)) ∙ c.in_err-judge.was)))

pub returns-in_err-narrowed : goal.returns-in_err-narrowed
unfolding granting
returns-in_err-narrowed c =
    let checked = passed c.args.verdict c.args.rights c.args.request _ 0 (sym (c.judge.ensures 0) ∙ c.in_ok-judge.was) in
    passed_on c.from_residual-in_err-narrowed.ensures.1 ∙ rw (passed_granting _ _ _ _ _ (rw c.at-present.ensures at checked), ← c.narrowed.ensures.answer, c.in_err-narrowed.was)

pub returns : goal.returns
returns c =
    let checked = passed c.args.verdict c.args.rights c.args.request _ 0 (sym (c.judge.ensures 0) ∙ c.in_ok-judge.was) in
    rw (passed_granting _ _ _ _ _ (rw c.at-present.ensures at checked), ← c.narrowed.ensures.answer, c.in_ok-narrowed.was, ← c.at-present.ensures) c.grant.ensures
