-- `next_step`: the whole list's checks, and the end; then the entry, or the refusal given for it.
use Rattle.lemmas.proofs.Basics.{arith, sym, ap, ◌∙◌}
use Rattle.keylist.specs.Stepping.{arrived, place_after}
use Rattle.keylist.proofs.Stepping.{step_long, step_short, step_end, entry_lies, step_entered}
use Rattle.keylist.proofs.next_step.Goals as goal

pub returns-then-list-gt-LIMIT : goal.returns-then-list-gt-LIMIT
unfolding arrived place_after
returns-then-list-gt-LIMIT c =
    rw c.whole.ensures at c.stay.ensures ∙ sym (ap (arrived c.args.list.now c.args.place) (step_long c.args.list.now c.args.place c.if-list-gt-LIMIT.true))

pub returns-then-list-lt4 : goal.returns-then-list-lt4
unfolding arrived place_after
returns-then-list-lt4 c =
    rw c.whole-then-list-lt4.ensures at c.stay-then-list-lt4.ensures
    ∙ sym (ap (arrived c.args.list.now c.args.place) (step_short c.args.list.now c.args.place c.if-list-gt-LIMIT.false c.if-list-lt4.true))

pub returns-then-le32_at-place : goal.returns-then-le32_at-place
returns-then-le32_at-place c =
    c.finish.ensures ∙ sym (ap (arrived c.args.list.now c.args.place) (step_end c.args.list.now c.args.place c.if-list-gt-LIMIT.false c.if-list-lt4.false (omega (arith, c.le32_at.ensures))))

-- the entry lies inside
pub overflow_add-result : goal.overflow_add-result
overflow_add-result c =
    let lies = (entry_lies c.args.list.now c.args.place.at _ _ (sym c.in-Ok.ensures)).0 in
    omega (arith, ap (λ x. x.len) lies.is, lies.high)

pub returns-in-Ok : goal.returns-in-Ok
returns-in-Ok c = step_entered _ _ c.if-list-gt-LIMIT.false c.if-list-lt4.false (omega (arith, c.le32_at.ensures)) c.in-Ok.ensures

pub returns-in-Err : goal.returns-in-Err
returns-in-Err c = c.stay-in-Err.ensures ∙ step_entered _ _ c.if-list-gt-LIMIT.false c.if-list-lt4.false (omega (arith, c.le32_at.ensures)) c.in-Err.ensures
