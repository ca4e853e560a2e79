-- `replay`: what is replayed so far and what is left give the whole.
use Rattle.lemmas.proofs.Basics.{arith, sym, ◌∙◌, rules}
use Rattle.report.proofs.Looping.{replaying_start, replaying_again, text_inside, no_record, no_room, no_count}
use Rattle.report.proofs.replay.Goals as goal

pub loop-record-init : goal.loop-record-init
loop-record-init c =
    rw c.into_iter-record-iterator.ensures.into_iter_gives
    (replaying_start _ _ _ _ _ _ _ c.chunks-record-items.ensures.size (c.chunks-record-items.ensures.rest ∙ c.recorded.ensures))

pub overflow_sub-text : goal.overflow_sub-text
overflow_sub-text c = text_inside c.loop-record.invariant

pub loop-record-preserved : goal.loop-record-preserved
loop-record-preserved c =
    replaying_again c.loop-record.invariant c.in-Some.record c.next.new.self c.in-Some.ensures.steps (omega arith) (sym c.step.ensures ∙ c.in-Some-step.is) c.put_line.ensures

pub returns-then-text-lt-LINE : goal.returns-then-text-lt-LINE
returns-then-text-lt-LINE c =
    let told = no_room c.loop-record.invariant c.in-Some.record c.next.new.self c.in-Some.ensures.steps (omega arith) in
    record { answer = told.answer; output = search (rules, told.output) }

pub returns-in_default : goal.returns-in_default
returns-in_default c =
    let told = no_count c.loop-record.invariant c.in-Some.record c.next.new.self c.in-Some.ensures.steps (omega arith) (sym c.step.ensures ∙ c.in_default.is) in
    record { answer = told.answer; output = search (rules, told.output) }

pub returns : goal.returns
returns c =
    let told = no_record c.loop-record.invariant _ c.in-None.ensures.steps in
    record { answer = told.answer; output = search (rules, told.output) }
