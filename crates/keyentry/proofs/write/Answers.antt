-- `write`: the judge's refusal, 13, or the entry's length and the entry put.
use Rattle.lemmas.proofs.Basics.{◌≤◌, arith, refl, sym}
use Rattle.lemmas.proofs.Results.{passed_on}
use Rattle.records.specs.Writing.{output_of}
use Rattle.records.proofs.Laws.{refuses, lacks_room, writes}
use Rattle.keyentry.specs.Writing.{entry_length}
use Rattle.keyentry.proofs.Writing.{within_limit}
use Rattle.keyentry.proofs.write.Goals as goal

pub returns-in_err-judge_given : goal.returns-in_err-judge_given
unfolding output_of
returns-in_err-judge_given c = rw (passed_on c.from_residual.ensures.1) (record { answer = refuses _ _ (c.in_err-judge_given.ensures _) refl; output = refl })

-- what was judged accepted is within the limit
pub overflow_add-len-2 : goal.overflow_add-len-2
overflow_add-len-2 c = omega (arith, within_limit 0 _ _ (sym (c.in_ok-judge_given.ensures 0)))

pub returns-then-out-len : goal.returns-then-out-len
unfolding output_of
returns-then-out-len c = record { answer = lacks_room _ _ (c.in_ok-judge_given.ensures _) refl c.if-out-len.true; output = refl }

pub put-requires : goal.put-requires
put-requires c =
    let fits : entry_length c.args.item.now c.args.fek.now ≤ 65535 = within_limit 0 _ _ (sym (c.in_ok-judge_given.ensures 0)) in
    (fits, c.if-out-len.false)

pub returns : goal.returns
unfolding output_of
returns c = record { answer = writes _ _ (c.in_ok-judge_given.ensures _) refl c.if-out-len.false; output = c.put.ensures }
