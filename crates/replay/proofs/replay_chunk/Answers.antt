-- `replay_chunk`: each turn writes the lines of the records that it replays.
use Rattle.std.proofs.Common.{arith}
use Rattle.replay.proofs.Pieces.{begun, used_inside, turn_state, turn_text, turn_goes_on, turn_cut}
use Rattle.replay.proofs.replay_chunk.Goals as goal

pub loop-init : goal.loop-init
loop-init g c = begun _ _ _ _ _

pub returns-in-Records-clause-text : goal.returns-in-Records-clause-text
returns-in-Records-clause-text g c =
    let p = c.replay-progress in
    turn_text _ _ _ _ _ _ _ _ c.loop.invariant c.loop.out p.result p.new.out c.part-lines.result.now p.ensures.answer p.ensures.output c.part-lines.ensures.bytes _
    c.in_ok-write.ensures.written c.in-Records.is

pub returns-in-Records-clause-state : goal.returns-in-Records-clause-state
returns-in-Records-clause-state g c =
    let p = c.replay-progress in
    turn_state _ _ _ _ _ _ _ _ c.loop.invariant c.loop.out p.result p.new.out c.part-lines.result.now p.ensures.answer c.in-Records.is

pub overflow_add-at : goal.overflow_add-at
overflow_add-at g c =
    let p = c.replay-progress in
    omega (arith, used_inside _ _ _ _ _ _ _ _ c.loop.invariant c.loop.out p.result p.new.out c.part-lines.result.now p.ensures.answer)

pub returns-in-Full-clause-cut : goal.returns-in-Full-clause-cut
returns-in-Full-clause-cut g c =
    let p = c.replay-progress in
    λ _. turn_cut _ _ _ _ _ _ _ _ c.loop.invariant c.loop.out p.result p.new.out c.part-lines.result.now p.ensures.answer p.ensures.output c.part-lines.ensures.bytes _
    c.in_ok-write.ensures.written

pub loop-preserved : goal.loop-preserved
loop-preserved g c =
    let p = c.replay-progress in
    turn_goes_on _ _ _ _ _ _ _ _ c.loop.invariant c.loop.out p.result p.new.out c.part-lines.result.now p.ensures.answer p.ensures.output c.part-lines.ensures.bytes _
    c.in_ok-write.ensures.written c.in-Room.is
