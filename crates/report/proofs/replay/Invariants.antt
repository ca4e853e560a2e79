use Rattle.line.specs.Text.{buffer}
use Rattle.report.proofs.Looping.{Replaying}
use Rattle.report.proofs.replay.Given as goal

abbrev pub invariant-loop-record : goal.invariant-loop-record
invariant-loop-record l =
    let lent = l.initial.text.bytes in
    let out = buffer l.text.bytes.ghost_name l.text.bytes.now l.text.len in
    Replaying l.table l.chunk lent.ghost_name lent.now l.ends l.initial.progress.state out l.record-iterator l.progress
