-- `replay_trace`: the first records of the trace were read and replayed, and their lines written.
use Rattle.replay.proofs.Whole.{Reading}
use Rattle.replay.proofs.replay_trace.Given as goal

abbrev pub invariant-loop : goal.invariant-loop
invariant-loop g l =
    Reading l.table (g.R.Read.remaining l.initial.from) (g.R.Read.remaining l.from) (g.W.Write.contents l.initial.to) (g.W.Write.contents l.to) l.state
