-- `replay_chunk`: the first records of the chunk were replayed, and their lines written.
use Rattle.replay.proofs.Pieces.{Replaying}
use Rattle.replay.proofs.replay_chunk.Given as goal

abbrev pub invariant-loop : goal.invariant-loop
invariant-loop g l =
    Replaying l.table l.chunk l.ends l.initial.present (g.W.Write.contents l.initial.to) (g.W.Write.contents l.to) l.at l.present
