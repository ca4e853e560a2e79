use Rattle.lemmas.proofs.Basics.{◌*◌, ◌≤◌, ◌≡◌, take}
use Rattle.reach.specs.Maps.{total_of}
use Rattle.reach.proofs.Reach.total.Given as goal

abbrev pub invariant-loop-row : goal.invariant-loop-row
invariant-loop-row l = (l.total ≡ total_of (take l.row-index l.fn.self.rows)) × (l.total ≤ 32 * l.row-index)
