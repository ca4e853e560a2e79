use Rattle.lemmas.proofs.Basics.{◌≡◌, length, take}
use Rattle.reach.specs.Bits.{table}
use Rattle.reach.specs.Maps.{row_of}
use Rattle.reach.proofs.map.Given as goal

abbrev pub invariant-loop-l1 : goal.invariant-loop-l1
invariant-loop-l1 l = (length l.rows ≡ 32) × (take l.l1 l.rows ≡ table l.l1 (row_of l.keys l.at))
