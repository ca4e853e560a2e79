use Rattle.lemmas.proofs.Basics.{◌-◌, ◌≤◌, ◌≡◌}
use Rattle.keylist.specs.Reading.{count_of, entries_from, list_of}
use Rattle.keylist.proofs.judge.Given as goal

abbrev pub invariant-loop-index : goal.invariant-loop-index
invariant-loop-index l = (l.index ≤ count_of l.list) × (entries_from (count_of l.list - l.index) l.list l.at l.index ≡ list_of l.list)
