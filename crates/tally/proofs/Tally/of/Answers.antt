-- `Tally::of`: accepted or refused, and the clock as the ends.
use Rattle.lemmas.proofs.Basics.{rules}
use Rattle.lemmas.specs.Counting.{bit}
use Rattle.tally.specs.Totals.{accepted_in, refused_in, with_clock, clocks_in, ends_of, last_behind, earlier_in, earlier_behind, tally_of}
use Rattle.tally.proofs.Tally.of.Goals as goal

pub returns : goal.returns
unfolding tally_of accepted_in refused_in with_clock clocks_in ends_of last_behind earlier_in earlier_behind bit
returns c = search rules
