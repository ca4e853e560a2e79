use Rattle.lemmas.proofs.Basics.{◌≡◌, eqb, get_or}
use Rattle.lemmas.specs.Counting.{every}
use Rattle.efskey.proofs.are_zeros.Given as goal

abbrev pub invariant-loop-byte : goal.invariant-loop-byte
invariant-loop-byte l = eqb l.any 0 ≡ every l.byte-index (λ k. eqb (get_or l.area k 0) 0)
