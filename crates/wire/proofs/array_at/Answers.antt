-- `array_at`: the part, where it has N bytes, is those bytes; else it is empty, and zeros have the same number.
use Rattle.lemmas.proofs.Basics.{ap, ◌∙◌}
use Rattle.wire.specs.Numbers.{le_of, be_of}
use Rattle.wire.proofs.Numbers.{le_or_zeros, be_or_zeros}
use Rattle.wire.proofs.array_at.Goals as goal

pub returns-clause-little : goal.returns-clause-little
returns-clause-little g c = ap le_of c.unwrap_or.ensures ∙ le_or_zeros _ _ _ _ c.try_into.result c.part.ensures.bytes c.try_into.ensures.1

pub returns-clause-big : goal.returns-clause-big
returns-clause-big g c = ap be_of c.unwrap_or.ensures ∙ be_or_zeros _ _ _ _ c.try_into.result c.part.ensures.bytes c.try_into.ensures.1
