-- Document 01, "Refusal numbers": what a chain of checks comes to.
use Rattle.std.specs.Prelude.{Result}
use Rattle.refusal.specs.declared.Refusal.{Refusal}

-- accepted, or the refusal
abbrev pub Outcome : Type 0
Outcome = Result (Unit {0}) Refusal
