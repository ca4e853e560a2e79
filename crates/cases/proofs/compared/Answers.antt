-- `compared`: `==` tells whether the bytes are the same.
use Rattle.std.proofs.Common.{◌∙◌}
use Rattle.std.proofs.lemmas.Bool.Decides.{Decides-eqb}
use Rattle.std.proofs.lemmas.Slice.Eq.{slice_eq-Decides}
use Rattle.cases.specs.Comparing.{compared_word}
use Rattle.cases.proofs.Comparing.{same_is}
use Rattle.cases.proofs.compared.Goals as goal

pub returns-then-eq : goal.returns-then-eq
unfolding compared_word
returns-then-eq g c = rw (same_is c.args.a.now c.args.b.now c.eq.result (slice_eq-Decides Decides-eqb _ _ _ c.eq.ensures) ∙ c.if-eq.true) c.text.ensures

pub returns-else-eq : goal.returns-else-eq
unfolding compared_word
returns-else-eq g c = rw (same_is c.args.a.now c.args.b.now c.eq.result (slice_eq-Decides Decides-eqb _ _ _ c.eq.ensures) ∙ c.if-eq.false) c.text-else-eq.ensures
