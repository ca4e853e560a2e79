-- `kept`: the rest of each is compared, and `==` tells whether the bytes are the same.
use Rattle.std.proofs.Common.{sym, ◌∙◌}
use Rattle.std.proofs.lemmas.Bool.Decides.{Decides-eqb}
use Rattle.std.proofs.lemmas.Slice.Eq.{slice_eq-Decides}
use Rattle.cases.specs.Comparing.{kept_word}
use Rattle.cases.proofs.Comparing.{same_is}
use Rattle.cases.proofs.kept.Goals as goal

pub returns-then-eq : goal.returns-then-eq
unfolding kept_word
returns-then-eq g c =
    rw (sym c.rest-2.ensures, sym c.rest.ensures, same_is c.rest.result.now c.rest-2.result.now c.eq.result (slice_eq-Decides Decides-eqb _ _ _ c.eq.ensures) ∙ c.if-eq.true) c.text.ensures

pub returns-else-eq : goal.returns-else-eq
unfolding kept_word
returns-else-eq g c =
    rw (sym c.rest-2.ensures, sym c.rest.ensures, same_is c.rest.result.now c.rest-2.result.now c.eq.result (slice_eq-Decides Decides-eqb _ _ _ c.eq.ensures) ∙ c.if-eq.false) c.text-else-eq.ensures
