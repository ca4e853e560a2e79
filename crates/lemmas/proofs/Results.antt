-- The exit of a `?`: what a function answers there is the error that its callee answered.
use Rattle.std.specs.Prelude.{Result, Err, IsErrAnd}
use Rattle.std.proofs.lemmas.Result.{err_from_is_err_and}
use Rattle.lemmas.proofs.Basics.{◌≡◌, ap, ◌∙◌}

pub passed_on : {T E : Type 0} {r : Result T E} {e : E} → IsErrAnd r (λ y. y ≡ e) → r ≡ Err e
passed_on {r = r} h = let p = err_from_is_err_and r h in p.1 ∙ ap Err p.2
