-- Behind a `map_err`: where it gave a value, so did what it was asked of, and the same one.
use Rattle.std.specs.Prelude.{Result, Ok, Err, IsErrAnd, IfOk, MatchResult}
use Rattle.lemmas.proofs.Basics.{◌≡◌, refl, sym, ap, subst, ◌∙◌}

pub mapped_from : {T E D : Type 0} (r : Result T E) (s : Result T D) {x : T} (Q : E → D → Type 0) → MatchResult r (λ y. s ≡ Ok y) (λ e. IsErrAnd s (Q e)) → s ≡ Ok x → r ≡ Ok x
mapped_from (Ok y) s Q h p = ap Ok (subst (λ q. IfOk q (λ z. y ≡ z)) (sym h ∙ p) refl)
mapped_from (Err e) s Q h p = absurd (subst (λ q. IsErrAnd q (Q e)) p h)
