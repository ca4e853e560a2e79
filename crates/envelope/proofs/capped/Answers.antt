-- `capped`: the fold has the sum so far, up to 65,536.
use Rattle.std.proofs.Common.{rules, ◌≡◌, ◌+◌, min, [], ◌∷◌, subst, refl, ap, ◌∙◌, arith}
use Rattle.std.specs.List.{sum_by}
use Rattle.std.proofs.lemmas.List.Sums.{sum_by-append}
use Rattle.std.proofs.lemmas.Fn.{fold_over, slice_gives, fronts}
use Rattle.envelope.proofs.capped.Goals as goal

pub returns : goal.returns
returns c =
    let told = subst (λ l. c.fold.result ≡ min (80 + sum_by (λ n. n) l) 65536) c.iter.ensures.rest
    (fold_over fronts (λ y. y.now) _ (λ ys n. n ≡ min (80 + sum_by (λ n. n) ys) 65536) _ (λ ys a x b f' j k. let more = sum_by-append (λ n. n) ys (x.now ∷ []) in search (rules, more))
    _ _ _ _ (slice_gives c.iter.result) refl c.fold.ensures.ran) in
    told ∙ ap (λ n. min n 65536) (omega arith)
