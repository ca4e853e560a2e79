-- `reach_total`: the total of the reach that was told, and 0 of a refusal.
use Rattle.lemmas.proofs.Basics.{ℕ, ◌≡◌, ◌∙◌, sym}
use Rattle.std.specs.Prelude.{Result, Ok, Err, MatchResult}
use Rattle.refusal.specs.declared.Refusal.{Refusal}
use Rattle.reach.specs.declared.Reach.{Reach}
use Rattle.reach.specs.Maps.{total_of}
use Rattle.reach.specs.Reaches.{reach_rows, reach_total}
use Rattle.reach.proofs.FormLaws.{refused_total}
use Rattle.envline.proofs.reach_total.Goals as goal

told : (r : Result Reach Refusal) {s : Result Reach Refusal} {n : ℕ} → r ≡ s → MatchResult r (λ reach. n ≡ total_of reach.rows) (λ _. n ≡ 0) → n ≡ reach_total s
unfolding reach_total reach_rows
told (Ok reach) p h = rw (sym p) h
told (Err refusal) p h = rw (sym p) (h ∙ sym (refused_total refusal))

pub returns : goal.returns
returns c = told c.form_reach.result c.form_reach.ensures c.map_or.ensures
