-- Document 01, "Key List Entry and list": the end or the refusal, and that again if asked again, as C asks it.
use Rattle.lemmas.proofs.Basics.{ℕ, List, ◌≡◌, ap}
use Rattle.keylist.specs.declared.Place.{Place}
use Rattle.keylist.specs.Stepping.{arrived, advance_of}
use Rattle.keylist.proofs.Walking as walk
use Rattle.face_entries.specs.Lists.{found_code, step_answer}

-- the place to go on at, as an answer gives it
abbrev pub goes_on_at : List ℕ → Place → Place
goes_on_at s p = record { at = (step_answer (advance_of s p)).next_at; index = (step_answer (advance_of s p)).next_index }

-- Where the answer shows no entry, the one at the place that it gives is that again.
pub again : (s : List ℕ) (p : Place) → ((step_answer (advance_of s p)).found ≡ 1 → ⊥) → step_answer (advance_of s (goes_on_at s p)) ≡ step_answer (advance_of s p)
unfolding step_answer found_code arrived
again s p final = ap step_answer (walk.again s p (λ f e. final (ap found_code e)))
