-- Document 01, "Reach, and the two envelopes", as C has its answers.
use Rattle.std.specs.Prelude.{ℕ, Result, Ok, Err}
use Rattle.refusal.specs.declared.Refusal.{Refusal}
use Rattle.reach.specs.declared.Reach.{Reach}
use Rattle.reach.specs.Reaches.{reach_number, reach_rows, reach_total}
use Rattle.serving.specs.declared.SeedKey.{SeedKey}
use Rattle.serving.specs.declared.SeedKey.TheVariants.{L1, L2}
use Rattle.serving.specs.declared.Choice.{Choice}
use Rattle.serving.specs.declared.Choice.TheVariants.{Cached, Fetched}
use Rattle.serving.specs.Choice.{choice_number, choice_span}
use Rattle.face.specs.Shapes.{part_shown}
use Rattle.face_choices.specs.declared.ReachAnswer.{ReachAnswer}
use Rattle.face_choices.specs.declared.ChoiceAnswer.{ChoiceAnswer}

-- the number, the map and the number of its set bits
unfoldable pub reach_answer : Result Reach Refusal → ReachAnswer
reach_answer r = record { refusal = reach_number r; total = reach_total r; rows = reach_rows r }

unfoldable pub key_code : SeedKey → ℕ
key_code L1 = 1
key_code L2 = 2

-- 1 for the cached envelope, 2 for the fetched one, 0 where neither serves
unfoldable pub which_code : Result Choice Refusal → ℕ
which_code (Ok (Cached serving)) = 1
which_code (Ok (Fetched serving)) = 2
which_code (Err r) = 0

-- the key by which it serves, 0 where neither does
unfoldable pub chosen_key_code : Result Choice Refusal → ℕ
chosen_key_code (Ok (Cached serving)) = key_code serving.key
chosen_key_code (Ok (Fetched serving)) = key_code serving.key
chosen_key_code (Err r) = 0

unfoldable pub choice_answer : Result Choice Refusal → ChoiceAnswer
choice_answer c = record { refusal = choice_number c; which = which_code c; key = chosen_key_code c; reserved = 0; place = part_shown (choice_span c) }
