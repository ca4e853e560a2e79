-- Document 01, "Reach, and the two envelopes": what is reached, by keys that are present or by a form.
use Rattle.std.specs.Prelude.{ℕ, Bool, List, Result, Ok, Err}
use Rattle.refusal.specs.declared.Refusal.{Refusal}
use Rattle.refusal.specs.Chain.{first_of, unless_refused}
use Rattle.refusal.specs.Number.{number_of}
use Rattle.gkid.specs.declared.Gkid.{Gkid}
use Rattle.keys.specs.declared.Form.{Form}
use Rattle.keys.specs.declared.SeedKeys.{SeedKeys}
use Rattle.keys.specs.Forms.{keys_of, seed_checks}
use Rattle.reach.specs.declared.Reach.{Reach}
use Rattle.reach.specs.Maps.{map_of, empty_map, in_map, total_of}

-- what keys reach from an identifier, whatever its indices: the map
abbrev pub map_reach : SeedKeys → Gkid → Result Reach Refusal
map_reach keys at = Ok (record { rows = map_of keys at })

-- the reach of a seed envelope at an identifier with just these keys; refused 5, then 11, where such an envelope would be
unfoldable pub keys_reach : SeedKeys → Gkid → Result Reach Refusal
keys_reach keys at = unless_refused Err (first_of (seed_checks keys at)) (map_reach keys at)

-- a form's reach is that of a seed envelope with just those keys; PUBLIC and keyless are the envelope with no seed key
unfoldable pub form_reach : Form → Gkid → Result Reach Refusal
form_reach form at = keys_reach (keys_of form) at

-- document 01's number: 0 where accepted
unfoldable pub reach_number : Result Reach Refusal → ℕ
reach_number (Ok reach) = 0
reach_number (Err r) = number_of r

-- the map, and its total; a refusal has zeros in place of the rows
unfoldable pub reach_rows : Result Reach Refusal → List ℕ
reach_rows (Ok reach) = reach.rows
reach_rows (Err r) = empty_map

unfoldable pub reach_total : Result Reach Refusal → ℕ
reach_total r = total_of (reach_rows r)

-- an identifier is reached if it is of the L0 group of the one asked at, and the bit in row L1 at index L2 is set
unfoldable pub reached_in : Gkid → Result Reach Refusal → Gkid → Bool
reached_in at r i = in_map at (reach_rows r) i
