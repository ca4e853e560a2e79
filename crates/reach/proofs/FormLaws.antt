-- Laws of the reach of a form: a refusal reaches nothing, and nor does a form with no seed key.
use Rattle.lemmas.proofs.Basics.{Bool, true, false, cond, ◌≡◌, refl}
use Rattle.std.specs.Prelude.{Result, Ok, Err}
use Rattle.refusal.specs.declared.Refusal.{Refusal}
use Rattle.refusal.specs.declared.Refusal.TheVariants.{IndexAbove31}
use Rattle.refusal.specs.Number.{number_of}
use Rattle.refusal.specs.Chain.{first_of, unless_refused}
use Rattle.gkid.specs.declared.Gkid.{Gkid}
use Rattle.gkid.specs.Identifier.{index_above_31}
use Rattle.keys.specs.declared.Form.{Form}
use Rattle.keys.specs.declared.Form.TheVariants.{Keyless, Public}
use Rattle.keys.specs.Forms.{keys_of}
use Rattle.keys.specs.Published.{published_seed_checks}
use Rattle.keys.proofs.FormLaws.{keyless_checks}
use Rattle.keys.proofs.HouseRule.{forms_as_published}
use Rattle.reach.specs.declared.Reach.{Reach}
use Rattle.reach.specs.Reached.{reaches}
use Rattle.lemmas.specs.Counting.{bit, count}
use Rattle.reach.specs.Bits.{row_where, table, bit_at}
use Rattle.reach.specs.Maps.{row_of, map_of, empty_map, total_of}
use Rattle.reach.specs.Reaches.{map_reach, keys_reach, form_reach, reach_number, reach_rows, reach_total}

-- A refusal has its own number, reaches nothing, and its total is 0.
pub refused_nothing : (reach : Result Reach Refusal) (r : Refusal) → reach ≡ Err r → (reach_number reach ≡ number_of r) × (reach_rows reach ≡ empty_map)
unfolding reach_number reach_rows
refused_nothing reach r e = rw e (refl, refl)

pub refused_total : (r : Refusal) → reach_total (Err r) ≡ 0
unfolding reach_total reach_rows total_of empty_map count bit_at bit
refused_total r = refl

-- A form's reach is that by the published key rule too, 5 and 11 included: the house rule changes none.
pub form_as_published : (form : Form) (at : Gkid) → form_reach form at ≡ unless_refused Err (first_of (published_seed_checks (keys_of form) at)) (map_reach (keys_of form) at)
unfolding form_reach keys_reach
form_as_published form at = rw (forms_as_published (keys_of form) at)

-- Keyless and PUBLIC: 5 where an index is above 31, never 11, and an empty map.
pub keyless_reach : (at : Gkid) → form_reach Keyless at ≡ cond (index_above_31 at) (Err IndexAbove31) (Ok (record { rows = empty_map }))
unfolding form_reach unless_refused keys_reach keys_of map_of table row_of row_where bit reaches empty_map
keyless_reach at = rw (keyless_checks at) (either (index_above_31 at))
  where
    either : (b : Bool) → unless_refused Err (cond b (Err IndexAbove31) (Ok tt)) (map_reach (keys_of Keyless) at) ≡ cond b (Err IndexAbove31) (Ok (record { rows = empty_map }))
    either true = refl
    either false = refl

pub public_reach : (at : Gkid) → form_reach Public at ≡ form_reach Keyless at
unfolding form_reach keys_of
public_reach at = refl
