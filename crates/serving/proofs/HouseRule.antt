-- Document 02, No. 4, of whole envelopes: what the house rule accepts and the published key rule does not is a public envelope with its key. It
-- reaches nothing and serves nothing, so that every reach and every choice is as by the published rule.
use Rattle.lemmas.proofs.Basics.{ℕ, Bool, true, false, cond, true≢false, List, ◌≡◌, refl, sym, ap, ◌∙◌, ne_eqb}
use Rattle.std.specs.Prelude.{Ok, Err}
use Rattle.lemmas.proofs.Cases.{by_cases}
use Rattle.refusal.specs.Outcome.{Outcome}
use Rattle.refusal.specs.Chain.{first_of, unless_refused}
use Rattle.gkid.specs.declared.Gkid.{Gkid}
use Rattle.gkid.proofs.Order.{not_above}
use Rattle.rootid.specs.declared.RootId.{RootId}
use Rattle.keys.specs.declared.Form.TheVariants.{Public}
use Rattle.keys.specs.Forms.{keys_of}
use Rattle.keys.specs.Published.{published_allowed}
use Rattle.keys.proofs.HouseRule.{HouseOnly, house_only}
use Rattle.reach.specs.Maps.{empty_map}
use Rattle.reach.specs.Reaches.{form_reach, reach_rows}
use Rattle.reach.proofs.FormLaws.{keyless_reach}
use Rattle.envelope.specs.Layout.{head_of, is_public, lengths_of, bodies_of}
use Rattle.envelope.specs.Reading.{envelope_checks, shown, envelope_of, envelope_number, form_of}
use Rattle.envelope.proofs.Reading.{accepted-checks, accepted-shown, passed}
use Rattle.envelope.proofs.ExactlyWhen.{accepted-keys}
use Rattle.envelope.proofs.Forms.{public_none}
use Rattle.serving.specs.Reach.{reach_of, envelope_reach}
use Rattle.serving.specs.Serving.{Serves}
use Rattle.serving.proofs.Choosing.{serves_seed}

-- An accepted public envelope reaches nothing, with its key or without, at every identifier.
pub public_reaches-nothing : (s : List ℕ) → envelope_number (envelope_of s) ≡ 0 → is_public (head_of s).flags ≡ true
    → envelope_reach s ≡ Ok (record { rows = empty_map })
unfolding reach_of form_reach keys_of shown
public_reaches-nothing s z p = rw (accepted-shown s z, public_none (shown s) p) (keyless_reach (head_of s).at ∙ rw (not_above (head_of s).at (accepted-keys s z).0))

-- whether the published rule allows an envelope's keys
abbrev pub published_keys : List ℕ → Bool
published_keys s = published_allowed (is_public (head_of s).flags) (head_of s).at (head_of s).public_length (lengths_of s).l1_key (lengths_of s).l2_key

-- An accepted envelope whose keys the published rule does not allow.
module _ (s : List ℕ) (z : envelope_number (envelope_of s) ≡ 0) (against : published_keys s ≡ false) where
  pub only : HouseOnly (is_public (head_of s).flags) (head_of s).at (head_of s).public_length (lengths_of s).l1_key (lengths_of s).l2_key
  only = house_only _ _ _ _ _ (passed s (accepted-checks s z)).keys against

  -- Its form is PUBLIC,
  pub only_public : form_of (shown s) ≡ Public
  unfolding form_of shown bodies_of
  only_public = rw (only.no_l1_key, ne_eqb _ 0 only.some_key, only.is_public_lem)

  -- and it serves nothing.
  pub only_serves_nothing : (root : RootId) (i : Gkid) → Serves s root i → ⊥
  only_serves_nothing root i serves = true≢false (sym only.is_public_lem ∙ serves_seed s root i serves)

-- The map of every envelope is as by the published rule: empty where that does not allow the keys.
pub reach_as_published : (s : List ℕ) → reach_rows (envelope_reach s) ≡ cond (published_keys s) (reach_rows (envelope_reach s)) empty_map
unfolding envelope_of envelope_number unless_refused reach_of reach_rows
reach_as_published s = by_cases (λ t. published_keys s ≡ t → reach_rows (envelope_reach s) ≡ cond t (reach_rows (envelope_reach s)) empty_map) (published_keys s) (λ _ _. refl) (λ _. told (first_of (envelope_checks s)) refl) refl
  where
    told : (o : Outcome) → first_of (envelope_checks s) ≡ o → published_keys s ≡ false → reach_rows (envelope_reach s) ≡ empty_map
    told (Ok tt) e against = let z : envelope_number (envelope_of s) ≡ 0 = rw e in ap reach_rows (public_reaches-nothing s z (only s z against).is_public_lem)
    told (Err r) e against = rw e
