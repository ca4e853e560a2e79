-- Laws of the reach of an envelope: the map of its own seed keys; and a form's reach is that of an envelope which is written with just those keys.
use Rattle.lemmas.proofs.Basics.{ℕ, ◌≤◌, Bool, true, false, not, List, ◌≡◌, refl, sym, ap, ◌∙◌, eqb, length, le-ltb}
use Rattle.std.specs.Prelude.{Ok, Err}
use Rattle.refusal.specs.Outcome.{Outcome}
use Rattle.refusal.specs.Chain.{first_of, unless_refused}
use Rattle.refusal.proofs.Chains.{first_next, first_after, accepted-append, follows}
use Rattle.gkid.specs.declared.Gkid.{Gkid}
use Rattle.keys.specs.declared.Form.{Form}
use Rattle.keys.specs.Forms.{keys_of, seed_key_length, seed_checks}
use Rattle.keys.proofs.FormLaws.{seed_checks_lem}
use Rattle.text.specs.WellFormed as text
use Rattle.text.proofs.ExactlyWhen.{well_formed_text}
use Rattle.reach.specs.Reached.{reaches}
use Rattle.reach.specs.Reaches.{map_reach, keys_reach, form_reach, reach_rows, reached_in}
use Rattle.reach.proofs.MapLaws.{in_map_lem}
use Rattle.envelope.specs.declared.Head.{Head}
use Rattle.envelope.specs.Layout.{head_of, is_public, bodies_of}
use Rattle.envelope.specs.Reading.{envelope_checks, four_texts, body_checks, shown, envelope_of, envelope_number, form_of}
use Rattle.envelope.specs.Writing.{Given, envelope_length, envelope_bytes, write_checks}
use Rattle.envelope.proofs.Reading.{accepted-shown}
use Rattle.envelope.proofs.Writing.{Fit, is_head, are_lengths, write_checks_lem}
use Rattle.envelope.proofs.Forms.{form_keys, seed_accepted}
use Rattle.serving.specs.Reach.{reach_of, envelope_reach}

-- The reach of an accepted envelope is the map of its seed keys; so its bits are what these reach.
pub accepted_reach : (s : List ℕ) → envelope_number (envelope_of s) ≡ 0 → envelope_reach s ≡ map_reach (keys_of (form_of (shown s))) (head_of s).at
unfolding reach_of keys_reach unless_refused shown
accepted_reach s z = rw (accepted-shown s z, seed_accepted s z)

pub accepted_bits : (s : List ℕ) (i : Gkid) → envelope_number (envelope_of s) ≡ 0 → reached_in (head_of s).at (envelope_reach s) i ≡ reaches (keys_of (form_of (shown s))) (head_of s).at i
unfolding reached_in reach_rows
accepted_bits s i z = rw (accepted_reach s z) (in_map_lem (keys_of (form_of (shown s))) (head_of s).at i)

-- what is given for a seed envelope with just the keys of a form: proper texts, a fitting length, and the form's 64-byte keys
pub record Carries (form : Form) (h : Head) (g : Given) : Type 0 where
  pub seed : is_public h.flags ≡ false
  pub limit : envelope_length g ≤ 65535
  pub kdf : text.WellFormed g.kdf
  pub agreement : text.WellFormed g.agreement
  pub domain : text.WellFormed g.domain
  pub forest : text.WellFormed g.forest
  pub l1_key : length g.l1_key ≡ seed_key_length (keys_of form).l1
  pub l2_key : length g.l2_key ≡ seed_key_length (keys_of form).l2

module _ (form : Form) (h : Head) (g : Given) (fit : Fit h) (c : Carries form h g) where
  abbrev written : List ℕ
  written = envelope_bytes h g

  -- its checks come to the form's
  same-checks : first_of (envelope_checks written) ≡ first_of (seed_checks (keys_of form) h.at)
  unfolding write_checks seed_checks body_checks four_texts
  same-checks =
      let texts = accepted-append _ _ (accepted-append _ _ (accepted-append _ _ (well_formed_text _ c.kdf) (well_formed_text _ c.agreement)) (well_formed_text _ c.domain)) (well_formed_text _ c.forest) in
      write_checks_lem h g fit ∙ first_next _ _ _ (le-ltb 65535 _ c.limit)
      ∙ first_after _ _ _ _ (λ _. sym (follows (four_texts g.kdf g.agreement g.domain g.forest) _ refl texts (rw (c.seed, c.l1_key, c.l2_key) (ap first_of (seed_checks_lem h.at 0 h.public_length _ _)))))

  -- its seed keys are the form's
  same_keys : keys_of (form_of (shown written)) ≡ keys_of form
  unfolding shown bodies_of
  same_keys =
      rw (form_keys (shown written), is_head h g fit c.limit, are_lengths h g fit c.limit, c.seed, c.l1_key, c.l2_key)
      (λ i. record { l1 = there (keys_of form).l1 i; l2 = there (keys_of form).l2 i })
    where
      there : (present : Bool) → not (eqb (seed_key_length present) 0) ≡ present
      there true = refl
      there false = refl

  -- The reach of the envelope written is the form's reach, refusals 5 and 11 included.
  pub form_envelope : envelope_reach written ≡ form_reach form h.at
  unfolding envelope_of reach_of form_reach unless_refused keys_reach shown
  form_envelope = rw same-checks (told (first_of (seed_checks (keys_of form) h.at)) refl)
    where
      told : (o : Outcome) → first_of (seed_checks (keys_of form) h.at) ≡ o → reach_of (unless_refused Err o (Ok (shown written))) ≡ form_reach form h.at
      told (Ok tt) e = rw (same_keys, is_head h g fit c.limit)
      told (Err r) e = rw e
