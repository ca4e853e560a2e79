-- Demand 3, waiting loses nothing, by one theorem. One descriptor, or one verdict on it, one request and one root table are put to the decision
-- twice, the second time with a clock reading no lower and with rights no lower. Nothing else is assumed.
use Rattle.lemmas.proofs.Basics.{ℕ, ◌≤◌, arith, Bool, true, false, true≢false, not, ◌&&◌, List, ◌≡◌, refl, sym, ◌∙◌, not-true}
use Rattle.std.specs.Prelude.{Result, Ok, Err, Option, Some, None}
use Rattle.rootid.specs.declared.RootId.{RootId}
use Rattle.refusal.specs.declared.Refusal.{Refusal}
use Rattle.refusal.specs.declared.Refusal.TheVariants.{NoRootKey}
use Rattle.refusal.specs.Number.{outcome_number}
use Rattle.lemmas.proofs.Cases.{both_true}
use Rattle.refusal.proofs.Numbers.{number_not-zero}
use Rattle.gkid.specs.declared.FileTime.{FileTime}
use Rattle.gkid.specs.declared.Gkid.{Gkid}
use Rattle.gkid.specs.Identifier.{later}
use Rattle.gkid.specs.Conversion.{gkid_at}
use Rattle.gkid.proofs.Order.{later_transitive}
use Rattle.gkid.proofs.Times.{reading_in_group, reading_monotone}
use Rattle.descriptor.specs.Checking.{is_sound}
use Rattle.keys.specs.declared.Form.{Form}
use Rattle.keys.specs.Forms.{seed_form}
use Rattle.reach.specs.Reached.{of_group}
use Rattle.reach.specs.Reaches.{reach_number}
use Rattle.reach.proofs.ReachLaws.{is_group}
use Rattle.reach.proofs.SeedLaws.{seed_accepted, seed_bits, seed_total}
use Rattle.getkey.specs.declared.Rights.{Rights}
use Rattle.getkey.specs.declared.Rights.TheVariants as rights
use Rattle.request.specs.declared.Request.{Request}
use Rattle.request.specs.Indices.{later_than_now, names, named_of}
use Rattle.getkey.specs.Deciding.{rights_too_low, granted_at, form_for, without_row, with_row, granting, decision, decision_by_verdict, answer_number, answer_at, answer_form, answer_row, answer_creates}
use Rattle.getkey.specs.Waiting.{height, NoLower, Asking, Accepted, NoWorse, reached_by, ReachesUpTo, by_descriptor, by_verdict, LosesNothing}
use Rattle.request.proofs.Requests.{asked_of, Asks, latest, named, asks}
use Rattle.getkey.proofs.Decisions.{passed_decided, accepted_decided}
use Rattle.getkey.proofs.Granting.{Group, granted_group, granted_later}

-- the same row or none: the same answer but for identifier and form
with_row_lem : (f : Result (Option ℕ) Refusal) (root : Option RootId) (asked : Option Gkid) (at at' : Gkid) (form form' : Form) → later at at' ≡ false → Accepted (with_row f root asked at form)
    → NoWorse (with_row f root asked at form) (with_row f root asked at' form')
unfolding with_row without_row answer_number answer_row answer_creates answer_at
with_row_lem (Ok (Some k)) root asked at at' form form' l e = record { accepted = refl; row = refl; create = refl; not_earlier = l }
with_row_lem (Err r) root asked at at' form form' l e = absurd (number_not-zero r e)
with_row_lem (Ok None) None None at at' form form' l e = record { accepted = refl; row = refl; create = refl; not_earlier = l }
with_row_lem (Ok None) None (Some i) at at' form form' l e = absurd (number_not-zero NoRootKey e)
with_row_lem (Ok None) (Some id) asked at at' form form' l e = absurd (number_not-zero NoRootKey e)

-- what an accepted answer shows
shows : (f : Result (Option ℕ) Refusal) (root : Option RootId) (asked : Option Gkid) (at : Gkid) (form : Form) → Accepted (with_row f root asked at form)
    → (answer_at (with_row f root asked at form) ≡ at) × (answer_form (with_row f root asked at form) ≡ form)
unfolding with_row without_row answer_number answer_at answer_form
shows (Ok (Some k)) root asked at form e = (refl, refl)
shows (Err r) root asked at form e = absurd (number_not-zero r e)
shows (Ok None) None None at form e = (refl, refl)
shows (Ok None) None (Some i) at form e = absurd (number_not-zero NoRootKey e)
shows (Ok None) (Some id) asked at form e = absurd (number_not-zero NoRootKey e)

no_lower : (r r' : Rights) (n : Bool) → NoLower r r' → rights_too_low r n ≡ false → rights_too_low r' n ≡ false
unfolding height rights_too_low
no_lower rights.None r' n h e = absurd (true≢false e)
no_lower rights.Public rights.None n h e = absurd (omega arith)
no_lower rights.Public rights.Public n h e = e
no_lower rights.Public rights.Seed n h e = refl
no_lower rights.Seed rights.None n h e = absurd (omega arith)
no_lower rights.Seed rights.Public n h e = absurd (omega arith)
no_lower rights.Seed rights.Seed n h e = refl

-- where an identifier is named, rights that are not too low are seed rights
seed_only : (r : Rights) (at : Gkid) → rights_too_low r true ≡ false → form_for r at ≡ seed_form at
unfolding rights_too_low form_for
seed_only rights.None at e = absurd (true≢false e)
seed_only rights.Public at e = absurd (true≢false e)
seed_only rights.Seed at e = refl

module _ (verdict : Bool) (q : Request) (table : List ℕ) where
  -- what is granted at a reading
  at_reading : FileTime → Gkid
  at_reading t = granted_at (asked_of q) q.root (gkid_at t)

  -- not later than now at the first reading: nor at the second, and no earlier identifier is granted there
  waited : (t t' : FileTime) → t.0 ≤ t'.0 → Asks q → later_than_now q (gkid_at t) ≡ false
      → (later_than_now q (gkid_at t') ≡ false) × (later (at_reading t) (at_reading t') ≡ false)
  unfolding granted_at at_reading
  waited t t' h (latest e l) not-later = (l (gkid_at t'), rw e (reading_monotone t t' h))
  waited t t' h (named e g l) not-later =
      let up_to_lem = sym (l (gkid_at t)) ∙ not-later in
      let clock = reading_monotone t t' h in (
        l (gkid_at t') ∙ later_transitive (named_of q) (gkid_at t) (gkid_at t') up_to_lem clock,
        rw e (granted_later q.root (named_of q) (gkid_at t) (gkid_at t') g (reading_in_group t) (reading_in_group t') up_to_lem clock),
      )

  asked_again : (t t' : FileTime) (r r' : Rights) → t.0 ≤ t'.0 → NoLower r r' → Accepted (decision_by_verdict verdict r q t table)
      → NoWorse (decision_by_verdict verdict r q t table) (decision_by_verdict verdict r' q t' table)
  unfolding granting at_reading
  asked_again t t' r r' h higher e =
      let first = accepted_decided verdict r q t table e in
      let p = first.checked in
      let w = waited t t' h (asks q p.ranged p.unmixed) p.not-later in
      let second = passed_decided verdict r' q t' table (record { verdict_yes = p.verdict_yes; ranged = p.ranged; unmixed = p.unmixed; not-later = w.0; allowed = no_lower r r' (names q) higher p.allowed }) in
      rw (first.is, second.is) (with_row_lem _ q.root (asked_of q) (at_reading t) (at_reading t') _ _ w.1 (rw first.is at e))

  -- an accepted answer to a request that names an identifier: of its L0 group, not before it, and in the seed form
  named_answer : (r : Rights) (t : FileTime) → names q ≡ true → Accepted (decision_by_verdict verdict r q t table)
      → Group (named_of q) (answer_at (decision_by_verdict verdict r q t table)) × (answer_form (decision_by_verdict verdict r q t table) ≡ seed_form (answer_at (decision_by_verdict verdict r q t table)))
  unfolding granting
  named_answer r t one e =
      let d = accepted_decided verdict r q t table e in
      let p = d.checked in
      let i = named_of q in
      let at = granted_at (Some i) q.root (gkid_at t) in
      let allowed : rights_too_low r true ≡ false = rw one at p.allowed in
      let s = shows _ q.root (Some i) at (form_for r at) (rw (d.is, one) at e) in
      rw (d.is, one, s.0, s.1, seed_only r at allowed) (of (asks q p.ranged p.unmixed) p.not-later, refl)
    where
      of : Asks q → later_than_now q (gkid_at t) ≡ false → Group (named_of q) (granted_at (Some (named_of q)) q.root (gkid_at t))
      of (latest none l) not-later = absurd (true≢false (sym one ∙ none))
      of (named _ g l) not-later = granted_group q.root (named_of q) (gkid_at t) g (reading_in_group t) (sym (l (gkid_at t)) ∙ not-later)

  reaches_up_to : (a : Asking) → names q ≡ true → Accepted (by_verdict verdict q table a) → ReachesUpTo (named_of q) (by_verdict verdict q table a)
  unfolding reached_by reach_number outcome_number of_group
  reaches_up_to a one e =
      let n = named_answer a.rights a.clock one e in
      let at = answer_at (by_verdict verdict q table a) in
      let g = n.0.within in
      let reached : (i : Gkid) → reached_by (by_verdict verdict q table a) i ≡ of_group (named_of q) i && not (later i at) = λ i. rw (n.1, ← n.0.same) (seed_bits at i g) in
      record {
        group = n.0.same;
        accepted = rw (n.1, seed_accepted at g);
        reached = reached;
        total = rw n.1 (seed_total at g);
        itself = reached (named_of q) ∙ rw (is_group (named_of q) (named_of q) refl n.0.own, n.0.after);
      }

  -- Demand 3, for any two askings, the second with no lower clock and no lower rights: by verdict,
  pub waiting_by_verdict : (first second : Asking) → first.clock.0 ≤ second.clock.0 → NoLower first.rights second.rights → LosesNothing q (by_verdict verdict q table) first second
  waiting_by_verdict first second clock higher =
      let again = asked_again first.clock second.clock first.rights second.rights clock higher in
      record {
        again = again;
        whenever = reaches_up_to;
        still = λ one e i reached.
            let was = both_true (of_group (named_of q) i) _ (sym ((reaches_up_to first one e).reached i) ∙ reached) in
            (reaches_up_to second one (again e).accepted).reached i ∙ rw (was.0, later_transitive i _ _ (not-true _ was.1) (again e).not_earlier);
      }

-- and by descriptor.
pub waiting_loses_nothing : (descriptor : List ℕ) (q : Request) (table : List ℕ) (first second : Asking) → first.clock.0 ≤ second.clock.0 → NoLower first.rights second.rights
    → LosesNothing q (by_descriptor descriptor q table) first second
unfolding decision
waiting_loses_nothing descriptor q table = waiting_by_verdict (is_sound descriptor) q table
