-- A descriptor is sound exactly when it is well formed.
use Rattle.lemmas.proofs.Basics.{ℕ, ◌+◌, ◌-◌, ◌≤◌, arith, Bool, true, false, not, cond, ◌&&◌, List, ◌≡◌, refl, sym, ◌∙◌, leb, eqb, length, drop, length-drop, length-take-le, le-leb, leb-true, eq-eqb, eqb-true, ⊎_elim}
use Rattle.std.specs.Prelude.{Ok, Err}
use Rattle.lemmas.specs.Beginning.{Begins}
use Rattle.lemmas.proofs.Cases.{both_true, true-and, or-true, true-or}
use Rattle.wire.proofs.Parts.{part_in}
use Rattle.sid.specs.Rule.{starts_sid}
use Rattle.sid.specs.WellFormed as sid
use Rattle.sid.proofs.ExactlyWhen.{starts_begins, begins_starts}
use Rattle.descriptor.specs.declared.Part.TheVariants.{Head, Owner, Group, Sacl, Dacl}
use Rattle.descriptor.specs.Layout.{revision, owner_at, group_at, sacl_at, dacl_at}
use Rattle.descriptor.specs.Checking.{starts_acl, names, head_sound, finding_of, finding_number, is_sound}
use Rattle.descriptor.specs.WellFormed.{Acl, Names, nothing, something, WellFormed}
use Rattle.descriptor.proofs.Items.{acl_begins, begins_acl}

-- an offset, for both kinds of items
module _ {starts : List ℕ → Bool} {Item : List ℕ → Type 0} where
  named : ((t : List ℕ) → starts t ≡ true → Begins Item t) → ((t : List ℕ) → Item t → 1 ≤ length t) → (s : List ℕ) (at : ℕ) → names starts s at ≡ true → Names Item s at
  unfolding names
  named begins some s at e =
      ⊎_elim (λ z. nothing (eqb-true at 0 z))
      (λ there.
      let both = both_true (leb 20 at) _ there in
      let b = begins (drop at s) both.1 in
      let long : b.size ≤ length s - at = rw (← length-drop) b.inside in
      let own : 1 ≤ b.size = rw (length-take-le b.size (drop at s) b.inside) at (some _ b.item) in
      let inside : at + b.size ≤ length s = omega arith in
      something b.size (leb-true 20 at both.0) inside (rw (part_in s at b.size inside) b.item))
      (or-true (eqb at 0) _ e)

  names_so : ((t : List ℕ) → Begins Item t → starts t ≡ true) → (s : List ℕ) (at : ℕ) → Names Item s at → names starts s at ≡ true
  unfolding names
  names_so begun s at (nothing z) = rw (eq-eqb at 0 z)
  names_so begun s at (something size low inside item) =
      let behind : size ≤ length (drop at s) = rw length-drop (omega arith) in
      true-or (eqb at 0) (true-and (le-leb 20 at low) (begun (drop at s) (record { size = size; inside = behind; item = rw (← part_in s at size inside) item })))

-- neither kind of item is empty
some_sid : (t : List ℕ) → sid.WellFormed t → 1 ≤ length t
some_sid t w = omega (arith, w.size)

some_acl : (t : List ℕ) → Acl t → 1 ≤ length t
some_acl t w = omega (arith, w.sized.head)

-- sound is that no part fails
no_part : (head owner group sacl dacl : Bool)
    → eqb (finding_number (cond (not head) (Err Head) (cond (not owner) (Err Owner) (cond (not group) (Err Group) (cond (not sacl) (Err Sacl) (cond (not dacl) (Err Dacl) (Ok tt))))))) 0 ≡ head && (owner && (group && (sacl && dacl)))
unfolding finding_number
no_part false owner group sacl dacl = refl
no_part true false group sacl dacl = refl
no_part true true false sacl dacl = refl
no_part true true true false dacl = refl
no_part true true true true false = refl
no_part true true true true true = refl

sound_is : (s : List ℕ) → is_sound s ≡ head_sound s && (names starts_sid s (owner_at s) && (names starts_sid s (group_at s) && (names starts_acl s (sacl_at s) && names starts_acl s (dacl_at s))))
unfolding is_sound finding_of
sound_is s = no_part (head_sound s) (names starts_sid s (owner_at s)) (names starts_sid s (group_at s)) (names starts_acl s (sacl_at s)) (names starts_acl s (dacl_at s))

-- Sound, so well formed.
pub sound_well_formed : (s : List ℕ) → is_sound s ≡ true → WellFormed s
unfolding head_sound
sound_well_formed s e =
    let h = both_true (head_sound s) _ (sym (sound_is s) ∙ e) in
    let o = both_true (names starts_sid s (owner_at s)) _ h.1 in
    let g = both_true (names starts_sid s (group_at s)) _ o.1 in
    let a = both_true (names starts_acl s (sacl_at s)) _ g.1 in
    let limit = both_true (leb (length s) 65535) _ h.0 in
    let head = both_true (leb 20 (length s)) _ limit.1 in
    let marked = both_true (eqb (revision s) 1) _ head.1 in
    record {
      limit = leb-true _ _ limit.0;
      head = leb-true _ _ head.0;
      revision_is = eqb-true _ _ marked.0;
      relative = eqb-true _ _ marked.1;
      owner = named starts_begins some_sid s _ o.0;
      group = named starts_begins some_sid s _ g.0;
      sacl = named acl_begins some_acl s _ a.0;
      dacl = named acl_begins some_acl s _ a.1;
    }

-- Well formed, so sound.
pub well_formed_sound : (s : List ℕ) → WellFormed s → is_sound s ≡ true
unfolding head_sound
well_formed_sound s w =
    sound_is s
    ∙ true-and (true-and (le-leb _ _ w.limit) (true-and (le-leb _ _ w.head) (true-and (eq-eqb _ _ w.revision_is) (eq-eqb _ _ w.relative))))
    (true-and (names_so begins_starts s _ w.owner) (true-and (names_so begins_starts s _ w.group) (true-and (names_so begins_acl s _ w.sacl) (names_so begins_acl s _ w.dacl))))
