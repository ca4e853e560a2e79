-- Laws of the identifier granted: for a named one it is of its L0 group and not before it, and a later clock grants none that is earlier.
use Rattle.lemmas.proofs.Basics.{arith, false, cond, ◌≡◌, refl, ltb, lt-ltb, ltb-true, ltb-false}
use Rattle.std.specs.Prelude.{Option, Some, None}
use Rattle.rootid.specs.declared.RootId.{RootId}
use Rattle.lemmas.proofs.Cases.{by_cases, cond_cases}
use Rattle.gkid.specs.declared.Gkid.{Gkid}
use Rattle.gkid.specs.Identifier.{gkid, InGroup, later}
use Rattle.gkid.proofs.Order.{up_to_ordinal, ordinal_up_to, up_to_itself}
use Rattle.getkey.specs.Deciding.{granted_at}

-- what is granted for a named identifier that is not later than now
pub record Group (i at : Gkid) : Type 0 where
  pub own : InGroup i
  pub within : InGroup at
  pub same : at.l0.0 ≡ i.l0.0
  pub after : later i at ≡ false

pub granted_group : (root : Option RootId) (i present : Gkid) → InGroup i → InGroup present → later i present ≡ false → Group i (granted_at (Some i) root present)
unfolding granted_at
granted_group None i present g h e = record { own = g; within = g; same = refl; after = up_to_itself i }
granted_group (Some id) i present g h e =
    let order = up_to_ordinal i present g h e in
    cond_cases (Group i) (ltb i.l0.0 present.l0.0)
    (λ l. record { own = g; within = omega arith; same = refl; after = ordinal_up_to i (gkid i.l0.0 31 31) g (omega arith) (omega arith) })
    (λ l. record { own = g; within = h; same = omega (arith, ltb-false); after = e })

-- A later clock grants no earlier identifier.
pub granted_later : (root : Option RootId) (i present next : Gkid) → InGroup i → InGroup present → InGroup next → later i present ≡ false → later present next ≡ false
    → later (granted_at (Some i) root present) (granted_at (Some i) root next) ≡ false
unfolding granted_at
granted_later None i present next g h k e f = up_to_itself i
granted_later (Some id) i present next g h k e f =
    let order = up_to_ordinal i present g h e in
    let more = up_to_ordinal present next h k f in
    let last : Gkid = gkid i.l0.0 31 31 in
    by_cases (λ t. later (cond t last present) (cond (ltb i.l0.0 next.l0.0) last next) ≡ false) (ltb i.l0.0 present.l0.0)
    (λ l. rw (lt-ltb i.l0.0 next.l0.0 (omega (arith, ltb-true))) (up_to_itself last))
    (λ l. cond_cases (λ at. later present at ≡ false) (ltb i.l0.0 next.l0.0)
    (λ m. ordinal_up_to present last h (omega arith) (omega (arith, ltb-false)))
    (λ m. f))
