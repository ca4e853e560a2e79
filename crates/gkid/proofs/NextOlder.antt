-- Laws of the next older identifier: it is the greatest of its L0 group below the one asked, and (L0, 0, 0) has none.
use Rattle.lemmas.proofs.Basics.{ℕ, ◌+◌, arith, true, false, ◌≡◌, refl, sym, ◌∙◌, ltb, lt-ltb, le-ltb, ltb-true, ltb-false}
use Rattle.std.specs.Prelude.{Result, Ok, Err, Option, None, Some}
use Rattle.refusal.specs.declared.Refusal.{Refusal}
use Rattle.refusal.specs.declared.Refusal.TheVariants.{IndexAbove31}
use Rattle.gkid.specs.declared.Gkid.{Gkid}
use Rattle.gkid.specs.Identifier.{gkid, index_above_31, InGroup, later}
use Rattle.gkid.specs.Older.{older_of}
use Rattle.lemmas.proofs.Cases.{cond_cases}
use Rattle.gkid.proofs.Order.{in_group, ordinal, later_ordinal}

-- j is earlier than i and of its L0 group, and nothing in the group that is earlier than i is later than j
pub record NextOlder (i j : Gkid) : Type 0 where
  pub group : j.l0.0 ≡ i.l0.0
  pub within : InGroup j
  pub earlier : later i j ≡ true
  pub greatest : (k : Gkid) → k.l0.0 ≡ i.l0.0 → InGroup k → later i k ≡ true → later k j ≡ false

one_less : (i j : Gkid) → InGroup i → InGroup j → j.l0.0 ≡ i.l0.0 → ordinal i ≡ ordinal j + 1 → NextOlder i j
one_less i j a b same e =
    record {
      group = same;
      within = b;
      earlier = later_ordinal i j a b ∙ lt-ltb (ordinal j) (ordinal i) (omega arith);
      greatest = λ k _ c l. later_ordinal k j c b ∙ le-ltb (ordinal j) (ordinal k) (omega (arith, ltb-true (ordinal k) (ordinal i) (sym (later_ordinal i k a c) ∙ l)));
    }

-- what each answer says of the identifier asked
abbrev pub Says : Gkid → Result (Option Gkid) Refusal → Type 0
Says i (Ok (Some j)) = NextOlder i j
Says i (Ok None) = (k : Gkid) → k.l0.0 ≡ i.l0.0 → InGroup k → later i k ≡ false
Says i (Err r) = (r ≡ IndexAbove31) × (index_above_31 i ≡ true)

-- Is: the next older. None: nothing in the group is earlier. Refused: an index is above 31.
pub older_says : (i : Gkid) → Says i (older_of i)
unfolding older_of
older_says i =
    cond_cases (Says i) (index_above_31 i) (λ a. (refl, a))
    (λ a. let g = in_group i a in
    cond_cases (Says i) (ltb 0 i.l2.0) (λ s. one_less i _ g (omega arith) refl (omega (arith, ltb-true)))
    (λ s. cond_cases (Says i) (ltb 0 i.l1.0) (λ t. one_less i _ g (omega arith) refl (omega (arith, ltb-true, ltb-false)))
    (λ t k same w. later_ordinal i k g w ∙ le-ltb (ordinal k) (ordinal i) (omega (arith, ltb-false)))))

-- (L0, 0, 0) has none.
pub first_has_none : (l0 : ℕ) → older_of (gkid l0 0 0) ≡ Ok None
unfolding older_of index_above_31
first_has_none l0 = refl
