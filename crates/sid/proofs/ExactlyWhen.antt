-- Bytes pass the SID rule exactly when they are one SID, as MS-DTYP 2.4.2 states it, narrowed by document 01; and a SID stands at the
-- start of bytes exactly when they begin with one.
use Rattle.lemmas.proofs.Basics.{ℕ, ◌+◌, ◌*◌, ◌≤◌, arith, true, List, ◌≡◌, sym, ap, ◌∙◌, leb, eqb, length, take, length-take-le, le-leb, leb-true, eq-eqb, eqb-true}
use lib.Seq.{get_or-take}
use Rattle.lemmas.specs.Beginning.{Begins}
use Rattle.lemmas.proofs.Cases.{both_true, true-and}
use Rattle.sid.specs.Rule.{revision, count, sid_size, starts_sid, is_sid}
use Rattle.sid.specs.WellFormed.{WellFormed}

-- what a SID at the start says
pub record Starts (s : List ℕ) : Type 0 where
  pub long : 8 ≤ length s
  pub revision_is : revision s ≡ 1
  pub at_most : count s ≤ 15
  pub inside : sid_size s ≤ length s

pub starts : (s : List ℕ) → starts_sid s ≡ true → Starts s
unfolding starts_sid
starts s e =
    let long = both_true (leb 8 (length s)) _ e in
    let marked = both_true (eqb (revision s) 1) _ long.1 in
    let sized = both_true (leb (count s) 15) _ marked.1 in
    record { long = leb-true _ _ long.0; revision_is = eqb-true _ _ marked.0; at_most = leb-true _ _ sized.0; inside = leb-true _ _ sized.1 }

starts_so : (s : List ℕ) → Starts s → starts_sid s ≡ true
unfolding starts_sid
starts_so s w = rw (le-leb 8 (length s) w.long, eq-eqb _ _ w.revision_is, le-leb _ _ w.at_most, le-leb _ _ w.inside)

pub sid_well_formed : (s : List ℕ) → is_sid s ≡ true → WellFormed s
unfolding is_sid
sid_well_formed s e =
    let both = both_true (starts_sid s) _ e in
    let w = starts s both.0 in
    record { revision_is = w.revision_is; at_most = w.at_most; size = eqb-true _ _ both.1 }

pub well_formed_sid : (s : List ℕ) → WellFormed s → is_sid s ≡ true
unfolding is_sid
well_formed_sid s w =
    true-and (starts_so s (record { long = omega (arith, w.size); revision_is = w.revision_is; at_most = w.at_most; inside = omega (arith, w.size) })) (eq-eqb _ _ w.size)

pub starts_begins : (s : List ℕ) → starts_sid s ≡ true → Begins WellFormed s
starts_begins s e =
    let w = starts s e in
    let counted : count (take (sid_size s) s) ≡ count s = get_or-take (sid_size s) s 1 0 (omega arith) in
    record {
      size = sid_size s;
      inside = w.inside;
      item = record {
        revision_is = get_or-take (sid_size s) s 0 0 (omega arith) ∙ w.revision_is;
        at_most = rw counted w.at_most;
        size = rw counted (length-take-le (sid_size s) s w.inside);
      };
    }

pub begins_starts : (s : List ℕ) → Begins WellFormed s → starts_sid s ≡ true
begins_starts s b =
    let w = b.item in
    let long : b.size ≡ sid_size (take b.size s) = sym (length-take-le b.size s b.inside) ∙ w.size in
    let counted : count (take b.size s) ≡ count s = get_or-take b.size s 1 0 (omega arith) in
    let size : b.size ≡ sid_size s = long ∙ ap (λ c. 8 + 4 * c) counted in
    starts_so s (record {
      long = omega (arith, b.inside);
      revision_is = sym (get_or-take b.size s 0 0 (omega arith)) ∙ w.revision_is;
      at_most = rw (← counted) w.at_most;
      inside = omega (arith, b.inside);
    })
