-- Laws of the conversion of readings and of start times.
use Rattle.lemmas.proofs.Basics.{ℕ, ◌+◌, ◌*◌, ◌/◌, ◌%◌, ◌^◌, ◌≤◌, ◌<◌, arith, false, cond, ◌≡◌, refl, sym, subst, ◌∙◌, ltb, leb, le-ltb, ltb-true, ltb-false, le-leb, lt-leb}
use Rattle.std.specs.Prelude.{Result, Ok, Err}
use Rattle.refusal.specs.declared.Refusal.{Refusal}
use Rattle.refusal.specs.declared.Refusal.TheVariants.{IndexAbove31, StartPastTime}
use Rattle.gkid.specs.declared.FileTime.{FileTime}
use Rattle.gkid.specs.declared.Gkid.{Gkid}
use Rattle.gkid.specs.Identifier.{gkid, index_above_31, InGroup, later}
use Rattle.gkid.specs.Conversion.{l2_step, gkid_at, highest}
use Rattle.gkid.specs.Start.{start_time, start_of, start_shown}
use Rattle.lemmas.proofs.Cases.{by_cases, cond_cases}
use Rattle.gkid.proofs.Order.{in_group, not_above, ordinal, later_ordinal, ordinal_injective, up_to_ordinal}

-- A converted reading has L1 and L2 up to 31, and L0 up to 50,039.
pub reading_in_group : (t : FileTime) → InGroup (gkid_at t)
unfolding gkid_at
reading_in_group t = omega arith

pub reading_l0 : (t : FileTime) → t.0 < 2 ^ 64 → (gkid_at t).l0.0 ≤ 50039
unfolding gkid_at
reading_l0 t h = omega arith

-- Its ordinal is the number of whole L2 steps in the reading.
pub reading_ordinal : (t : FileTime) → ordinal (gkid_at t) ≡ t.0 / l2_step
unfolding gkid_at
reading_ordinal t = omega arith

-- a number of L2 steps, split into the three indices
abbrev pub split : ℕ → Gkid
split n = gkid (n / 1024) (n % 1024 / 32) (n % 32)

-- One division down to L2 steps and that number split: the conversion by the three steps, at every reading.
pub one_division : (t : FileTime) → split (t.0 / l2_step) ≡ gkid_at t
one_division t = ordinal_injective (split (t.0 / l2_step)) (gkid_at t) (omega arith) (reading_in_group t) (omega (arith, reading_ordinal t))

-- The conversion is monotone.
pub reading_monotone : (s t : FileTime) → s.0 ≤ t.0 → later (gkid_at s) (gkid_at t) ≡ false
reading_monotone s t h =
    later_ordinal (gkid_at s) (gkid_at t) (reading_in_group s) (reading_in_group t)
    ∙ le-ltb (ordinal (gkid_at t)) (ordinal (gkid_at s)) (omega (arith, reading_ordinal s, reading_ordinal t))

-- Beside a refusal's number stands zero.
pub refused_zero : (r : Refusal) → start_shown (Err r) ≡ 0
unfolding start_shown
refused_zero r = refl

-- The start time exceeds 64 bits exactly where the ordinal is above that of the highest identifier.
past_ordinal : (i : Gkid) → leb (2 ^ 64) (start_time i) ≡ ltb (ordinal highest) (ordinal i)
unfolding highest gkid_at
past_ordinal i =
    by_cases (λ t. leb (2 ^ 64) (start_time i) ≡ t) (ltb (ordinal highest) (ordinal i))
    (λ e. le-leb (2 ^ 64) (start_time i) (omega (arith, ltb-true)))
    (λ e. lt-leb (2 ^ 64) (start_time i) (omega (arith, ltb-false)))

-- So, for L1 and L2 up to 31, exactly where the identifier is later than the highest.
pub past_time : (i : Gkid) → InGroup i → leb (2 ^ 64) (start_time i) ≡ later i highest
unfolding highest
past_time i g = past_ordinal i ∙ sym (later_ordinal i highest g (reading_in_group _))

-- Start time by L2 steps: 5, then 21 exactly where there are more than to the highest identifier, then so many L2 steps.
pub start_by_steps : (i : Gkid) → start_of i ≡ cond (index_above_31 i) (Err IndexAbove31) (cond (ltb (ordinal highest) (ordinal i)) (Err StartPastTime) (Ok (record { 0 = ordinal i * l2_step })))
unfolding start_of
start_by_steps i = let ticks : start_time i ≡ ordinal i * l2_step = omega arith in rw (past_ordinal i, ticks)

-- Where L1 and L2 are up to 31 and 64 bits hold the start time, that is the answer.
pub start_is : (i : Gkid) → InGroup i → start_time i < 2 ^ 64 → start_of i ≡ Ok (record { 0 = start_time i })
unfolding start_of
start_is i g h = rw (not_above i g, lt-leb (2 ^ 64) (start_time i) h)

-- The start of a converted reading is not refused; it is at most the reading, and less than one L2 step below it.
pub record Started (t s : FileTime) : Type 0 where
  pub told : start_of (gkid_at t) ≡ Ok s
  pub reached : s.0 ≤ t.0
  pub recent : t.0 < s.0 + l2_step

pub reading_start : (t : FileTime) → t.0 < 2 ^ 64 → Started t (record { 0 = start_time (gkid_at t) })
reading_start t h =
    let steps = reading_ordinal t in
    record { told = start_is (gkid_at t) (reading_in_group t) (omega arith); reached = omega arith; recent = omega arith }

-- what a start says of its identifier
abbrev Says : Gkid → Result FileTime Refusal → Type 0
Says i (Ok s) = InGroup i × (s.0 ≡ start_time i)
Says i (Err r) = Unit {0}

says : (i : Gkid) → Says i (start_of i)
unfolding start_of
says i = cond_cases (Says i) (index_above_31 i) (λ _. tt) (λ a. cond_cases (Says i) (leb (2 ^ 64) (start_time i)) (λ _. tt) (λ _. (in_group i a, refl)))

-- Where an identifier's start is not refused, that reading is converted to the identifier.
pub start_converted : (i : Gkid) (s : FileTime) → start_of i ≡ Ok s → gkid_at s ≡ i
start_converted i s e =
    let h : Says i (Ok s) = subst (Says i) e (says i) in
    ordinal_injective (gkid_at s) i (reading_in_group s) h.0 (omega (arith, reading_ordinal s))

-- An identifier up to now starts within 64 bits.
pub up_to_now : (i : Gkid) (t : FileTime) → t.0 < 2 ^ 64 → InGroup i → later i (gkid_at t) ≡ false → start_time i < 2 ^ 64
up_to_now i t h g e =
    let order = up_to_ordinal i (gkid_at t) g (reading_in_group t) e in
    let steps = reading_ordinal t in
    omega arith
