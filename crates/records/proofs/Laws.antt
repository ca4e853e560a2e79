-- Laws of a writer's answer.
use Rattle.lemmas.proofs.Basics.{ℕ, ◌≤◌, ◌<◌, arith, List, ◌++◌, ◌≡◌, refl, sym, ap, ◌∙◌, ltb, length, take, drop, lt-ltb, le-ltb, ltb-false}
use Rattle.std.specs.Prelude.{Result, Ok, Err}
use Rattle.refusal.specs.Outcome.{Outcome}
use Rattle.refusal.specs.declared.Refusal.{Refusal}
use Rattle.refusal.specs.declared.Refusal.TheVariants.{NoRoom}
use Rattle.refusal.specs.Chain.{unless_refused, refuse_if}
use Rattle.lemmas.proofs.Cases.{by_cases}
use Rattle.wire.proofs.Writing.{onto_in, take-onto, drop-onto}
use Rattle.records.specs.Writing.{written_of, output_of}

-- A record is written exactly where its reader accepts it and the output has room.
pub written_accepted : (checks : Outcome) (len room n : ℕ) → written_of checks len room ≡ Ok n → (checks ≡ Ok tt) × (len ≤ room) × (n ≡ len)
unfolding written_of refuse_if unless_refused
written_accepted (Err r) len room n e = absurd (apart e)
  where
    apart : {r : Refusal} {n : ℕ} → ◌≡◌ {A = Result ℕ Refusal} (Err r) (Ok n) → ⊥
    apart e = let z : ◌≡◌ {A = ℕ} 0 1 = cc in omega arith
written_accepted (Ok tt) len room n e =
    by_cases (λ t. unless_refused Err (refuse_if (Ok tt) t NoRoom) (Ok len) ≡ Ok n → (◌≡◌ {A = Outcome} (Ok tt) (Ok tt)) × (len ≤ room) × (n ≡ len)) (ltb room len)
    (λ q w. let z : ◌≡◌ {A = ℕ} 0 1 = cc in absurd (omega arith))
    (λ q w. (refl, ltb-false room len q, cc))
    e

pub accepted_written : (len room : ℕ) → len ≤ room → written_of (Ok tt) len room ≡ Ok len
unfolding written_of refuse_if unless_refused
accepted_written len room h = rw (le-ltb room len h)

pub no_room : (len room : ℕ) → room < len → written_of (Ok tt) len room ≡ Err NoRoom
unfolding written_of refuse_if unless_refused
no_room len room h = rw (lt-ltb room len h)

-- The reader's refusal is the writer's, whatever the room.
pub refused_written : (r : Refusal) (len room : ℕ) → written_of (Err r) len room ≡ Err r
unfolding written_of refuse_if unless_refused
refused_written r len room = refl

-- What a writer answers, from what its judge told of the checks.
pub refuses : {o checks : Outcome} {r : Refusal} (len room : ℕ) → o ≡ checks → o ≡ Err r → Err r ≡ written_of checks len room
refuses {r = r} len room judged told = rw (← judged, told) (sym (refused_written r len room))

pub lacks_room : {o checks : Outcome} (len room : ℕ) → o ≡ checks → o ≡ Ok tt → room < len → Err NoRoom ≡ written_of checks len room
lacks_room len room judged told h = rw (← judged, told) (sym (no_room len room h))

pub writes : {o checks : Outcome} (len room : ℕ) → o ≡ checks → o ≡ Ok tt → len ≤ room → Ok len ≡ written_of checks len room
writes len room judged told h = rw (← judged, told) (sym (accepted_written len room h))

-- What a writer accepted: its checks are passed, it stands at the start of the output, and the rest is as it was.
pub written_record : {checks : Outcome} {len : ℕ} (bytes out : List ℕ) (n : ℕ) → length bytes ≡ len → written_of checks len (length out) ≡ Ok n
    → (checks ≡ Ok tt) × (take n (output_of (Ok n) bytes out) ≡ bytes) × (drop n (output_of (Ok n) bytes out) ≡ drop n out)
unfolding output_of
written_record {checks} {len} bytes out n is e =
    let told = written_accepted checks len (length out) n e in
    let room : length bytes ≤ length out = omega (arith, told.1) in
    rw (told.2, ← is) (told.0, take-onto bytes out room, drop-onto bytes out room)

-- A record that its checks accept is written where the output has room for it.
pub record_written : {checks : Outcome} {len : ℕ} (bytes out : List ℕ) → checks ≡ Ok tt → length bytes ≡ len → len ≤ length out
    → (written_of checks len (length out) ≡ Ok len) × (output_of (written_of checks len (length out)) bytes out ≡ bytes ++ drop len out)
unfolding output_of
record_written {checks} {len} bytes out accepted is room =
    let room' : length bytes ≤ length out = omega arith in
    rw (accepted, accepted_written len (length out) room) (refl, onto_in bytes out room' ∙ ap (λ n. bytes ++ drop n out) is)
