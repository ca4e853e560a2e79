-- What was read of an input tells the envelope of the whole: it is all of it, or both are longer than any envelope.
use Rattle.lemmas.proofs.Basics.{ℕ, ◌≤◌, ◌<◌, arith, List, [], ◌++◌, append-nil, ◌≡◌, refl, sym, ap, ◌∙◌, subst, eqb, eqb-true, eqb-false, length, take, length-append, length-take-le, lt-ltb}
use Rattle.refusal.specs.declared.Refusal.{Refusal}
use Rattle.envelope.specs.declared.Envelope.{Envelope}
use Rattle.std.specs.Prelude.{None, Some, IfSome, Option, Result, Err}
use Rattle.std.specs.Io.KnownBytes.{Consumes, IsAtEnd}
use Rattle.lemmas.proofs.Cases.{by_cases}
use Rattle.refusal.specs.declared.Refusal.TheVariants.{TooLong}
use Rattle.refusal.specs.Chain.{first_of, unless_refused}
use Rattle.wire.specs.Parts.{part_of}
use Rattle.wire.proofs.Parts.{part_in}
use Rattle.envelope.specs.Reading.{head_checks, envelope_checks, envelope_of}

too_long : (s : List ℕ) → 65535 < length s → envelope_of s ≡ Err TooLong
unfolding envelope_of envelope_checks head_checks first_of unless_refused
too_long s h = rw (lt-ltb 65535 (length s) h) refl

-- The first n bytes of a buffer were read, and y is left: nothing, where the buffer is not full.
same : (buffer x y : List ℕ) (n : ℕ) → length buffer ≡ 65536 → n ≤ length buffer → x ≡ take n buffer ++ y → (n < length buffer → y ≡ [])
    → envelope_of (part_of buffer 0 n) ≡ envelope_of x
same buffer x y n size inside p end =
    let read : part_of buffer 0 n ≡ take n buffer = part_in buffer 0 n (omega (arith, inside)) in
    by_cases (λ _. envelope_of (part_of buffer 0 n) ≡ envelope_of x) (eqb n 65536)
    (λ q.
    let full : n ≡ 65536 = eqb-true n 65536 q in
    let long : 65535 < length (take n buffer) = rw (full, length-take-le 65536 buffer (omega arith)) (omega arith) in
    let longer : 65535 < length x = rw (p, length-append) (omega arith) in
    ap envelope_of read ∙ too_long (take n buffer) long ∙ sym (too_long x longer))
    (λ q.
    let short : n < length buffer = omega (arith, eqb-false n 65536 q) in
    ap envelope_of (read ∙ sym (p ∙ ap (λ t. take n buffer ++ t) (end short) ∙ append-nil (take n buffer))))

pub told : (before after : Option (List ℕ)) (buffer : List ℕ) (n : ℕ) (P : Result Envelope Refusal → Type 0) → length buffer ≡ 65536 → n ≤ length buffer
    → Consumes before after (take n buffer) → (n < length buffer → IsAtEnd after) → P (envelope_of (part_of buffer 0 n)) → IfSome before (λ bytes. P (envelope_of bytes))
told None after buffer n P size inside p end h = tt
told (Some x) None buffer n P size inside p end h = absurd p
told (Some x) (Some y) buffer n P size inside p end h = subst P (same buffer x y n size inside p end) h
