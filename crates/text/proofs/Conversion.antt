-- 16-bit units are a sequence of characters exactly where they convert to characters without loss.
use Rattle.lemmas.proofs.Basics.{ℕ, ◌+◌, ◌-◌, ◌*◌, ◌/◌, ◌%◌, ◌≤◌, ◌<◌, arith, cond, inl, inr, ⊎_elim, List, [], ◌∷◌, ◌++◌, map, ◌≡◌, refl, ap, ltb, lt-ltb, le-ltb, ltb-false}
use Rattle.lemmas.proofs.Cases.{by_cases}
use Rattle.wire.specs.Numbers.{le_of}
use Rattle.wire.specs.Parts.{joined}
use Rattle.wire.proofs.Numbers.{Bytes}
use Rattle.text.specs.Units.{units_of}
use Rattle.text.specs.WellFormed.{Characters, none, one, pair, WellFormed}
use Rattle.text.specs.Conversion.{Each, Scalar, utf16, Converts}

-- the units of a character of one unit, and of one of two
one_unit : (c : ℕ) → c < 0x10000 → utf16 c ≡ c ∷ []
unfolding utf16
one_unit c h = rw (lt-ltb c 0x10000 h)

two_units : (high low : ℕ) → (0xD800 ≤ high) × (high ≤ 0xDBFF) → (0xDC00 ≤ low) × (low ≤ 0xDFFF)
    → utf16 (0x10000 + (high - 0xD800) * 0x400 + (low - 0xDC00)) ≡ high ∷ low ∷ []
unfolding utf16
two_units high low h l =
    let c = 0x10000 + (high - 0xD800) * 0x400 + (low - 0xDC00) in
    let upper : 0xD800 + (c - 0x10000) / 0x400 ≡ high = omega (arith, h.0, h.1, l.0, l.1) in
    let lower : 0xDC00 + (c - 0x10000) % 0x400 ≡ low = omega (arith, h.0, h.1, l.0, l.1) in
    rw (le-ltb c 0x10000 (omega arith), upper, lower)

-- A sequence of characters converts.
pub converts : {us : List ℕ} → Each (λ u. u < 0x10000) us → Characters us → Converts us
unfolding joined
converts units none = record { characters = []; scalars = tt; encoded = refl }
converts units (one {u} {us} out rest) =
    let w = converts units.1 rest in
    record {
      characters = u ∷ w.characters;
      scalars = (⊎_elim inl (λ h. inr (h, omega (arith, units.0))) out, w.scalars);
      encoded = rw (one_unit u units.0) (ap (λ t. u ∷ t) w.encoded);
    }
converts units (pair {high} {low} {us} h l rest) =
    let w = converts units.1.1 rest in
    let c = 0x10000 + (high - 0xD800) * 0x400 + (low - 0xDC00) in
    record {
      characters = c ∷ w.characters;
      scalars = (inr (omega arith, omega (arith, h.0, h.1, l.0, l.1)), w.scalars);
      encoded = rw (two_units high low h l) (ap (λ t. high ∷ low ∷ t) w.encoded);
    }

-- And what converts is a sequence of characters.
sequence : (cs : List ℕ) → Each Scalar cs → Characters (joined (map utf16 cs))
unfolding joined utf16
sequence [] scalars = none
sequence (c ∷ cs) scalars =
    let rest = sequence cs scalars.1 in
    by_cases (λ t. Characters (cond t (c ∷ []) ((0xD800 + (c - 0x10000) / 0x400) ∷ (0xDC00 + (c - 0x10000) % 0x400) ∷ []) ++ joined (map utf16 cs))) (ltb c 0x10000)
    (λ _. one (⊎_elim inl (λ h. inr h.0) scalars.0) rest)
    (λ q.
    let large = ltb-false c 0x10000 q in
    let most : c ≤ 0x10FFFF = ⊎_elim (λ h. omega (arith, h, large)) (λ h. h.1) scalars.0 in
    pair (omega arith, omega (arith, most)) (omega arith, omega arith) rest)

pub converted : {us : List ℕ} → Converts us → Characters us
converted w = rw (← w.encoded) (sequence w.characters w.scalars)

-- So a text of bytes that is well formed converts.
units-below : (s : List ℕ) → Bytes s → Each (λ u. u < 0x10000) (units_of s)
unfolding units_of le_of
units-below [] bytes = tt
units-below (b0 ∷ []) bytes = tt
units-below (b0 ∷ b1 ∷ s) bytes = (omega (arith, bytes.0, bytes.1.0), units-below s bytes.1.1)

pub text_converts : (s : List ℕ) → Bytes s → WellFormed s → Converts (units_of s)
text_converts s bytes w = converts (units-below s bytes) w.characters
