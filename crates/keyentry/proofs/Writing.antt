-- Laws of the writer: what its bytes read as, and which checks can apply to them.
use Rattle.lemmas.proofs.Basics.{ℕ, ◌+◌, ◌^◌, ◌≤◌, ◌<◌, arith, not, List, [], ◌∷◌, ◌++◌, append-nil, append_assoc, ◌≡◌, refl, sym, ap, ◌∙◌, ltb, eqb, length, length-append, le-ltb, ltb-false, eq-eqb, eqb-true}
use Rattle.std.specs.Prelude.{Ok}
use Rattle.refusal.specs.declared.Refusal.TheVariants.{TooLong, LengthsDisagree, EmptyItem}
use Rattle.refusal.specs.Chain.{Check, ◌⇒◌, first_of}
use Rattle.lemmas.proofs.Cases.{not-false}
use Rattle.refusal.proofs.Chains.{accepted_pass, pass_accepted, first_next, first_after}
use Rattle.wire.specs.Numbers.{le_bytes, le_of}
use Rattle.wire.specs.Parts.{le_at, part_of, joined, le32_bytes}
use Rattle.wire.proofs.Numbers.{le_piece}
use Rattle.wire.proofs.Parts.{part_left, part_right}
use Rattle.wire.proofs.Writing.{head_bodies, length-le32_bytes}
use Rattle.keyentry.specs.Layout.{length_field, public_key_at, public_key_length, fek_at, fek_length, flags_of, item_checks}
use Rattle.keyentry.specs.Reading.{entry_checks}
use Rattle.keyentry.specs.Writing.{entry_length, pieces, entry_bytes, write_checks}
use Rattle.keyentry.proofs.Tests.{not-outside, runs_short}

-- the numbers of the head
abbrev pub head : ℕ → List ℕ → List ℕ → List ℕ
head flags item fek = entry_length item fek ∷ 20 ∷ length fek ∷ (20 + length item) ∷ flags ∷ []

-- The entry is its head, then the item, then the FEK.
pub bytes_are : (flags : ℕ) (item fek : List ℕ) → entry_bytes flags item fek ≡ (le32_bytes (head flags item fek) ++ item) ++ fek
unfolding entry_bytes joined
bytes_are flags item fek =
    head_bodies (head flags item fek) (item ∷ fek ∷ []) ∙ ap (λ t. le32_bytes (head flags item fek) ++ (item ++ t)) (append-nil fek) ∙ sym (append_assoc (le32_bytes (head flags item fek)) item fek)

pub length-bytes : (flags : ℕ) (item fek : List ℕ) → length (entry_bytes flags item fek) ≡ entry_length item fek
length-bytes flags item fek = rw (bytes_are flags item fek, length-append, length-append, length-le32_bytes (head flags item fek))

-- What the numbers of the head read as, where the entry is within the limit.
module _ (flags : ℕ) (item fek : List ℕ) (fits : entry_length item fek ≤ 65535) where
  is_length : length_field (entry_bytes flags item fek) ≡ entry_length item fek
  unfolding entry_bytes joined
  is_length = le_piece 4 (pieces flags item fek) 0 _ 0 refl (omega arith) refl

  pub is_item_at : public_key_at (entry_bytes flags item fek) ≡ 20
  unfolding entry_bytes joined le_bytes
  is_item_at = le_piece 4 (pieces flags item fek) 1 20 4 refl (omega arith) refl

  pub is_fek_length : fek_length (entry_bytes flags item fek) ≡ length fek
  unfolding entry_bytes joined le_bytes
  is_fek_length = le_piece 4 (pieces flags item fek) 2 (length fek) 8 refl (omega arith) refl

  pub is_fek_at : fek_at (entry_bytes flags item fek) ≡ 20 + length item
  unfolding entry_bytes joined le_bytes
  is_fek_at = le_piece 4 (pieces flags item fek) 3 (20 + length item) 12 refl (omega arith) refl

  pub is_flags : flags < 2 ^ 32 → flags_of (entry_bytes flags item fek) ≡ flags
  unfolding entry_bytes joined le_bytes
  is_flags small = le_piece 4 (pieces flags item fek) 4 flags 16 refl small refl

  -- the item's first four bytes are read where the item stands
  pub item_number : 4 ≤ length item → public_key_length (entry_bytes flags item fek) ≡ le_at 4 item 0
  unfolding le_at le32_bytes joined le_bytes
  item_number some =
      let front = le32_bytes (head flags item fek) in
      ap (λ at. le_at 4 (entry_bytes flags item fek) at) is_item_at
      ∙ ap (λ s. le_of (part_of s 20 4)) (bytes_are flags item fek)
      ∙ ap le_of (part_left (front ++ item) fek 20 4 (omega (arith, length-append front item)) ∙ part_right front item 0 4)

-- items that stand one straight after the other from 20 on pass, but for an empty FEK
straight : (a b : ℕ) → 4 ≤ a → first_of (item_checks 20 a (20 + a) b (20 + a + b)) ≡ first_of ((eqb b 0 ⇒ EmptyItem) ∷ [])
unfolding item_checks
straight a b some =
    let L = 20 + a + b in
    first_next _ _ _ (le-ltb a 4 some)
    ∙ first_next _ _ _ (le-ltb L (20 + a) (omega arith))
    ∙ first_after _ _ _ [] (λ q. first_next _ _ _ (not-outside (20 + a) b L (omega arith) (omega arith)) ∙ runs_short 20 a (20 + a) b L (omega arith) (omega arith) (omega arith) (omega arith) ∙ sym (pass_accepted [] tt))

-- the checks that can apply to what is given
abbrev pub given_checks : List ℕ → List ℕ → List Check
given_checks item fek =
    (ltb 65535 (entry_length item fek) ⇒ TooLong)
    ∷ (ltb (length item) 4 ⇒ EmptyItem)
    ∷ (not (eqb (le_at 4 item 0) (length item)) ⇒ LengthsDisagree)
    ∷ (eqb (length fek) 0 ⇒ EmptyItem)
    ∷ []

-- Of the reader's checks on the bytes only 7 can apply, for an empty FEK.
pub write_checks_lem : (flags : ℕ) (item fek : List ℕ) → first_of (write_checks flags item fek) ≡ first_of (given_checks item fek)
unfolding write_checks entry_checks
write_checks_lem flags item fek =
    first_after _ _ _ _ (λ q. let fits = ltb-false 65535 (entry_length item fek) q in
    first_after _ _ _ _ (λ r. let some = ltb-false (length item) 4 r in
    first_after _ _ _ _ (λ o. let own = eqb-true (le_at 4 item 0) (length item) (not-false _ o) in
    rw (
      length-bytes flags item fek,
      is_length flags item fek fits,
      item_number flags item fek fits some,
      own,
      is_item_at flags item fek fits,
      is_fek_length flags item fek fits,
      is_fek_at flags item fek fits,
    )
    (first_next _ _ _ q
    ∙ first_next _ _ _ (le-ltb (entry_length item fek) 20 (omega arith))
    ∙ first_next _ _ _ (ap not (eq-eqb (entry_length item fek) _ refl))
    ∙ first_next _ _ _ (not-outside 20 4 (entry_length item fek) (omega arith) (omega arith))
    ∙ straight (length item) (length fek) some))))

-- What is accepted is within the limit.
pub within_limit : (flags : ℕ) (item fek : List ℕ) → first_of (write_checks flags item fek) ≡ Ok tt → entry_length item fek ≤ 65535
unfolding write_checks
within_limit flags item fek e = ltb-false 65535 (entry_length item fek) (accepted_pass _ e).0
