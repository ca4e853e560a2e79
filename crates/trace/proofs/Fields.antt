-- The fields of a record by its bytes.
use Rattle.lemmas.proofs.Basics.{ℕ, ◌+◌, ◌*◌, ◌/◌, ◌%◌, ◌^◌, ◌≤◌, arith, ◌&&◌, List, ◌++◌, ◌≡◌, sym, ap, ◌∙◌, eqb, length, get_or, eq-eqb, eqb-true}
use Rattle.lemmas.proofs.Cases.{both_true, true-and, same_truth}
use Rattle.wire.specs.Numbers.{le_of, be_of, be_bytes}
use Rattle.wire.specs.Parts.{part_of, le_at, be_at}
use Rattle.wire.proofs.Numbers.{Bytes, byte_below, le-append, le_be_zero, be_le-zero, be_part_back}
use Rattle.wire.proofs.Parts.{part_within, part_next, part_whole, length_part}
use Rattle.rootid.specs.Root.{root_at}
use Rattle.trace.specs.Layout.{field_of, clock_field, given_field, rights_field, verdict_field, spare_field, l0_field, l1_field, l2_field, root_field}
use Rattle.trace.proofs.Bits.{bits_in, bits_bytes}

-- Byte 8: root given 1 bit, rights 2, descriptor verdict 1, spare 4.
module _ (s : List ℕ) where
  pub rights_is : rights_field s ≡ get_or s 8 0 / 32 % 4
  unfolding field_of
  rights_is = bits_in s 8 1 2 (omega arith)

  pub verdict_is : verdict_field s ≡ get_or s 8 0 / 16 % 2
  unfolding field_of
  verdict_is = bits_in s 8 3 1 (omega arith)

  pub spare_is : spare_field s ≡ get_or s 8 0 % 16
  unfolding field_of
  spare_is = bits_in s 8 4 4 (omega arith) ∙ omega arith

-- The bit before them, and the fields of whole bytes.
module _ (s : List ℕ) (b : Bytes s) (whole : 37 ≤ length s) where
  pub given_is : given_field s ≡ get_or s 8 0 / 128
  unfolding field_of
  given_is = bits_in s 8 0 1 (omega arith) ∙ omega (arith, byte_below s b 8)

  pub clock_is : clock_field s ≡ be_at 8 s 0
  unfolding field_of
  clock_is = bits_bytes 8 s 0 b (omega arith)

  pub l0_is : l0_field s ≡ be_at 4 s 9
  unfolding field_of
  l0_is = bits_bytes 4 s 9 b (omega arith)

  pub l1_is : l1_field s ≡ be_at 4 s 13
  unfolding field_of
  l1_is = bits_bytes 4 s 13 b (omega arith)

  pub l2_is : l2_field s ≡ be_at 4 s 17
  unfolding field_of
  l2_is = bits_bytes 4 s 17 b (omega arith)

  -- the identifier's bits as bytes are the 16 bytes from 21 on
  pub root_is : root_at (be_bytes 16 (root_field s)) 0 ≡ root_at s 21
  unfolding field_of root_at
  root_is =
      let bytes : be_bytes 16 (root_field s) ≡ part_of s 21 16 = ap (be_bytes 16) (bits_bytes 16 s 21 b (omega arith)) ∙ be_part_back 16 s 21 b (omega arith) in
      let part : part_of (part_of s 21 16) 0 16 ≡ part_of s 21 16 = part_within s 21 16 0 16 (omega arith) (omega arith) in
      rw (bytes, part)

  -- they are 0 where both halves of the identifier are
  pub zero_is : eqb (root_field s) 0 ≡ eqb (root_at s 21).low 0 && eqb (root_at s 21).high 0
  unfolding field_of root_at le_at be_at
  zero_is =
      let p = part_of s 21 16 in
      let size : length p ≡ 16 = length_part s 21 16 (omega arith) in
      let field : root_field s ≡ be_of p = bits_bytes 16 s 21 b (omega arith) in
      let cut : part_of p 0 8 ++ part_of p 8 8 ≡ p = part_next p 0 8 8 (omega arith) ∙ ap (part_of p 0) (sym size) ∙ part_whole p in
      let low = le_of (part_of p 0 8) in
      let high = le_of (part_of p 8 8) in
      let halves : le_of p ≡ low + 256 ^ 8 * high = ap le_of (sym cut) ∙ le-append _ _ ∙ ap (λ n. low + 256 ^ n * high) (length_part p 0 8 (omega arith)) in
      same_truth (eqb (root_field s) 0) (eqb low 0 && eqb high 0)
      (λ e. let none = be_le-zero p (sym field ∙ eqb-true (root_field s) 0 e) in true-and (eq-eqb low 0 (omega arith)) (eq-eqb high 0 (omega arith)))
      (λ e.
      let both = both_true (eqb low 0) (eqb high 0) e in
      let none : le_of p ≡ 0 = omega (arith, eqb-true low 0 both.0, eqb-true high 0 both.1) in
      eq-eqb (root_field s) 0 (field ∙ le_be_zero p none))
