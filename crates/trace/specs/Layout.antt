-- Document 02, No. 7: the fields of a record, by the paper's list of bits.
use Rattle.std.specs.Prelude.{ℕ, suc, ◌+◌, ◌-◌, ◌^◌, cond, List, [], ◌∷◌, ltb, ℤ, pos, negsuc, get_or, take}
use Rattle.trace.specs.Bits.{bits_of}

-- "clock 64 bits, root given 1, rights 2, descriptor verdict 1, spare 4, three indices of 32, root identifier 128"
abbrev pub widths : List ℕ
widths = 64 ∷ 1 ∷ 2 ∷ 1 ∷ 4 ∷ 32 ∷ 32 ∷ 32 ∷ 128 ∷ []

abbrev pub sum : List ℕ → ℕ
sum [] = 0
sum (n ∷ ns) = n + sum ns

-- a field: the run of bits behind those of the fields before it
unfoldable pub field_of : List ℕ → ℕ → ℕ
field_of s k = bits_of s (sum (take k widths)) (get_or widths k 0)

abbrev pub clock_field : List ℕ → ℕ
clock_field s = field_of s 0

abbrev pub given_field : List ℕ → ℕ
given_field s = field_of s 1

abbrev pub rights_field : List ℕ → ℕ
rights_field s = field_of s 2

abbrev pub verdict_field : List ℕ → ℕ
verdict_field s = field_of s 3

abbrev pub spare_field : List ℕ → ℕ
spare_field s = field_of s 4

abbrev pub l0_field : List ℕ → ℕ
l0_field s = field_of s 5

abbrev pub l1_field : List ℕ → ℕ
l1_field s = field_of s 6

abbrev pub l2_field : List ℕ → ℕ
l2_field s = field_of s 7

abbrev pub root_field : List ℕ → ℕ
root_field s = field_of s 8

-- "in two's complement": a number of so many bits; less 2 ^ width where its most significant bit is set
unfoldable pub twos_complement : ℕ → ℕ → ℤ
twos_complement width n = cond (ltb n (2 ^ (width - 1))) (pos n) (negsuc (2 ^ width - suc n))
