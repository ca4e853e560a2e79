-- Document 02, No. 7, "bit-packed, most significant bit first": the bits of bytes, and a run of them as a number.
use Rattle.std.specs.Prelude.{ℕ, zero, suc, ◌+◌, ◌-◌, ◌*◌, ◌/◌, ◌%◌, ◌^◌, List, get_or}

-- bit i of bytes: the most significant of the first byte is bit 0
unfoldable pub bit_at : List ℕ → ℕ → ℕ
bit_at s i = get_or s (i / 8) 0 / 2 ^ (7 - i % 8) % 2

-- the number in a run of bits, the most significant first
unfoldable pub bits_of : List ℕ → ℕ → ℕ → ℕ
bits_of s place zero = 0
bits_of s place (suc width) = 2 * bits_of s place width + bit_at s (place + width)
