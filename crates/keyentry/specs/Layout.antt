-- Document 01, "Key List Entry and list": the head's numbers, and the checks behind the item's own length, in the paper's order.
use Rattle.std.specs.Prelude.{ℕ, ◌+◌, ◌-◌, min, max, Bool, not, ◌||◌, List, [], ◌∷◌, ltb, leb, eqb}
use Rattle.refusal.specs.declared.Refusal.TheVariants.{Misplaced, EmptyItem, Overlap, UnusedRun}
use Rattle.refusal.specs.Chain.{Check, ◌⇒◌}
use Rattle.wire.specs.Parts.{le_at}

-- Head: Length at 0, public key offset at 4, FEK length at 8, FEK offset at 12, Flags at 16
abbrev pub length_field : List ℕ → ℕ
length_field s = le_at 4 s 0

abbrev pub public_key_at : List ℕ → ℕ
public_key_at s = le_at 4 s 4

abbrev pub fek_length : List ℕ → ℕ
fek_length s = le_at 4 s 8

abbrev pub fek_at : List ℕ → ℕ
fek_at s = le_at 4 s 12

abbrev pub flags_of : List ℕ → ℕ
flags_of s = le_at 4 s 16

-- the public key item's first four bytes are its own length
abbrev pub public_key_length : List ℕ → ℕ
public_key_length s = le_at 4 s (public_key_at s)

-- an item of n bytes at p does not lie in the Data Fields, which run from 20 to the end, L
unfoldable pub outside : ℕ → ℕ → ℕ → Bool
outside p n L = ltb p 20 || ltb L (p + n)

-- 8 unless p+n <= f or f+e <= p
unfoldable pub overlap : ℕ → ℕ → ℕ → ℕ → Bool
overlap p n f e = not (leb (p + n) f || leb (f + e) p)

-- the three unused runs: from 20 to the first item, from its end to the second, from that one's end to L
abbrev pub run_before : ℕ → ℕ → ℕ
run_before p f = min p f - 20

abbrev pub run_between : ℕ → ℕ → ℕ → ℕ → ℕ
run_between p n f e = max p f - min (p + n) (f + e)

abbrev pub run_after : ℕ → ℕ → ℕ → ℕ → ℕ → ℕ
run_after p n f e L = L - max (p + n) (f + e)

-- any of them is over 8
unfoldable pub long_run : ℕ → ℕ → ℕ → ℕ → ℕ → Bool
long_run p n f e L = ltb 8 (run_before p f) || (ltb 8 (run_between p n f e) || ltb 8 (run_after p n f e L))

-- 8, and 9 if any of the three runs is over 8
unfoldable pub run_checks : ℕ → ℕ → ℕ → ℕ → ℕ → List Check
run_checks p n f e L = (overlap p n f e ⇒ Overlap) ∷ (long_run p n f e L ⇒ UnusedRun) ∷ []

-- the checks behind the item's own length: with entry length L, item (p, n), FEK (f, e)
unfoldable pub item_checks : ℕ → ℕ → ℕ → ℕ → ℕ → List Check
item_checks p n f e L =
    -- 7 if n < 4
    (ltb n 4 ⇒ EmptyItem)
    -- 6 if p+n > L
    ∷ (ltb L (p + n) ⇒ Misplaced)
    -- 7 if e = 0
    ∷ (eqb e 0 ⇒ EmptyItem)
    -- 6 if f < 20 or f+e > L
    ∷ (outside f e L ⇒ Misplaced)
    -- 8 unless p+n <= f or f+e <= p; 9 if any of the three runs (before, between, after) is over 8
    ∷ run_checks p n f e L
