-- Document 01, "Time and identifiers": start time refuses 5, then 21.
use Rattle.std.specs.Prelude.{ℕ, ◌+◌, ◌*◌, ◌^◌, cond, leb, Result, Ok, Err}
use Rattle.refusal.specs.declared.Refusal.{Refusal}
use Rattle.gkid.specs.declared.FileTime.{FileTime}
use Rattle.refusal.specs.declared.Refusal.TheVariants.{IndexAbove31, StartPastTime}
use Rattle.refusal.specs.Number.{number_of}
use Rattle.gkid.specs.declared.Gkid.{Gkid}
use Rattle.gkid.specs.Identifier.{index_above_31}
use Rattle.gkid.specs.Conversion.{l0_step, l1_step, l2_step}

-- the conversion reversed: a whole number, that may exceed 64 bits
abbrev pub start_time : Gkid → ℕ
start_time i = i.l0.0 * l0_step + i.l1.0 * l1_step + i.l2.0 * l2_step

-- 5: an index is above 31; then 21: the start time exceeds 64 bits
unfoldable pub start_of : Gkid → Result FileTime Refusal
start_of i =
    cond (index_above_31 i) (Err IndexAbove31)
    (cond (leb (2 ^ 64) (start_time i)) (Err StartPastTime)
    (Ok (record { 0 = start_time i })))

-- the paper's number, and the time: 0 and the start time, or the refusal's number and zero
unfoldable pub start_number : Result FileTime Refusal → ℕ
start_number (Ok t) = 0
start_number (Err r) = number_of r

unfoldable pub start_shown : Result FileTime Refusal → ℕ
start_shown (Ok t) = t.0
start_shown (Err r) = 0
