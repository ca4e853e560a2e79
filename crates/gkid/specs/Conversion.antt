-- Document 01, "Time and identifiers", and MS-GKDI 3.1.4.1, step 2: a clock reading is converted to an identifier by three whole divisions.
use Rattle.std.specs.Prelude.{ℕ, ◌-◌, ◌*◌, ◌^◌, ◌/◌, ◌%◌}
use Rattle.gkid.specs.declared.FileTime.{FileTime}
use Rattle.gkid.specs.declared.Gkid.{Gkid}
use Rattle.gkid.specs.Identifier.{gkid}

-- an L2 step is 360,000,000,000 ticks
abbrev pub l2_step : ℕ
l2_step = 360000000000

-- an L1 step 32 of those
abbrev pub l1_step : ℕ
l1_step = 32 * l2_step

-- an L0 step 1,024
abbrev pub l0_step : ℕ
l0_step = 1024 * l2_step

-- L0 = reading / L0 step; L1 = (reading mod L0 step) / L1 step; L2 = (reading mod L1 step) / L2 step
unfoldable pub gkid_at : FileTime → Gkid
gkid_at t = gkid (t.0 / l0_step) (t.0 % l0_step / l1_step) (t.0 % l1_step / l2_step)

-- the highest is that of the last reading
unfoldable pub highest : Gkid
highest = gkid_at (record { 0 = 2 ^ 64 - 1 })
