use Rattle.lemmas.proofs.Basics.{◌≡◌, length, take}
use Rattle.wire.specs.Parts.{onto, le32_bytes}
use Rattle.wire.proofs.put_le32s.Given as goal

abbrev pub invariant-loop-i : goal.invariant-loop-i
invariant-loop-i l = (length l.dst ≡ length l.initial.dst) × (l.dst ≡ onto (le32_bytes (take l.i l.xs)) l.initial.dst)
