-- The shapes of the C face that several answers and arguments share.
use Rattle.wire.specs.declared.Span.{Span}
use Rattle.std.specs.Prelude.{ℕ, Result}
use Rattle.refusal.specs.declared.Refusal.{Refusal}
use Rattle.gkid.specs.declared.Gkid.{Gkid}
use Rattle.gkid.specs.Identifier as id
use Rattle.rootid.specs.declared.RootId.{RootId}
use Rattle.rootid.specs.Root.{root_at, root_bytes}
use Rattle.records.specs.Writing.{written_number, written_length}
use Rattle.face.specs.declared.Part.{Part}
use Rattle.face.specs.declared.Identifier.{Identifier}
use Rattle.face.specs.declared.RootBytes.{RootBytes}
use Rattle.face.specs.declared.WrittenAnswer.{WrittenAnswer}

-- what the library shows, as C has it
abbrev pub part_shown : Span → Part
part_shown s = record { at = s.at; len = s.len }

-- 0 and 0, where no part is shown: beside a refusal, and at the end of a list
abbrev pub no_part : Part
no_part = record { at = 0; len = 0 }

abbrev pub identifier_shown : Gkid → Identifier
identifier_shown i = record { l0 = i.l0.0; l1 = i.l1.0; l2 = i.l2.0 }

abbrev pub no_identifier : Identifier
no_identifier = record { l0 = 0; l1 = 0; l2 = 0 }

-- what C hands in, as the library has it
abbrev pub gkid_from : Identifier → Gkid
gkid_from i = id.gkid i.l0 i.l1 i.l2

abbrev pub root_id_from : RootBytes → RootId
root_id_from r = root_at r.bytes 0

-- the 16 bytes as they stand in a record
abbrev pub root_shown : RootId → RootBytes
root_shown r = record { bytes = root_bytes r }

unfoldable pub written_answer : Result ℕ Refusal → WrittenAnswer
written_answer w = record { refusal = written_number w; reserved = 0; len = written_length w }
