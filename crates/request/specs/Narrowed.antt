-- Document 01, "The GetKey decision": what the three indices of a request ask for, once narrowed.
use Rattle.std.specs.Prelude.{ℕ, Bool, true, false, cond, Result, Ok, Err, Option, Some, None}
use Rattle.refusal.specs.declared.Refusal.{Refusal}
use Rattle.refusal.specs.Chain.{first_of, unless_refused}
use Rattle.refusal.specs.Number.{number_of}
use Rattle.gkid.specs.declared.Gkid.{Gkid}
use Rattle.gkid.specs.Identifier.{gkid}
use Rattle.request.specs.declared.Request.{Request}
use Rattle.request.specs.Indices.{index_checks, names, named_of}

-- 14, 15; else the named one, or the latest
unfoldable pub narrowed_of : Request → Result (Option Gkid) Refusal
narrowed_of q = unless_refused Err (first_of (index_checks q)) (Ok (cond (names q) (Some (named_of q)) None))

-- document 01's number, whether an identifier is named, and that one: zeros where the latest is asked for; or the refusal's number and
-- zeros
unfoldable pub narrowed_number : Result (Option Gkid) Refusal → ℕ
narrowed_number (Ok asked) = 0
narrowed_number (Err r) = number_of r

unfoldable pub narrowed_names : Result (Option Gkid) Refusal → Bool
narrowed_names (Ok (Some i)) = true
narrowed_names (Ok None) = false
narrowed_names (Err r) = false

unfoldable pub narrowed_shown : Result (Option Gkid) Refusal → Gkid
narrowed_shown (Ok (Some i)) = i
narrowed_shown (Ok None) = gkid 0 0 0
narrowed_shown (Err r) = gkid 0 0 0

-- the named one, or zeros where none is named
unfoldable pub named_or_zeros : Request → Gkid
named_or_zeros q = cond (names q) (named_of q) (gkid 0 0 0)
