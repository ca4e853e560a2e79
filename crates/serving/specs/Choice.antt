-- Document 01, "Reach, and the two envelopes": which of two envelopes serves an identifier, and by which key.
use Rattle.std.specs.Prelude.{ℕ, cond, ◌&&◌, List, [], Result, Ok, Err, Option, Some, None}
use Rattle.serving.specs.declared.Serving.{Serving}
use Rattle.refusal.specs.declared.Refusal.{Refusal}
use Rattle.refusal.specs.declared.Refusal.TheVariants.{NeitherServes}
use Rattle.refusal.specs.Number.{number_of}
use Rattle.wire.specs.declared.Span.{Span}
use Rattle.wire.specs.Parts.{part_of, start_of}
use Rattle.gkid.specs.declared.Gkid.{Gkid}
use Rattle.rootid.specs.declared.RootId.{RootId}
use Rattle.rootid.specs.Root.{same_root}
use Rattle.keys.specs.Forms.{keys_of}
use Rattle.reach.specs.Reached.{l1_reaches, l2_reaches}
use Rattle.envelope.specs.declared.Envelope.{Envelope}
use Rattle.envelope.specs.Reading.{envelope_of, form_of}
use Rattle.serving.specs.declared.SeedKey.TheVariants.{L1, L2}
use Rattle.serving.specs.declared.Choice.{Choice}
use Rattle.serving.specs.declared.Choice.TheVariants.{Cached, Fetched}

-- the key that reaches the identifier, and where it stands
unfoldable pub key_for : Envelope → Gkid → Option Serving
key_for e i =
    cond ((keys_of (form_of e)).l2 && l2_reaches e.head.at i) (Some (record { key = L2; place = e.bodies.l2_key }))
    (cond ((keys_of (form_of e)).l1 && l1_reaches e.head.at i) (Some (record { key = L1; place = e.bodies.l1_key }))
    None)

-- an envelope serves if it is accepted, has that root and L0, and reaches the identifier (what is reached has the same L0); said of its
-- bytes this is `Serves`
unfoldable pub served_by : Result Envelope Refusal → RootId → Gkid → Option Serving
served_by (Ok e) root i = cond (same_root e.head.root root) (key_for e i) None
served_by (Err r) root i = None

-- from the cached one if that serves, else the fetched one, else neither
unfoldable pub prefer : Option Serving → Option Serving → Result Choice Refusal
prefer (Some serving) fetched = Ok (Cached serving)
prefer None (Some serving) = Ok (Fetched serving)
prefer None None = Err NeitherServes

abbrev pub choice_of : RootId → Gkid → List ℕ → List ℕ → Result Choice Refusal
choice_of root i cached fetched = prefer (served_by (envelope_of cached) root i) (served_by (envelope_of fetched) root i)

-- the answer: the key's very part of the lent bytes; empty where neither serves
unfoldable pub chosen_part : Result Choice Refusal → List ℕ → List ℕ → List ℕ
chosen_part (Ok (Cached serving)) cached fetched = part_of cached serving.place.at serving.place.len
chosen_part (Ok (Fetched serving)) cached fetched = part_of fetched serving.place.at serving.place.len
chosen_part (Err r) cached fetched = []

-- and where it lies: in which of two lent blocks, and at which place of it
unfoldable pub chosen_block : {A : Type 0} → Result Choice Refusal → A → A → A
chosen_block (Ok (Cached serving)) cached fetched = cached
chosen_block (Ok (Fetched serving)) cached fetched = fetched
chosen_block (Err r) cached fetched = cached

unfoldable pub chosen_start : Result Choice Refusal → List ℕ → List ℕ → ℕ
chosen_start (Ok (Cached serving)) cached fetched = start_of cached serving.place.at serving.place.len
chosen_start (Ok (Fetched serving)) cached fetched = start_of fetched serving.place.at serving.place.len
chosen_start (Err r) cached fetched = 0

-- document 01's number and values: 0 and where the key stands, or 23 and zeros
unfoldable pub choice_number : Result Choice Refusal → ℕ
choice_number (Ok (Cached serving)) = 0
choice_number (Ok (Fetched serving)) = 0
choice_number (Err r) = number_of r

unfoldable pub choice_span : Result Choice Refusal → Span
choice_span (Ok (Cached serving)) = serving.place
choice_span (Ok (Fetched serving)) = serving.place
choice_span (Err r) = record { at = 0; len = 0 }
