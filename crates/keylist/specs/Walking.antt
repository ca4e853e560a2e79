-- Document 01, "Key List Entry and list": the walk over a list holds the lent list and its place.
use Rattle.std.specs.Prelude.{ℕ, List}
use Rattle.std.specs.Borrow.{Bor}
use Rattle.keylist.specs.declared.Place.{Place}
use Rattle.keylist.specs.declared.Advance.{Advance}
use Rattle.keylist.specs.declared.walk.Walk.{Walk}
use Rattle.keylist.specs.Stepping.{advance_of}

-- the walk over a lent list, at a place
abbrev pub walk_at : Bor (List ℕ) → Place → Walk
walk_at list p = record { list = list; place = p }

-- the step that a walk takes, with the place after it
abbrev pub advanced : Walk → Advance
advanced w = advance_of w.list.now w.place

-- the walk after that step: the same list, at the place after it
abbrev pub walked_on : Walk → Walk
walked_on w = walk_at w.list (advanced w).place
