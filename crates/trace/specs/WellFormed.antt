-- Document 02, No. 7: a well-formed record, in the paper's terms, with no order.
use Rattle.std.specs.Prelude.{ℕ, ◌≤◌, List, ◌≡◌, length}
use Rattle.trace.specs.Layout.{given_field, rights_field, spare_field, root_field}
use Rattle.trace.specs.Reading.{record_length}

pub record WellFormed (s : List ℕ) : Type 0 where
  -- the whole of a record is there
  pub whole : record_length ≤ length s
  -- no spare bit is set
  pub spare : spare_field s ≡ 0
  -- rights are none, public or seed
  pub rights : rights_field s ≤ 2
  -- where no root is given, no bit of the identifier is set
  pub root : given_field s ≡ 0 → root_field s ≡ 0
