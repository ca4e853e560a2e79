-- Document 01, "Key List Entry and list": when a list is well formed, without an order of checks.
use Rattle.std.specs.Prelude.{ℕ, zero, suc, ◌≤◌, List, [], ◌++◌, length, drop}
use Rattle.keyentry.specs.WellFormed.{WellFormed}
use Rattle.keylist.specs.Reading.{count_of}

-- n well-formed entries back to back, and nothing left
pub data Entries : ℕ → List ℕ → Type 0 where
  none : Entries zero []
  more : {n : ℕ} {rest : List ℕ} (entry : List ℕ) → WellFormed entry → Entries n rest → Entries (suc n) (entry ++ rest)

-- a count and that many entries, in at most 65,535 bytes
pub record WellFormedList (s : List ℕ) : Type 0 where
  pub limit : length s ≤ 65535
  pub head : 4 ≤ length s
  pub entries : Entries (count_of s) (drop 4 s)
