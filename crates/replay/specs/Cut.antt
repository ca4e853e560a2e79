-- A report that was cut.
use Rattle.std.specs.Prelude.{ℕ, List, Option}
use Rattle.std.specs.Io.KnownBytes.{Appends}
use Rattle.report.specs.Lines.{lines_from}

-- what was written is lines of records, from the first on, and nothing behind them
abbrev pub OnlyLines : List ℕ → Option (List ℕ) → Option (List ℕ) → Type 0
OnlyLines table old new = (records : List (List ℕ)) × Appends old new (lines_from table 1 records)
