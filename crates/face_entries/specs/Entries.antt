-- Document 01, "Key List Entry and list", as C has its answers: the entry.
use Rattle.std.specs.Prelude.{ℕ, Result, Ok, Err}
use Rattle.refusal.specs.declared.Refusal.{Refusal}
use Rattle.keyentry.specs.declared.Entry.{Entry}
use Rattle.keyentry.specs.declared.Algorithm.{Algorithm}
use Rattle.keyentry.specs.declared.Algorithm.TheVariants.{Rsa, Aes256, Unsupported}
use Rattle.keyentry.specs.Reading.{algorithm_of, entry_number, entry_values}
use Rattle.face.specs.Shapes.{part_shown}
use Rattle.face_entries.specs.declared.EntryAnswer.{EntryAnswer}

unfoldable pub algorithm_code : Algorithm → ℕ
algorithm_code Rsa = 1
algorithm_code Aes256 = 2
algorithm_code Unsupported = 3

-- 0 on a refusal
unfoldable pub entry_algorithm : Result Entry Refusal → ℕ
entry_algorithm (Ok e) = algorithm_code (algorithm_of e.flags)
entry_algorithm (Err r) = 0

unfoldable pub entry_answer : Result Entry Refusal → EntryAnswer
entry_answer r =
    record {
      refusal = entry_number r;
      algorithm = entry_algorithm r;
      flags = (entry_values r).flags;
      reserved = 0;
      item = part_shown (entry_values r).item;
      fek = part_shown (entry_values r).fek;
    }
