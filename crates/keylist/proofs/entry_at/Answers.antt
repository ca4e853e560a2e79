-- `entry_at`: the list rule, then what the reader says of the entry's record, told apart.
use Rattle.lemmas.proofs.Basics.{sym, ap, ◌∙◌}
use Rattle.lemmas.proofs.Results.{passed_on}
use Rattle.keyentry.specs.Reading.{entry_of}
use Rattle.keylist.proofs.Stepping.{lies, place_barred, place_refused, entry_accepted, entry_refused}
use Rattle.keylist.proofs.entry_at.Goals as goal

pub returns-in_err-span : goal.returns-in_err-span
returns-in_err-span c =
    rw (passed_on c.from_residual.ensures.1) (sym (entry_refused _ _ _ (place_barred _ _ _ (sym c.in_err-span.ensures.answer))))

pub returns-in_err-entry : goal.returns-in_err-entry
returns-in_err-entry c =
    let found = lies _ _ _ (sym c.in_ok-span.ensures.answer) in
    rw (passed_on c.from_residual-in_err-entry.ensures.1) (sym (entry_refused _ _ _ (place_refused _ _ _ found _ (ap entry_of (sym c.part.ensures.bytes) ∙ sym c.in_err-entry.ensures))))

pub returns : goal.returns
returns c =
    let found = lies _ _ _ (sym c.in_ok-span.ensures.answer) in
    sym (entry_accepted _ _ _ found _ (ap entry_of (sym c.part.ensures.bytes) ∙ sym c.in_ok-entry.ensures))
