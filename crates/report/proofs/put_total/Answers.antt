-- `put_total`: 13, or the line put at the start.
use Rattle.lemmas.proofs.Basics.{arith, ◌≡◌, refl, sym, ap, ◌∙◌, length, rules}
use Rattle.std.specs.Prelude.{Ok}
use Rattle.wire.specs.Parts.{onto}
use Rattle.records.specs.Writing.{output_of}
use Rattle.records.proofs.Laws.{no_room, accepted_written}
use Rattle.line.specs.Text.{buffer}
use Rattle.report.specs.Lines.{total_line, total_written}
use Rattle.report.proofs.Lines.{total-put}
use Rattle.report.proofs.put_total.Goals as goal

pub returns-then-out-len : goal.returns-then-out-len
unfolding output_of total_written
returns-then-out-len c =
    let text-is : c.as_bytes-text.result.now ≡ total_line c.args.tally = c.as_bytes-text.ensures ∙ total-put _ (buffer 0 c.new-line.result.bytes c.new-line.result.len) (search rules) c.new-line.ensures c.put_counts.ensures in
    let size = ap length (text-is) in
    record { answer = sym (no_room (length (total_line c.args.tally)) _ (omega arith)); output = refl }

pub returns : goal.returns
unfolding output_of total_written
returns c =
    let text-is : c.as_bytes-text.result.now ≡ total_line c.args.tally = c.as_bytes-text.ensures ∙ total-put _ (buffer 0 c.new-line.result.bytes c.new-line.result.len) (search rules) c.new-line.ensures c.put_counts.ensures in
    let size = ap length (text-is) in
    record { answer = ap Ok size ∙ sym (accepted_written (length (total_line c.args.tally)) _ (omega arith)); output = c.copy_into.ensures ∙ ap (λ t. onto t c.args.out.now) (text-is) }
