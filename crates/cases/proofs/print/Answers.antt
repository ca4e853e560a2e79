-- `print`: the newline is put behind the text, and both are written.
use Rattle.std.proofs.Common.{rules}
use Rattle.lemmas.proofs.Basics.{◌≡◌, ap, ◌∙◌}
use Rattle.line.specs.Text.{text_of, behind, newline}
use Rattle.line.proofs.Lines.{text_in, put-behind}
use Rattle.cases.proofs.print.Goals as goal

pub returns : goal.returns
returns g c =
    let ended : c.as_bytes.result.now ≡ behind (text_of c.args.line) newline =
    c.as_bytes.ensures ∙ ap text_in c.text.ensures ∙ put-behind _ newline (search rules)
    in
    rw ended at c.write_all.ensures.bytes
