-- `run`: what was read tells the envelope of the whole input.
use Rattle.std.proofs.Common.{arith, ap, ◌∙◌, subst}
use Rattle.std.proofs.lemmas.Result.{IfOk-at_ok, on_ok_weaker}
use Rattle.std.specs.Io.KnownBytes.{Appends}
use Rattle.input.proofs.Mapped.{mapped_from}
use Rattle.envelope.specs.Reading.{envelope_of}
use Rattle.envline.specs.Line.{line_of}
use Rattle.envinfo.proofs.Whole.{told}
use Rattle.envinfo.proofs.run.Goals as goal

pub returns-clause-line : goal.returns-clause-line
returns-clause-line g c =
    let before = g.W.Write.contents c.args.to.now in
    let after = g.W.Write.contents c.print.new.to in
    let read = c.read_all.ensures in
    let len = mapped_from c.read_all.result c.map_err.result _ c.map_err.ensures.cases c.in_ok-len.was in
    let is = c.line_of.ensures ∙ ap (λ s. line_of (envelope_of s)) c.part.ensures.bytes in
    on_ok_weaker c.print.result
    (λ wrote. told (g.R.Read.remaining c.args.from.now) (g.R.Read.remaining c.read_all.new.from) c.read_all.new.buffer c.in_ok-len.len
    (λ e. Appends before after (line_of e)) (omega arith) (IfOk-at_ok _ len read.within) (IfOk-at_ok _ len read.bytes) (IfOk-at_ok _ len read.whole)
    (subst (Appends before after) is wrote))
    c.print.ensures.written
