-- `replay_trace`: each turn replays a chunk of whole records, the last one the end of the trace.
use Rattle.std.proofs.Common.{arith, ◌≡◌, sym, subst}
use Rattle.std.specs.Prelude.{Result, Ok, Err, IfErr, IsErrAnd}
use borrow.Author.Tests.{lt-ltb, le-ltb}
use Rattle.std.proofs.lemmas.Result.{IfOk-at_ok, on_ok_weaker}
use Rattle.input.proofs.Mapped.{mapped_from}
use Rattle.replay.proofs.Whole.{begun, goes_on, reported, cut_lines}
use Rattle.replay.proofs.replay_trace.Goals as goal

-- what holds of the error that `?` found holds of the one that it answers
told : {T E : Type 0} (r : Result T E) (x : E) (P : E → Type 0) → IsErrAnd r (λ y. y ≡ x) → P x → IfErr r P
told (Ok t) x P h p = tt
told (Err y) x P h p = subst P (sym h) p

pub loop-init : goal.loop-init
loop-init g c = begun _ _ _ _ c.new-state.ensures

pub loop-preserved : goal.loop-preserved
loop-preserved g c =
    let read = c.read_all in
    let len = mapped_from read.result c.map_err.result _ c.map_err.ensures.cases c.in_ok-len.was in
    let inside = IfOk-at_ok _ len read.ensures.within in
    goes_on _ _ _ _ _ _ c.loop.invariant read.new.buffer c.part-records.result.now c.in_ok-len.len inside c.part-records.ensures.bytes _
    (IfOk-at_ok _ len read.ensures.bytes)
    1771 (omega (arith, inside)) _ (le-ltb c.in_ok-len.len 65527 c.if-ends.false) _ _ c.in_ok-state.ensures.state c.in_ok-state.ensures.text

pub returns-then-ends-clause-whole : goal.returns-then-ends-clause-whole
returns-then-ends-clause-whole g c =
    let read = c.read_all in
    let len = mapped_from read.result c.map_err.result _ c.map_err.ensures.cases c.in_ok-len.was in
    on_ok_weaker c.print_total.result
    (λ total. reported _ _ _ _ _ _ c.loop.invariant read.new.buffer c.part-records.result.now c.in_ok-len.len (IfOk-at_ok _ len read.ensures.within) c.part-records.ensures.bytes _
    (IfOk-at_ok _ len read.ensures.bytes)
    (IfOk-at_ok _ len read.ensures.whole (omega arith)) _ (lt-ltb c.in_ok-len.len 65527 c.if-ends.true) _ _ _ c.in_ok-state.ensures.state c.in_ok-state.ensures.text total)
    c.print_total.ensures.written

pub returns-in_err-state-clause-cut : goal.returns-in_err-state-clause-cut
returns-in_err-state-clause-cut g c =
    told c.from_residual-in_err-state.result c.in_err-state.field-0.0 _ c.from_residual-in_err-state.ensures.1
    (λ other. cut_lines _ _ _ _ _ _ c.loop.invariant _ _ (c.in_err-state.ensures.cut other))
