-- `choose`: 20; else the best of the rows passed.
use Rattle.lemmas.proofs.Basics.{◌≡◌, ◌*◌, arith, add-one, rules, sym, ap, ◌∙◌, length, length-drop}
use Rattle.std.specs.Iterator.Adapters.{enumerate_count}
use Rattle.roottable.specs.Rows.{row_size, row_count}
use Rattle.roottable.specs.Selection.{chosen_row}
use Rattle.roottable.proofs.Choice.{place, step_says, suits, ranks, best_row, row_shows}
use Rattle.roottable.proofs.Rows.{next_row}
use Rattle.roottable.proofs.choose.Goals as goal

pub returns-then-is_table_wrong : goal.returns-then-is_table_wrong
unfolding chosen_row
returns-then-is_table_wrong c = row_shows _ _ (rw (← c.is_table_wrong.ensures, c.if-is_table_wrong.true))

pub loop-k-init : goal.loop-k-init
loop-k-init c =
    rw (c.into_iter-k-iterator.ensures.into_iter_gives, c.enumerate-k-items.ensures.source, c.enumerate-k-items.ensures.count)
    (record { size = c.chunks_exact.ensures.size; rest = c.chunks_exact.ensures.rest; within = omega arith; best = λ j h. absurd (omega arith) })

pub loop-k-preserved : goal.loop-k-preserved
loop-k-preserved c =
    let steps = c.in-Some.ensures.steps in
    let k = enumerate_count c.loop-k.k-iterator in
    let next = next_row c.args.table.now c.in-Some.bytes.now _ k c.loop-k.invariant.within (sym c.loop-k.invariant.rest ∙ steps.0.1.0) (steps.0.1.1 ∙ c.loop-k.invariant.size) in
    rw steps.2
    (record {
      size = steps.0.0 ∙ c.loop-k.invariant.size;
      rest = next.behind;
      within = next.within;
      best = rw (add-one, c.step-best.ensures, c.read.ensures, next.row, steps.1) (step_says k (suits c.args.wanted c.args.table.now) (ranks c.args.wanted c.args.table.now) c.loop-k.best c.loop-k.invariant.best);
    })

pub returns : goal.returns
returns c =
    let k = enumerate_count c.loop-k.k-iterator in
    let left = c.in-None.ensures.steps.0.1.0 in
    let all : k ≡ row_count c.args.table.now =
    omega (arith, left, c.loop-k.invariant.size, c.loop-k.invariant.within, ap length c.loop-k.invariant.rest, length-drop (row_size * k) c.args.table.now)
    in
    let placed : c.map.result ≡ place c.loop-k.best = search rules in
    row_shows _ _
    (rw placed (sym (best_row c.args.wanted c.args.table.now c.loop-k.best (sym c.is_table_wrong.ensures ∙ c.if-is_table_wrong.false) (rw all at c.loop-k.invariant.best))))
