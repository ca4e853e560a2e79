-- `row`: the row whole, or up to the L2 key's index, or empty.
use Rattle.lemmas.proofs.Basics.{true, false, and-false, refl, sym, ◌∙◌}
use Rattle.lemmas.specs.Counting.{bit}
use Rattle.reach.specs.Bits.{row_where}
use Rattle.reach.proofs.MapLaws.{row_by}
use Rattle.reach.proofs.row.Goals as goal
use Rattle.reach.proofs.row.Goals.{else-keys-via-then-keys+else-l1_reaches, else-keys-via-else-keys, else-keys-2-via-then-keys-2+else-l2_reaches, else-keys-2-via-else-keys-2}

pub returns-then-l1_reaches : goal.returns-then-l1_reaches
unfolding row_where bit
returns-then-l1_reaches c =
    c.row_to.ensures
    ∙ sym (row_by c.args.keys c.args.at c.args.l1 {whole = true} (rw (c.if-keys.true, ← c.l1_reaches.ensures, c.if-l1_reaches.true)) refl)

pub returns-then-l2_reaches : goal.returns-then-l2_reaches
returns-then-l2_reaches c =
    c.row_to-then-l2_reaches.ensures
    ∙ sym (row_by c.args.keys c.args.at c.args.l1 {whole = false} {part = true}
    (elim c.else-keys.branch [
      | else-keys-via-then-keys+else-l1_reaches w ↦ rw (← w.l1_reaches.ensures, w.if-l1_reaches.false, and-false)
      | else-keys-via-else-keys w ↦ rw w.if-keys.false
    ])
    (rw (c.if-keys-2.true, ← c.l2_reaches.ensures, c.if-l2_reaches.true)))

pub returns : goal.returns
unfolding row_where bit
returns c =
    sym (row_by c.args.keys c.args.at c.args.l1 {whole = false} {part = false}
    (elim c.else-keys.branch [
      | else-keys-via-then-keys+else-l1_reaches w ↦ rw (← w.l1_reaches.ensures, w.if-l1_reaches.false, and-false)
      | else-keys-via-else-keys w ↦ rw w.if-keys.false
    ])
    (elim c.else-keys-2.branch [
      | else-keys-2-via-then-keys-2+else-l2_reaches w ↦ rw (← w.l2_reaches.ensures, w.if-l2_reaches.false, and-false)
      | else-keys-2-via-else-keys-2 w ↦ rw w.if-keys-2.false
    ]))
