-- `Text::number`: the digits are made from the last one on, and their text is put.
use Rattle.lemmas.proofs.Basics.{arith, ap, ◌∙◌, length-set, rules}
use Rattle.line.specs.Text.{put}
use Rattle.line.proofs.Decimals.{spelt_start, spelt_more, spelt_last, two_digits}
use Rattle.line.proofs.Text.number.Goals as goal

pub loop-rest-init : goal.loop-rest-init
loop-rest-init g c = spelt_start _ _ (omega arith) (search rules)

pub loop-rest-smaller : goal.loop-rest-smaller
loop-rest-smaller g c = omega (arith, two_digits _ c.loop-rest.invariant (omega arith))

pub loop-rest-preserved : goal.loop-rest-preserved
loop-rest-preserved g c = spelt_more _ c.loop-rest.invariant (omega arith)

pub slice_bounds-text-end : goal.slice_bounds-text-end
slice_bounds-text-end g c = rw length-set (omega arith)

pub returns : goal.returns
returns g c = c.text.ensures ∙ ap (put _) (spelt_last _ c.loop-rest.invariant (omega arith))
