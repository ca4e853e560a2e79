-- `Reach::total`: the sum so far is the total of the first rows.
use Rattle.lemmas.proofs.Basics.{arith, add-one, ◌≤◌, ◌≡◌, length, get_or, take-suc, take_all, ap, ◌∙◌, rules}
use mir.Syntax.{w32}
use mir.Val.{Fits}
use lib.Count.{ones-le}
use Rattle.reach.specs.Maps.{total_of}
use Rattle.reach.proofs.BitLaws.{ones_count}
use Rattle.reach.proofs.MapLaws.{total_next}
use Rattle.reach.proofs.Reach.total.Goals as goal

pub loop-row-init : goal.loop-row-init
unfolding total_of
loop-row-init c = search rules

pub overflow_add-total : goal.overflow_add-total
overflow_add-total c =
    let row : Fits w32 (get_or c.args.self.rows c.loop-row.row-index 0) = search rules in omega (arith, ones-le 32 _ row.fits)

pub loop-row-preserved : goal.loop-row-preserved
loop-row-preserved c =
    let row : Fits w32 (get_or c.args.self.rows c.loop-row.row-index 0) = search rules in
    let size : length c.args.self.rows ≡ 32 = search rules in
    (rw (add-one c.loop-row.row-index, take-suc c.args.self.rows c.loop-row.row-index 0 (omega arith), total_next, ← ones_count _ row.fits) (omega arith), omega (arith, ones-le 32 _ row.fits))

pub returns : goal.returns
returns c =
    let all : length c.args.self.rows ≤ c.loop-row.row-index = search rules in c.loop-row.invariant.0 ∙ ap total_of (take_all c.loop-row.row-index c.args.self.rows all)
