-- `judge`: 1 and 2 of the whole list; then at each turn what is left from the place gives the whole answer.
use Rattle.lemmas.proofs.Basics.{◌-◌, arith, sub-zero, ◌≡◌, sym, ap, ◌∙◌, lt-ltb, le-ltb, eq-eqb, ne_eqb}
use Rattle.refusal.specs.Chain.{first_of, unless_refused}
use Rattle.keylist.specs.Reading.{count_of, list_checks, entries_from, list_of}
use Rattle.keylist.proofs.Stepping.{within, entry_lies, turn_refused, turn_on}
use Rattle.keylist.proofs.judge.Goals as goal

pub returns-then-list-gt-LIMIT : goal.returns-then-list-gt-LIMIT
unfolding list_of list_checks first_of unless_refused
returns-then-list-gt-LIMIT c = rw (c.whole.ensures, lt-ltb _ _ c.if-list-gt-LIMIT.true)

pub returns-then-list-lt4 : goal.returns-then-list-lt4
unfolding list_of list_checks first_of unless_refused
returns-then-list-lt4 c = rw (c.whole-then-list-lt4.ensures, le-ltb _ _ c.if-list-gt-LIMIT.false, lt-ltb _ _ c.if-list-lt4.true)

pub loop-index-init : goal.loop-index-init
unfolding list_of unless_refused
loop-index-init c = (omega arith, rw (within _ c.if-list-gt-LIMIT.false c.if-list-lt4.false, sub-zero))

-- past an entry that is accepted
pub overflow_add-at : goal.overflow_add-at
overflow_add-at c =
    let lies = (entry_lies c.args.list.now c.loop-index.at _ _ (sym c.in-Ok.ensures)).0 in
    omega (arith, ap (λ x. x.len) lies.is, lies.high)

pub loop-index-preserved : goal.loop-index-preserved
loop-index-preserved c =
    (omega (arith, c.le32_at-count.ensures), sym (turn_on _ _ _ _ _ (omega (arith, c.le32_at-count.ensures)) (sym c.in-Ok.ensures)) ∙ c.loop-index.invariant.1)

pub returns-in-Err : goal.returns-in-Err
returns-in-Err c =
    sym (turn_refused _ _ _ _ (omega (arith, c.le32_at-count.ensures)) (sym c.in-Err.ensures)) ∙ c.loop-index.invariant.1

pub returns-then-at-list : goal.returns-then-at-list
unfolding entries_from
returns-then-at-list c =
    let done : count_of c.args.list.now - c.loop-index.index ≡ 0 = omega (arith, c.le32_at-count.ensures) in
    let all : c.le32_at-count.result ≡ c.loop-index.index = omega (arith, c.le32_at-count.ensures) in
    rw all (rw (done, eq-eqb _ _ c.if-at-list.true) at c.loop-index.invariant.1)

pub returns : goal.returns
unfolding entries_from
returns c =
    let done : count_of c.args.list.now - c.loop-index.index ≡ 0 = omega (arith, c.le32_at-count.ensures) in
    rw c.whole-2.ensures (rw (done, ne_eqb _ _ c.if-at-list.false) at c.loop-index.invariant.1)
