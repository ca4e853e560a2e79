-- `judge_given`: the checks that can apply, one after the other.
use Rattle.lemmas.proofs.Basics.{◌≤◌, ◌<◌, arith, sym, ◌∙◌, lt-ltb, le-ltb, eq-eqb, ne_eqb}
use Rattle.refusal.specs.Chain.{first_of}
use Rattle.keyentry.specs.Writing.{entry_length}
use Rattle.keyentry.proofs.Writing.{write_checks_lem}
use Rattle.keyentry.proofs.judge_given.Goals as goal

pub returns-then-grown-gt-LIMIT : goal.returns-then-grown-gt-LIMIT
unfolding first_of
returns-then-grown-gt-LIMIT c flags =
    let over : 65535 < entry_length c.args.item.now c.args.fek.now = omega arith in
    sym (write_checks_lem flags _ _ ∙ rw (lt-ltb 65535 _ over))

-- the length was capped: what is not over the limit is whole
pub returns-then-item-lt4 : goal.returns-then-item-lt4
unfolding first_of
returns-then-item-lt4 c flags =
    let within : entry_length c.args.item.now c.args.fek.now ≤ 65535 = omega arith in
    sym (write_checks_lem flags _ _ ∙ rw (le-ltb 65535 _ within, lt-ltb _ _ c.if-item-lt4.true))

pub returns-then-le32_at-item : goal.returns-then-le32_at-item
unfolding first_of
returns-then-le32_at-item c flags =
    let within : entry_length c.args.item.now c.args.fek.now ≤ 65535 = omega arith in
    sym (write_checks_lem flags _ _ ∙ rw (le-ltb 65535 _ within, le-ltb _ _ c.if-item-lt4.false, ← c.le32_at.ensures, ne_eqb _ _ c.if-le32_at-item.true))

pub returns-then-fek-eq0 : goal.returns-then-fek-eq0
unfolding first_of
returns-then-fek-eq0 c flags =
    let within : entry_length c.args.item.now c.args.fek.now ≤ 65535 = omega arith in
    sym (write_checks_lem flags _ _ ∙ rw (le-ltb 65535 _ within, le-ltb _ _ c.if-item-lt4.false, ← c.le32_at.ensures, eq-eqb _ _ c.if-le32_at-item.false, eq-eqb _ _ c.if-fek-eq0.true))

pub returns : goal.returns
unfolding first_of
returns c flags =
    let within : entry_length c.args.item.now c.args.fek.now ≤ 65535 = omega arith in
    sym (write_checks_lem flags _ _ ∙ rw (le-ltb 65535 _ within, le-ltb _ _ c.if-item-lt4.false, ← c.le32_at.ensures, eq-eqb _ _ c.if-le32_at-item.false, ne_eqb _ _ c.if-fek-eq0.false))
