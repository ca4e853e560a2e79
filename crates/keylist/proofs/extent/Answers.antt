-- `extent`: the two checks of the list rule.
use Rattle.lemmas.proofs.Basics.{◌-◌, arith, ◌≡◌, length, lt-ltb, le-ltb}
use Rattle.std.specs.Prelude.{Ok, Err}
use Rattle.refusal.specs.declared.Refusal.TheVariants.{Short, LengthsDisagree}
use Rattle.refusal.specs.Chain.{first_of, unless_refused}
use Rattle.keylist.specs.Reading.{extent_checks, extent_of}
use Rattle.keylist.proofs.Stepping.{extent_told}
use Rattle.keylist.proofs.extent.Goals as goal

pub returns-then-list-at : goal.returns-then-list-at
unfolding extent_of extent_checks first_of unless_refused
returns-then-list-at c =
    let is : Err Short ≡ extent_of c.args.list.now c.args.at = rw (lt-ltb (length c.args.list.now - c.args.at) 20 (omega arith)) in
    let told = extent_told _ _ is in
    record { answer = told.0; number = told.1.0; inside = told.1.1 }

pub returns-then-left-lt20 : goal.returns-then-left-lt20
unfolding extent_of extent_checks first_of unless_refused
returns-then-left-lt20 c =
    let is : Err Short ≡ extent_of c.args.list.now c.args.at = rw (lt-ltb (length c.args.list.now - c.args.at) 20 (omega arith)) in
    let told = extent_told _ _ is in
    record { answer = told.0; number = told.1.0; inside = told.1.1 }

pub returns-then-len-left : goal.returns-then-len-left
unfolding extent_of extent_checks first_of unless_refused
returns-then-len-left c =
    let is : Err LengthsDisagree ≡ extent_of c.args.list.now c.args.at =
    rw (le-ltb (length c.args.list.now - c.args.at) 20 (omega arith), ← c.le32_at-len.ensures, c.if-len-left.true) in
    let told = extent_told _ _ is in
    record { answer = told.0; number = told.1.0; inside = told.1.1 }

pub returns : goal.returns
unfolding extent_of extent_checks first_of unless_refused
returns c =
    let is : Ok (record { at = c.args.at; len = c.le32_at-len.result }) ≡ extent_of c.args.list.now c.args.at =
    rw (le-ltb (length c.args.list.now - c.args.at) 20 (omega arith), ← c.le32_at-len.ensures, c.if-len-left.false) in
    let told = extent_told _ _ is in
    record { answer = told.0; number = told.1.0; inside = told.1.1 }
