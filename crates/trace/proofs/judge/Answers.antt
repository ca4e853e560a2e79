-- `judge`: one check after the other, on byte 8 and the identifier.
use Rattle.lemmas.proofs.Basics.{◌/◌, ◌%◌, ◌≤◌, ◌<◌, arith, ◌≡◌, sym, ◌∙◌, length, get_or, lt-ltb, le-ltb, eq-eqb, ne_eqb}
use Rattle.refusal.specs.Chain.{first_of}
use Rattle.wire.proofs.Numbers.{Bytes, bytes_each}
use Rattle.trace.specs.Reading.{record_checks}
use Rattle.trace.proofs.Fields.{given_is, rights_is, spare_is, zero_is}
use Rattle.trace.proofs.judge.Goals as goal

pub returns-then-s-lt-LEN : goal.returns-then-s-lt-LEN
unfolding record_checks first_of
returns-then-s-lt-LEN c = let short : length c.args.s.now < 37 = omega arith in rw (lt-ltb _ 37 short)

pub returns-then-flags-ne0 : goal.returns-then-flags-ne0
unfolding record_checks first_of
returns-then-flags-ne0 c =
    let whole : 37 ≤ length c.args.s.now = omega arith in
    let set : get_or c.args.s.now 8 0 % 16 ≡ 0 → ⊥ = λ e. omega arith in
    rw (le-ltb _ 37 whole, spare_is, ne_eqb _ 0 set)

pub returns-then-flags-eq3 : goal.returns-then-flags-eq3
unfolding record_checks first_of
returns-then-flags-eq3 c =
    let no_spare : get_or c.args.s.now 8 0 % 16 ≡ 0 = omega arith in
    let whole : 37 ≤ length c.args.s.now = omega arith in
    let three : get_or c.args.s.now 8 0 / 32 % 4 ≡ 3 = omega arith in
    rw (le-ltb _ 37 whole, spare_is, eq-eqb _ 0 no_spare, rights_is, eq-eqb _ 3 three)

pub returns-then-is_stray : goal.returns-then-is_stray
unfolding record_checks first_of
returns-then-is_stray c =
    let not_three : get_or c.args.s.now 8 0 / 32 % 4 ≡ 3 → ⊥ = λ e. omega arith in
    let no_spare : get_or c.args.s.now 8 0 % 16 ≡ 0 = omega arith in
    let bytes : Bytes c.args.s.now = bytes_each c.args.s.now (λ k. (c.type_inv.s k).fits) in
    let whole : 37 ≤ length c.args.s.now = omega arith in
    rw (le-ltb _ 37 whole, spare_is, eq-eqb _ 0 no_spare, rights_is, ne_eqb _ 3 not_three, given_is _ bytes whole, zero_is _ bytes whole, ← c.at.ensures, sym c.is_stray.ensures ∙ c.if-is_stray.true)

pub returns : goal.returns
unfolding record_checks first_of
returns c =
    let not_three : get_or c.args.s.now 8 0 / 32 % 4 ≡ 3 → ⊥ = λ e. omega arith in
    let no_spare : get_or c.args.s.now 8 0 % 16 ≡ 0 = omega arith in
    let bytes : Bytes c.args.s.now = bytes_each c.args.s.now (λ k. (c.type_inv.s k).fits) in
    let whole : 37 ≤ length c.args.s.now = omega arith in
    rw (le-ltb _ 37 whole, spare_is, eq-eqb _ 0 no_spare, rights_is, ne_eqb _ 3 not_three, given_is _ bytes whole, zero_is _ bytes whole, ← c.at.ensures, sym c.is_stray.ensures ∙ c.if-is_stray.false)
