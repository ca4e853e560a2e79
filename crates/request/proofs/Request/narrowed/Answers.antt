-- `Request::narrowed`: 14, 15; where all three are 0 or above, each narrowed.
use Rattle.lemmas.proofs.Basics.{◌≡◌, sym, ◌∙◌, rules}
use mir.Syntax.{w32}
use mir.Val.{to_z, of_z}
use Rattle.refusal.specs.Chain.{first_of, unless_refused}
use Rattle.request.specs.Indices.{index_checks, named_of}
use Rattle.request.specs.Narrowed.{narrowed_of}
use Rattle.request.proofs.Signs.{names_each}
use Rattle.request.proofs.Requests.{narrowed_shows}
use Rattle.request.proofs.Request.narrowed.Goals as goal

pub returns-then-out_of_range : goal.returns-then-out_of_range
unfolding narrowed_of index_checks first_of unless_refused
returns-then-out_of_range c = narrowed_shows _ (rw (← c.out_of_range.ensures, c.if-out_of_range.true))

pub returns-then-is_mixed : goal.returns-then-is_mixed
unfolding narrowed_of index_checks first_of unless_refused
returns-then-is_mixed c =
    narrowed_shows _ (rw (← c.out_of_range.ensures, c.if-out_of_range.false, ← c.is_mixed.ensures, c.if-is_mixed.true))

pub overflow_cast-result : goal.overflow_cast-result
overflow_cast-result c =
    let each = names_each c.args.self (search rules) (search rules) (search rules) (sym (c.names_one.ensures) ∙ c.if-names_one.true) in
    let l0 : to_z w32 (of_z w32 c.args.self.l0) ≡ c.args.self.l0 = search rules in
    rw l0 each.0.allowed

pub overflow_cast-result-then-names_one : goal.overflow_cast-result-then-names_one
overflow_cast-result-then-names_one c =
    let each = names_each c.args.self (search rules) (search rules) (search rules) (sym (c.names_one.ensures) ∙ c.if-names_one.true) in
    let l1 : to_z w32 (of_z w32 c.args.self.l1) ≡ c.args.self.l1 = search rules in
    rw l1 each.1.0.allowed

pub overflow_cast-result-then-names_one-2 : goal.overflow_cast-result-then-names_one-2
overflow_cast-result-then-names_one-2 c =
    let each = names_each c.args.self (search rules) (search rules) (search rules) (sym (c.names_one.ensures) ∙ c.if-names_one.true) in
    let l2 : to_z w32 (of_z w32 c.args.self.l2) ≡ c.args.self.l2 = search rules in
    rw l2 each.1.1.allowed

pub returns-then-names_one : goal.returns-then-names_one
unfolding narrowed_of index_checks first_of unless_refused named_of
returns-then-names_one c =
    let each = names_each c.args.self (search rules) (search rules) (search rules) (sym (c.names_one.ensures) ∙ c.if-names_one.true) in
    let l0 : to_z w32 (of_z w32 c.args.self.l0) ≡ c.args.self.l0 = search rules in
    let l1 : to_z w32 (of_z w32 c.args.self.l1) ≡ c.args.self.l1 = search rules in
    let l2 : to_z w32 (of_z w32 c.args.self.l2) ≡ c.args.self.l2 = search rules in
    narrowed_shows _ (rw (l0, l1, l2, each.0.same, each.1.0.same, each.1.1.same, ← c.out_of_range.ensures, c.if-out_of_range.false, ← c.is_mixed.ensures, c.if-is_mixed.false, ← c.names_one.ensures, c.if-names_one.true))

pub returns : goal.returns
unfolding narrowed_of index_checks first_of unless_refused
returns c =
    narrowed_shows _ (rw (← c.out_of_range.ensures, c.if-out_of_range.false, ← c.is_mixed.ensures, c.if-is_mixed.false, ← c.names_one.ensures, c.if-names_one.false))
