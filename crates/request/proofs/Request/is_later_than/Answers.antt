-- `Request::is_later_than`: the order of the triples.
use Rattle.lemmas.proofs.Basics.{◌≡◌, rules}
use mir.Syntax.{w32, w64}
use mir.Val.{to_z, of_z}
use Rattle.request.specs.Indices.{later_than_now}
use Rattle.request.proofs.Signs.{triple_order}
use Rattle.request.proofs.Request.is_later_than.Goals as goal

pub returns : goal.returns
unfolding later_than_now
returns c =
    let p0 : to_z w64 (of_z w64 c.from.result) ≡ c.from.result = search rules in
    let p1 : to_z w64 (of_z w64 c.from-2.result) ≡ c.from-2.result = search rules in
    let p2 : to_z w64 (of_z w64 c.from-3.result) ≡ c.from-3.result = search rules in
    let q0 : to_z w64 (of_z w64 c.from-4.result) ≡ c.from-4.result = search rules in
    let q1 : to_z w64 (of_z w64 c.from-5.result) ≡ c.from-5.result = search rules in
    let q2 : to_z w64 (of_z w64 c.from-6.result) ≡ c.from-6.result = search rules in
    let l0 : to_z w32 (of_z w32 c.args.self.l0) ≡ c.args.self.l0 = search rules in
    let l1 : to_z w32 (of_z w32 c.args.self.l1) ≡ c.args.self.l1 = search rules in
    let l2 : to_z w32 (of_z w32 c.args.self.l2) ≡ c.args.self.l2 = search rules in
    rw (c.gt.ensures, p0, p1, p2, q0, q1, q2, c.from.ensures, c.from-2.ensures, c.from-3.ensures, c.from-4.ensures, c.from-5.ensures, c.from-6.ensures, l0, l1, l2)
    (triple_order _ _ _ _ _ _)
