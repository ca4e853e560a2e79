-- `put`: the head, then each body into the part that it is lent.
use Rattle.lemmas.proofs.Basics.{ℕ, ◌+◌, ◌-◌, ◌≤◌, arith, List, [], ◌++◌, ◌≡◌, refl, sym, ap, ◌∙◌, length, length-append}
use native.Mathlib.Nat.{zero-add}
use borrow.Rule.Slice.PartMut.{mid_of, put_mid}
use Rattle.wire.specs.Parts.{onto, joined}
use Rattle.wire.proofs.Writing.{lent, onto-none}
use Rattle.envelope.specs.Layout.{bodies_of, end_at}
use Rattle.envelope.specs.Writing.{given_in, given_lengths, envelope_length, head_pieces}
use Rattle.envelope.proofs.Writing.{bytes_are, length-head}
use Rattle.envelope.proofs.put.Goals as goal

-- one body more, put where the record so far ends
next : (done body s : List ℕ) (a e : ℕ) {now last : List ℕ} → (now ≡ onto done s) × (length done ≡ a) → a + length body ≡ e → e ≤ length s
    → last ≡ onto body (mid_of a (e - a) now) → (put_mid a (e - a) now last ≡ onto (done ++ body) s) × (length (done ++ body) ≡ e)
next done body s a e so_far size room put =
    (lent done body s a e so_far.0 so_far.1 size room put, length-append done body ∙ ap (λ n. n + length body) so_far.1 ∙ size)

pub returns : goal.returns
unfolding bodies_of
returns c =
    let g = given_in c.args.bodies in
    let out = c.args.out.now in
    let n = c.requires.lengths in
    let head = joined (head_pieces c.args.head (given_lengths g)) in
    let at = c.places-places.ensures ∙ ap bodies_of n in
    let end : c.end.result ≡ envelope_length g = c.end.ensures ∙ ap end_at n in
    let room : envelope_length g ≤ length out = rw n at c.requires.room in
    let a1 = ap (λ b. b.kdf_parameters.at) at in
    let a2 = ap (λ b. b.agreement.at) at in
    let a3 = ap (λ b. b.agreement_parameters.at) at in
    let a4 = ap (λ b. b.domain.at) at in
    let a5 = ap (λ b. b.forest.at) at in
    let a6 = ap (λ b. b.l1_key.at) at in
    let a7 = ap (λ b. b.l2_key.at) at in
    let r0 = next [] head out 0 80 (sym (onto-none out), refl) (zero-add _ ∙ length-head c.args.head (given_lengths g)) (omega (arith, room)) (rw n at c.put_head.ensures) in
    let r1 = next _ g.kdf out 80 c.places-places.result.kdf_parameters.at r0 (omega (arith, a1)) (omega (arith, a1, room)) c.put.ensures in
    let r2 = next _ g.kdf_parameters out _ c.places-places.result.agreement.at r1 (omega (arith, a1, a2)) (omega (arith, a2, room)) c.copy_into.ensures in
    let r3 = next _ g.agreement out _ c.places-places.result.agreement_parameters.at r2 (omega (arith, a2, a3)) (omega (arith, a3, room)) c.put-2.ensures in
    let r4 = next _ g.agreement_parameters out _ c.places-places.result.domain.at r3 (omega (arith, a3, a4)) (omega (arith, a4, room)) c.copy_into-2.ensures in
    let r5 = next _ g.domain out _ c.places-places.result.forest.at r4 (omega (arith, a4, a5)) (omega (arith, a5, room)) c.put-3.ensures in
    let r6 = next _ g.forest out _ c.places-places.result.l1_key.at r5 (omega (arith, a5, a6)) (omega (arith, a6, room)) c.put-4.ensures in
    let r7 = next _ g.l1_key out _ c.places-places.result.l2_key.at r6 (omega (arith, a6, a7)) (omega (arith, a7, room)) c.put-5.ensures in
    let r8 = next _ g.l2_key out _ c.end.result r7 (omega (arith, a7, end)) (omega (arith, end, room)) c.put-6.ensures in
    r8.0 ∙ ap (λ bs. onto bs out) (sym (bytes_are c.args.head g))
