-- `shown`: each field is read at its place.
use Rattle.lemmas.proofs.Basics.{◌/◌, rules, ◌≡◌, sym, ap, ◌∙◌, eqb, get_or}
use Rattle.wire.proofs.Numbers.{bytes_each}
use Rattle.trace.specs.Layout.{root_field}
use Rattle.trace.proofs.Signed.{kept}
use Rattle.trace.specs.Reading.{rights_of, root_of, shown}
use Rattle.trace.proofs.Fields.{given_is, rights_is, verdict_is, clock_is, root_is, l0_is, l1_is, l2_is}
use Rattle.trace.proofs.shown.Goals as goal

pub returns : goal.returns
unfolding shown
returns c =
    let s = c.args.s.now in
    let b = bytes_each s (λ k. (c.type_inv.s k).fits) in
    let w = c.requires in
    let root : c.then.result ≡ root_of (get_or s 8 0 / 128) (root_field s) = rw (root_is s b w) (search rules) in
    λ i.
    record {
      clock = record { 0 = (c.be64_at.ensures ∙ sym (clock_is s b w)) i };
      rights = (c.rights_of.ensures ∙ ap rights_of (sym (rights_is s))) i;
      verdict = eqb (sym (verdict_is s) i) 1;
      request =
          record {
            root = (root ∙ ap (λ g. root_of g (root_field s)) (sym (given_is s b w))) i;
            l0 = kept _ c.index_at.type_inv c.index_at.ensures (sym (l0_is s b w)) i;
            l1 = kept _ c.index_at-2.type_inv c.index_at-2.ensures (sym (l1_is s b w)) i;
            l2 = kept _ c.index_at-3.type_inv c.index_at-3.ensures (sym (l2_is s b w)) i;
          };
    }
