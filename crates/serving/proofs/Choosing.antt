-- Laws of the choice: when an envelope serves, by which key, and what is chosen of two.
use Rattle.lemmas.proofs.Basics.{ℕ, ◌<◌, arith, Bool, true, false, cond, ◌&&◌, true≢false, List, ◌≡◌, refl, sym, ap, ◌∙◌, eqb, length, ne_eqb}
use Rattle.std.specs.Prelude.{Result, Ok, Err, Option, Some, None}
use Rattle.serving.specs.declared.Serving.{Serving}
use Rattle.lemmas.proofs.Cases.{by_cases, cond_cases, both_true, true-or, false-or}
use Rattle.refusal.specs.Outcome.{Outcome}
use Rattle.refusal.specs.Chain.{first_of, unless_refused}
use Rattle.refusal.specs.declared.Refusal.{Refusal}
use Rattle.refusal.specs.declared.Refusal.TheVariants.{NeitherServes}
use Rattle.refusal.proofs.Numbers.{number_not-zero}
use Rattle.wire.specs.declared.Span.{Span}
use Rattle.wire.specs.Parts.{part_of}
use Rattle.wire.proofs.Parts.{length_part}
use Rattle.gkid.specs.declared.Gkid.{Gkid}
use Rattle.gkid.specs.Identifier.{InGroup}
use Rattle.rootid.specs.declared.RootId.{RootId}
use Rattle.rootid.specs.Root.{same_root}
use Rattle.rootid.proofs.Roots.{same_root_lem, root-same}
use Rattle.keys.specs.Forms.{keys_of}
use Rattle.reach.specs.Reached.{of_group, l1_reaches, l2_reaches, reaches}
use Rattle.reach.specs.Maps.{in_map}
use Rattle.reach.specs.Reaches.{reached_in}
use Rattle.reach.proofs.KeyLaws.{not_by_both}
use Rattle.reach.proofs.ReachLaws.{group_is, no_key}
use Rattle.envelope.specs.declared.EnvelopePart.{EnvelopePart}
use Rattle.envelope.specs.declared.EnvelopePart.TheVariants.{L1Key, L2Key}
use Rattle.envelope.specs.Layout.{is_public, body, head_of, lengths_of, bodies_of}
use Rattle.envelope.specs.Reading.{envelope_checks, envelope_of, envelope_number, shown, span_of, envelope_part, form_of}
use Rattle.envelope.proofs.Reading.{accepted-shown, part_inside}
use Rattle.envelope.proofs.ExactlyWhen.{accepted-keys}
use Rattle.envelope.proofs.Forms.{absent_l1, absent_l2, public_none, keys_64}
use Rattle.serving.specs.declared.SeedKey.{SeedKey}
use Rattle.serving.specs.declared.SeedKey.TheVariants.{L1, L2}
use Rattle.serving.specs.declared.Choice.{Choice}
use Rattle.serving.specs.declared.Choice.TheVariants.{Cached, Fetched}
use Rattle.serving.specs.Serving.{Serves}
use Rattle.serving.specs.Choice.{key_for, served_by, prefer, choice_of, chosen_part, choice_number}
use Rattle.serving.proofs.Reaching.{accepted_bits}

-- the body of a key, and what a key reaches
abbrev pub body_of : SeedKey → EnvelopePart
body_of L1 = L1Key
body_of L2 = L2Key

abbrev pub key_reaches : SeedKey → Gkid → Gkid → Bool
key_reaches L1 at i = l1_reaches at i
key_reaches L2 at i = l2_reaches at i

-- the key by which an envelope serves: it reaches the identifier; the part is that envelope's own key, 64 bytes
pub record Key (s : List ℕ) (i : Gkid) (key : SeedKey) (part : List ℕ) : Type 0 where
  pub reaching : key_reaches key (head_of s).at i ≡ true
  pub own : part ≡ envelope_part s (body_of key)
  pub size : length part ≡ 64

-- what it says that an envelope serves by a key, or does not serve
abbrev pub Says : List ℕ → RootId → Gkid → Option Serving → Type 0
Says s root i (Some k) = Serves s root i × Key s i k.key (part_of s k.place.at k.place.len)
Says s root i None = Serves s root i → ⊥

-- An accepted envelope.
module _ (s : List ℕ) (i : Gkid) (z : envelope_number (envelope_of s) ≡ 0) where
  abbrev place : SeedKey → Span
  place key = body (bodies_of (lengths_of s)) (body_of key)

  -- a key of 64 bytes that reaches
  key_is : (key : SeedKey) → (place key).len ≡ 64 → key_reaches key (head_of s).at i ≡ true → Key s i key (part_of s (place key).at (place key).len)
  unfolding span_of shown
  key_is key long by =
      record {
        reaching = by;
        own = rw (accepted-shown s z);
        size = length_part s (place key).at (place key).len (rw (accepted-shown s z) at (part_inside s (body_of key))) ∙ long;
      }

  -- what its seed keys reach, it serves
  reached_serves : (root : RootId) → (head_of s).root ≡ root → reaches (keys_of (form_of (shown s))) (head_of s).at i ≡ true → Serves s root i
  unfolding reached_in in_map
  reached_serves root same by =
      let bit = accepted_bits s i z ∙ by in
      record { accepted = z; has_root = same; has_l0 = sym (group_is (head_of s).at i (both_true (of_group (head_of s).at i) _ bit).0).0; reached = bit }

  key_says : (root : RootId) → (head_of s).root ≡ root → Says s root i (key_for (shown s) i)
  unfolding key_for reaches shown bodies_of body
  key_says root same =
      let keys = keys_of (form_of (shown s)) in
      cond_cases (Says s root i) (keys.l2 && l2_reaches (head_of s).at i)
      (λ q. let b = both_true keys.l2 _ q in (reached_serves root same (true-or (keys.l1 && l1_reaches (head_of s).at i) q), key_is L2 ((keys_64 s z).1 b.0) b.1))
      (λ p. cond_cases (Says s root i) (keys.l1 && l1_reaches (head_of s).at i)
      (λ q. let b = both_true keys.l1 _ q in (reached_serves root same (rw q), key_is L1 ((keys_64 s z).0 b.0) b.1))
      (λ q serves. true≢false (sym serves.reached ∙ accepted_bits s i z ∙ false-or q p)))

-- An envelope serves by a key exactly where it is accepted, has that root and L0, and reaches the identifier.
pub served : (s : List ℕ) (root : RootId) (i : Gkid) → Says s root i (served_by (envelope_of s) root i)
unfolding envelope_of envelope_number unless_refused served_by shown
served s root i = told (first_of (envelope_checks s)) refl
  where
    told : (o : Outcome) → first_of (envelope_checks s) ≡ o → Says s root i (served_by (envelope_of s) root i)
    told (Ok tt) e =
        let z : envelope_number (envelope_of s) ≡ 0 = rw e in
        rw (accepted-shown s z)
        (cond_cases (Says s root i) (same_root (head_of s).root root)
        (λ q. key_says s i z root (same_root_lem _ _ q))
        (λ q serves. true≢false (sym (root-same root) ∙ ap (λ own. same_root own root) (sym serves.has_root) ∙ q)))
    told (Err r) e = rw e (λ serves. number_not-zero r (rw e at serves.accepted))

-- What an envelope that serves is not: public, or with no key; and an index above 31 is served by nothing.
module _ (s : List ℕ) (root : RootId) (i : Gkid) (serves : Serves s root i) where
  by_keys : reaches (keys_of (form_of (shown s))) (head_of s).at i ≡ true
  by_keys = sym (accepted_bits s i serves.accepted) ∙ serves.reached

  pub serves_seed : is_public (head_of s).flags ≡ false
  unfolding shown
  serves_seed =
      by_cases (λ p. is_public (head_of s).flags ≡ p → p ≡ false) (is_public (head_of s).flags)
      (λ _ p. absurd (true≢false (sym by_keys ∙ rw (public_none (shown s) p) (no_key (head_of s).at i))))
      (λ _ _. refl)
      refl

  pub serves_keyed : (lengths_of s).l1_key ≡ 0 → (lengths_of s).l2_key ≡ 0 → ⊥
  unfolding reaches shown bodies_of
  serves_keyed a b = true≢false (sym by_keys ∙ rw (absent_l1 (shown s) a, absent_l2 (shown s) b))

  pub serves_in_group : InGroup i
  unfolding reached_in in_map
  serves_in_group = (group_is (head_of s).at i (both_true (of_group (head_of s).at i) _ serves.reached).0).1

-- No identifier is reached by both keys of one accepted envelope.
pub reached_by-one : (s : List ℕ) (i : Gkid) → envelope_number (envelope_of s) ≡ 0 → (keys_of (form_of (shown s))).l1 ≡ true → (keys_of (form_of (shown s))).l2 ≡ true
    → l1_reaches (head_of s).at i ≡ true → l2_reaches (head_of s).at i ≡ true → ⊥
reached_by-one s i z k1 k2 = not_by_both _ (head_of s).at i _ _ _ (accepted-keys s z).1 (some _ ((keys_64 s z).0 k1)) (some _ ((keys_64 s z).1 k2))
  where
    some : (n : ℕ) → n ≡ 64 → 0 < n
    some n h = omega arith

-- what a choice says of two envelopes: the cached one if that serves, else the fetched one, else neither, which is 23
abbrev pub ChoiceSays : RootId → Gkid → List ℕ → List ℕ → Result Choice Refusal → Type 0
ChoiceSays root i cached fetched (Ok (Cached serving)) = Says cached root i (Some serving)
ChoiceSays root i cached fetched (Ok (Fetched serving)) = Says cached root i None × Says fetched root i (Some serving)
ChoiceSays root i cached fetched (Err r) = (r ≡ NeitherServes) × (Says cached root i None × Says fetched root i None)

module _ (root : RootId) (i : Gkid) (cached fetched : List ℕ) where
  pub choice_says : ChoiceSays root i cached fetched (choice_of root i cached fetched)
  unfolding prefer
  choice_says = of (served_by (envelope_of cached) root i) (served_by (envelope_of fetched) root i) (served cached root i) (served fetched root i)
    where
      of : (a b : Option Serving) → Says cached root i a → Says fetched root i b → ChoiceSays root i cached fetched (prefer a b)
      of (Some serving) b x y = x
      of None (Some serving) x y = (x, y)
      of None None x y = (refl, (x, y))

  -- The part is 64 bytes where a key is chosen, and empty exactly where 23 is answered.
  pub part_length : length (chosen_part (choice_of root i cached fetched) cached fetched) ≡ cond (eqb (choice_number (choice_of root i cached fetched)) 0) 64 0
  unfolding chosen_part choice_number
  part_length = of (choice_of root i cached fetched) choice_says
    where
      of : (c : Result Choice Refusal) → ChoiceSays root i cached fetched c → length (chosen_part c cached fetched) ≡ cond (eqb (choice_number c) 0) 64 0
      of (Ok (Cached serving)) says = says.1.size
      of (Ok (Fetched serving)) says = says.1.1.size
      of (Err r) says = rw (ne_eqb _ 0 (number_not-zero r))
