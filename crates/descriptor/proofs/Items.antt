-- Items that stand at the start of bytes: exactly when the bytes begin with one.
use Rattle.lemmas.proofs.Basics.{ℕ, zero, suc, ◌+◌, ◌-◌, ◌≤◌, ◌<◌, arith, true, false, List, ◌++◌, ◌≡◌, refl, sym, ap, subst, ◌∙◌, leb, length, take, drop, length-append, length-take-le, take_at, take-append-drop, drop-append_seam, le-leb, leb-true}
use Rattle.lemmas.specs.Beginning.{Begins}
use Rattle.lemmas.proofs.Cases.{both_true, true-and}
use Rattle.wire.specs.Numbers.{le_of}
use Rattle.wire.specs.Parts.{le_at, part_of}
use Rattle.wire.proofs.Parts.{part_left}
use Rattle.descriptor.specs.Layout.{told_size, entry_count}
use Rattle.descriptor.specs.Checking.{starts_sized, entries_fit, starts_acl}
use Rattle.descriptor.specs.WellFormed.{Sized, Entries, none, more, Acl}

-- a number inside the first n bytes is that of the whole
told_first : (w at n : ℕ) (t : List ℕ) → at + w ≤ n → n ≤ length t → le_at w (take n t) at ≡ le_at w t at
unfolding le_at
told_first w at n t h k =
    let inside : at + w ≤ length (take n t) = rw (length-take-le n t k) h in
    ap le_of (sym (part_left (take n t) (drop n t) at w inside) ∙ ap (λ s. part_of s at w) (take-append-drop n t))

-- an item that tells its own size
pub sized_begins : (least : ℕ) (t : List ℕ) → 4 ≤ least → starts_sized least t ≡ true → (told_size t ≤ length t) × Sized least (take (told_size t) t)
unfolding starts_sized
sized_begins least t four e =
    let both = both_true (leb least (told_size t)) _ e in
    let low = leb-true least (told_size t) both.0 in
    let inside = leb-true (told_size t) (length t) both.1 in
    let long = length-take-le (told_size t) t inside in
    (inside, record { size = told_first 2 2 (told_size t) t (omega arith) inside ∙ sym long; head = rw long low })

pub begins_sized : (least n : ℕ) (t : List ℕ) → 4 ≤ least → n ≤ length t → Sized least (take n t) → (told_size t ≡ n) × (starts_sized least t ≡ true)
unfolding starts_sized
begins_sized least n t four inside w =
    let long = length-take-le n t inside in
    let told : told_size t ≡ n = sym (told_first 2 2 n t (omega (arith, w.head)) inside) ∙ w.size ∙ long in
    (told, rw told (true-and (le-leb least n (omega (arith, w.head))) (le-leb n (length t) inside)))

-- entries, one behind the other
pub fit_entries : (n : ℕ) (t : List ℕ) → entries_fit n t ≡ true → Entries n t
unfolding entries_fit
fit_entries zero t e = none
fit_entries (suc n) t e =
    let both = both_true (starts_sized 4 t) _ e in
    subst (Entries (suc n)) (take-append-drop (told_size t) t)
    (more (take (told_size t) t) (sized_begins 4 t (omega arith) both.0).1 (fit_entries n (drop (told_size t) t) both.1))

pub entries_fit_lem : {n : ℕ} {t : List ℕ} → Entries n t → entries_fit n t ≡ true
unfolding entries_fit
entries_fit_lem none = refl
entries_fit_lem (more {n} {rest} entry w es) =
    let inside : length entry ≤ length (entry ++ rest) = rw length-append (omega arith) in
    let own : Sized 4 (take (length entry) (entry ++ rest)) = rw (take_at entry rest (length entry) refl) w in
    let s = begins_sized 4 (length entry) (entry ++ rest) (omega arith) inside own in
    true-and s.1 (rw (s.0, drop-append_seam entry rest) (entries_fit_lem es))

-- One entry more: it is none, or what follows it decides.
pub stops : (n : ℕ) (t : List ℕ) → 0 < n → starts_sized 4 t ≡ false → entries_fit n t ≡ false
unfolding entries_fit
stops zero t h e = absurd (omega arith)
stops (suc n) t h e = rw e

pub goes_on_lem : (n : ℕ) (t : List ℕ) → 0 < n → starts_sized 4 t ≡ true → entries_fit (n - 1) (drop (told_size t) t) ≡ entries_fit n t
unfolding entries_fit
goes_on_lem zero t h e = absurd (omega arith)
goes_on_lem (suc n) t h e = let less : suc n - 1 ≡ n = omega arith in rw (less, e)

-- an ACL
pub acl_begins : (t : List ℕ) → starts_acl t ≡ true → Begins Acl t
unfolding starts_acl
acl_begins t e =
    let both = both_true (starts_sized 8 t) _ e in
    let s = sized_begins 8 t (omega arith) both.0 in
    let counted : entry_count (take (told_size t) t) ≡ entry_count t = told_first 2 4 (told_size t) t (omega (arith, s.1.head, length-take-le (told_size t) t s.0)) s.0 in
    record { size = told_size t; inside = s.0; item = record { sized = s.1; entries = rw counted (fit_entries (entry_count t) _ both.1) } }

pub begins_acl : (t : List ℕ) → Begins Acl t → starts_acl t ≡ true
unfolding starts_acl
begins_acl t b =
    let s = begins_sized 8 b.size t (omega arith) b.inside b.item.sized in
    let counted : entry_count (take b.size t) ≡ entry_count t = told_first 2 4 b.size t (omega (arith, b.item.sized.head, length-take-le b.size t b.inside)) b.inside in
    true-and s.1 (rw (s.0, ← counted) (entries_fit_lem b.item.entries))
