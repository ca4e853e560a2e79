-- Laws of the map: its bits are what the keys reach, and its total is how many they reach.
use Rattle.lemmas.proofs.Basics.{ℕ, zero, suc, ◌+◌, ◌*◌, ◌/◌, ◌%◌, ◌<◌, arith, Bool, ◌&&◌, ◌||◌, and-true, and_assoc, List, [], ◌∷◌, ◌++◌, ◌≡◌, refl, sym, ap, ap₂, ◌∙◌, leb, leb-zero, get_or, le-ltb}
use Rattle.lemmas.proofs.Cases.{by_cases}
use Rattle.lemmas.specs.Counting.{count}
use Rattle.lemmas.proofs.Counting.{count_is, count_parts}
use Rattle.gkid.specs.declared.Gkid.{Gkid}
use Rattle.gkid.specs.Identifier.{gkid, index_above_31}
use Rattle.keys.specs.declared.SeedKeys.{SeedKeys}
use Rattle.reach.specs.Reached.{of_group, l1_reaches, l2_reaches, reaches}
use Rattle.reach.specs.Bits.{bit_at, row_where, table}
use Rattle.reach.specs.Maps.{row_of, map_of, in_map, total_of}
use Rattle.reach.proofs.ReachLaws.{group_is, outside}
use Rattle.reach.proofs.BitLaws.{row-bit, row_is, table_at}

-- the identifiers of a row are all of the group, or none is
same_row : (at : Gkid) (l1 l2 : ℕ) → l2 < 32 → of_group at (gkid at.l0.0 l1 l2) ≡ of_group at (gkid at.l0.0 l1 0)
unfolding of_group index_above_31
same_row at l1 l2 h = rw (le-ltb 31 l2 (omega arith))

-- The first identifier of a row tells: the L1 key reaches a row whole or not at all, the L2 key the row up to its own index.
pub row_by : (keys : SeedKeys) (at : Gkid) (l1 : ℕ) {whole part : Bool}
    → keys.l1 && l1_reaches at (gkid at.l0.0 l1 0) ≡ whole → keys.l2 && l2_reaches at (gkid at.l0.0 l1 0) ≡ part
    → row_of keys at l1 ≡ row_where 32 (λ l2. whole || part && leb l2 at.l2.0)
unfolding row_of reaches l1_reaches l2_reaches
row_by keys at l1 w p = row_is 32 (λ l2 h. rw (same_row at l1 l2 h, ← w, ← p) (simp (leb-zero, and-true, and_assoc)))

-- Row L1 of the map has, at index L2, what the keys reach.
pub map-bit : (keys : SeedKeys) (at : Gkid) (l1 l2 : ℕ) → l1 < 32 → l2 < 32 → bit_at (get_or (map_of keys at) l1 0) l2 ≡ reaches keys at (gkid at.l0.0 l1 l2)
unfolding map_of row_of
map-bit keys at l1 l2 h k = ap (λ row. bit_at row l2) (table_at 32 (row_of keys at) l1 h) ∙ row-bit _ l2 k

-- An identifier is in the map exactly where the keys reach it.
pub in_map_lem : (keys : SeedKeys) (at i : Gkid) → in_map at (map_of keys at) i ≡ reaches keys at i
unfolding in_map
in_map_lem keys at i =
    by_cases (λ t. t && bit_at (get_or (map_of keys at) i.l1.0 0) i.l2.0 ≡ reaches keys at i) (of_group at i)
    (λ e. let g = group_is at i e in
    map-bit keys at i.l1.0 i.l2.0 (omega arith) (omega arith) ∙ ap (λ l0. reaches keys at (gkid l0 i.l1.0 i.l2.0)) (sym g.0))
    (λ e. sym (outside keys at i e))

-- One row more.
pub total_next : (rows : List ℕ) (row : ℕ) → total_of (rows ++ (row ∷ [])) ≡ total_of rows + count 32 (bit_at row)
unfolding total_of
total_next [] row = omega arith
total_next (r ∷ rows) row = rw (total_next rows row) (omega arith)

-- the n-th identifier of an L0 group
abbrev pub member : ℕ → ℕ → Gkid
member l0 n = gkid l0 (n / 32) (n % 32)

row_count_lem : (keys : SeedKeys) (at : Gkid) (l1 : ℕ) → count 32 (bit_at (row_of keys at l1)) ≡ count 32 (λ k. reaches keys at (member at.l0.0 (32 * l1 + k)))
unfolding row_of
row_count_lem keys at l1 =
    count_is 32
    (λ k h. let row : l1 ≡ (32 * l1 + k) / 32 = omega arith in
    let index : k ≡ (32 * l1 + k) % 32 = omega arith in
    row-bit _ k h ∙ λ i. reaches keys at (gkid at.l0.0 (row i) (index i)))

rows_total : (keys : SeedKeys) (at : Gkid) (n : ℕ) → total_of (table n (row_of keys at)) ≡ count (32 * n) (λ m. reaches keys at (member at.l0.0 m))
unfolding table total_of count
rows_total keys at zero = refl
rows_total keys at (suc n) =
    let more : 32 * suc n ≡ 32 * n + 32 = omega arith in
    total_next (table n (row_of keys at)) (row_of keys at n) ∙ ap₂ ◌+◌ (rows_total keys at n) (row_count_lem keys at n)
    ∙ sym (count_parts (32 * n) 32 _) ∙ ap (λ m. count m (λ m. reaches keys at (member at.l0.0 m))) (sym more)

-- The total of a map is the number of identifiers, of the 1,024 of the L0 group, that the keys reach.
pub map-total : (keys : SeedKeys) (at : Gkid) → total_of (map_of keys at) ≡ count 1024 (λ n. reaches keys at (member at.l0.0 n))
unfolding map_of
map-total keys at = rows_total keys at 32
