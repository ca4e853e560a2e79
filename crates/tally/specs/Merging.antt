-- The totals of two traces as that of the one followed by the other.
use Rattle.std.specs.Prelude.{ℕ, ◌+◌, ◌^◌, Bool, cond, ◌&&◌, ltb, Option, Some, None}
use Rattle.tally.specs.declared.Ends.{Ends}
use Rattle.lemmas.specs.Counting.{bit}
use Rattle.tally.specs.declared.Tally.{Tally}

-- one time more, where the second begins earlier than the first ends
unfoldable pub seam : Option Ends → Option Ends → ℕ
seam None second = 0
seam (Some a) None = 0
seam (Some a) (Some b) = bit (ltb b.first.0 a.last.0)

-- from the first's first clock to the second's last, where they have clocks
unfoldable pub joined_ends : Option Ends → Option Ends → Option Ends
joined_ends None second = second
joined_ends (Some a) None = Some a
joined_ends (Some a) (Some b) = Some (record { first = a.first; last = b.last })

unfoldable pub merge : Tally → Tally → Tally
merge x y =
    record {
      accepted = x.accepted + y.accepted;
      refused = x.refused + y.refused;
      earlier = x.earlier + y.earlier + seam x.clocks y.clocks;
      clocks = joined_ends x.clocks y.clocks;
    }

-- each count is a number of 64 bits
unfoldable pub fits : Tally → Bool
fits x = ltb x.accepted (2 ^ 64) && (ltb x.refused (2 ^ 64) && ltb x.earlier (2 ^ 64))

-- the merged total, unless a count of it does not fit: none wraps
unfoldable pub merged_of : Tally → Tally → Option Tally
merged_of x y = cond (fits (merge x y)) (Some (merge x y)) None
