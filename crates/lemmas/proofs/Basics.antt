-- The names of the toolchain's own libraries that proofs here use most, so that a proof brings them in by one line. One that is not
-- here is brought in from where it stands.
pub use Prim.Native.Nat.{ℕ, zero, suc, ◌+◌, ◌-◌, ◌*◌, ◌/◌, ◌%◌, ◌^◌, ◌≤◌, ◌<◌, min, max}
pub use native.Mathlib.Omega.{arith}
pub use native.Mathlib.Nat.{add-zero, add-suc, sub-zero, add-sub_cancel_left, mul_assoc, pow-suc, pow-succ', pow-le-pow_right, div-div-eq-div-mul, div-eq_of_lt, min_comm, max_comm}
pub use native.Mathlib.Numerals.{add-one}
pub use mathlib.Core.Bool.{Bool, true, false, cond, not, ◌&&◌, ◌||◌, true≢false, false≢true, and-true, and-false, and_assoc}
pub use mathlib.Core.List.{List, [], ◌∷◌, ◌++◌, map, append-nil, append_assoc}
pub use mathlib.Core.Logic.{◌⊎◌, inl, inr, ⊎_elim}
pub use mathlib.Core.Path.{◌≡◌, refl, sym, ap, ap₂, subst, ◌∙◌}
pub use lib.Dec.{ltb, leb, eqb, leb-zero, eqb-suc-zero}
pub use lib.ListN.{length, get_or, take, drop, replicate, length-append, length-take, length-drop, length-set, get_or-append, take-append-drop, drop_of_length-le}
pub use lib.Seq.{length-take-le, take_at, take_all, take-add, take-suc, take-suc-set, take-length, take-append-le, drop_at, drop-cons, drop-drop, drop-append-le, drop-append_seam, get_or_at}
pub use borrow.Author.Rules.{rules}
pub use borrow.Author.Tests.{lt-ltb, le-ltb, ltb-true, ltb-false, le-leb, lt-leb, leb-true, leb-false, eq-eqb, ne_eqb, eqb-true, eqb-false, not-true}
pub use borrow.Author.Count.{below_more}
