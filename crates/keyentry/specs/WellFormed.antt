-- MS-EFSR 2.2.2.1.2, narrowed by document 01: when an entry is well formed, without an order of checks.
use Rattle.std.specs.Prelude.{ℕ, ◌+◌, ◌≤◌, ◌<◌, List, ◌⊎◌, ◌≡◌, length}
use Rattle.keyentry.specs.Layout.{length_field, public_key_at, public_key_length, fek_at, fek_length}

-- byte k belongs to an item of n bytes at p
abbrev pub Of : ℕ → ℕ → ℕ → Type 0
Of k p n = (p ≤ k) × (k < p + n)

-- an item of n bytes at p is completely contained inside the Data Fields
abbrev pub Contained : List ℕ → ℕ → ℕ → Type 0
Contained s p n = (20 ≤ p) × (p + n ≤ length s)

-- items do not overlap: no byte belongs to both
abbrev pub Apart : ℕ → ℕ → ℕ → ℕ → Type 0
Apart p n f e = (k : ℕ) → Of k p n → Of k f e → ⊥

-- there is no unused area of more than 8 contiguous bytes: of any 9 in a row inside the Data Fields, one belongs to an item
abbrev pub Used : List ℕ → ℕ → ℕ → ℕ → ℕ → Type 0
Used s p n f e = (from : ℕ) → 20 ≤ from → from + 9 ≤ length s → (k : ℕ) × ((from ≤ k) × ((k < from + 9) × (Of k p n ⊎ Of k f e)))

pub record WellFormed (s : List ℕ) : Type 0 where
  -- document 01: at most 65,535 bytes, and the head is there
  pub limit : length s ≤ 65535
  pub head : 20 ≤ length s
  -- Length MUST be equal to the length of this key list entry in bytes
  pub length_is : length_field s ≡ length s
  -- the public key item begins with its own length, which counts those four bytes
  pub own_length : Contained s (public_key_at s) 4
  pub whole : 4 ≤ public_key_length s
  -- both items MUST be completely contained inside the Data Fields, and the FEK is there
  pub public_key : Contained s (public_key_at s) (public_key_length s)
  pub fek_some : 0 < fek_length s
  pub fek : Contained s (fek_at s) (fek_length s)
  -- and MUST NOT overlap each other
  pub apart : Apart (public_key_at s) (public_key_length s) (fek_at s) (fek_length s)
  -- there MUST NOT be unused areas spanning more than 8 contiguous bytes
  pub used : Used s (public_key_at s) (public_key_length s) (fek_at s) (fek_length s)
