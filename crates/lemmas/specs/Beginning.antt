-- Bytes that begin with an item of some kind; others may follow.
use Rattle.std.specs.Prelude.{ℕ, ◌≤◌, List, length, take}

pub record Begins (Item : List ℕ → Type 0) (s : List ℕ) : Type 0 where
  pub size : ℕ
  pub inside : size ≤ length s
  pub item : Item (take size s)
