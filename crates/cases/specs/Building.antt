-- Records put together in a buffer.
use Rattle.std.specs.Prelude.{ℕ, List, [], ◌∷◌, ◌++◌, get_or, take, drop}
use Rattle.wire.specs.Parts.{onto, le32_bytes}

-- bytes put at an offset: what stands before it, then they and what stood behind them; unchanged where they do not fit
unfoldable pub put_at : ℕ → List ℕ → List ℕ → List ℕ
put_at at bs s = take at s ++ onto bs (drop at s)

-- document 01, "Key List Entry and list": the head's five numbers, and the item's own length at the public key offset
unfoldable pub entry_put : List ℕ → ℕ → List ℕ → List ℕ
entry_put head n s = put_at (get_or head 1 0) (le32_bytes (n ∷ [])) (put_at 0 (le32_bytes head) s)

-- document 01, "Group Key Envelope": six numbers, the root identifier at 24, ten lengths at 40
unfoldable pub envelope_put : List ℕ → List ℕ → List ℕ → List ℕ → List ℕ
envelope_put front root lengths s = put_at 40 (le32_bytes lengths) (put_at 24 root (put_at 0 (le32_bytes front) s))
