-- The eight digits that `head_of` adds.
use Rattle.std.specs.Prelude.{◌≡◌, ℕ, ◌+◌, ◌*◌, ◌<◌, List, [], ◌∷◌, get_or}
use Rattle.std.proofs.Common.{refl, arith}
use Rattle.bptree_heads.specs.Heads.{head_in, AreBytes}

-- the head of a string is the sum of its first eight bytes, each times its weight
pub eight_digits : (bytes : List ℕ) → head_in 8 bytes ≡ get_or bytes 0 0 * 72057594037927936 + get_or bytes 1 0 * 281474976710656 + get_or bytes 2 0 * 1099511627776 + get_or bytes 3 0 * 4294967296 + (get_or bytes 4 0 * 16777216 + get_or bytes 5 0 * 65536 + get_or bytes 6 0 * 256 + get_or bytes 7 0)
unfolding head_in
eight_digits [] = refl
eight_digits (a ∷ []) = omega (arith)
eight_digits (a ∷ b ∷ []) = omega (arith)
eight_digits (a ∷ b ∷ c ∷ []) = omega (arith)
eight_digits (a ∷ b ∷ c ∷ d ∷ []) = omega (arith)
eight_digits (a ∷ b ∷ c ∷ d ∷ e ∷ []) = omega (arith)
eight_digits (a ∷ b ∷ c ∷ d ∷ e ∷ f ∷ []) = omega (arith)
eight_digits (a ∷ b ∷ c ∷ d ∷ e ∷ f ∷ g ∷ []) = omega (arith)
eight_digits (a ∷ b ∷ c ∷ d ∷ e ∷ f ∷ g ∷ h ∷ rest) = omega (arith)

-- the first eight bytes of a string are below 256
pub eight_bytes : (bytes : List ℕ) → get_or bytes 0 0 < 256 → get_or bytes 1 0 < 256 → get_or bytes 2 0 < 256 → get_or bytes 3 0 < 256 → get_or bytes 4 0 < 256 → get_or bytes 5 0 < 256 → get_or bytes 6 0 < 256 → get_or bytes 7 0 < 256 → AreBytes 8 bytes
unfolding AreBytes
eight_bytes [] i j k l m n o p = tt
eight_bytes (a ∷ []) i j k l m n o p = (i, tt)
eight_bytes (a ∷ b ∷ []) i j k l m n o p = (i, (j, tt))
eight_bytes (a ∷ b ∷ c ∷ []) i j k l m n o p = (i, (j, (k, tt)))
eight_bytes (a ∷ b ∷ c ∷ d ∷ []) i j k l m n o p = (i, (j, (k, (l, tt))))
eight_bytes (a ∷ b ∷ c ∷ d ∷ e ∷ []) i j k l m n o p = (i, (j, (k, (l, (m, tt)))))
eight_bytes (a ∷ b ∷ c ∷ d ∷ e ∷ f ∷ []) i j k l m n o p = (i, (j, (k, (l, (m, (n, tt))))))
eight_bytes (a ∷ b ∷ c ∷ d ∷ e ∷ f ∷ g ∷ []) i j k l m n o p = (i, (j, (k, (l, (m, (n, (o, tt)))))))
eight_bytes (a ∷ b ∷ c ∷ d ∷ e ∷ f ∷ g ∷ h ∷ rest) i j k l m n o p = (i, (j, (k, (l, (m, (n, (o, (p, tt))))))))
