-- Numbers as bytes, little end first.
use Rattle.std.specs.Prelude.{ℕ, zero, suc, ◌+◌, ◌*◌, ◌/◌, ◌%◌, List, [], ◌∷◌, map, take, drop, ℤ}
use Rattle.std.proofs.Common.{to_z, of_z}
use Rattle.std.specs.Int.{w64}

-- the number that bytes write
abbrev pub value_of : List ℕ → ℕ
value_of [] = 0
value_of (b ∷ bs) = b + 256 * value_of bs

-- the first k bytes of a number
abbrev pub bytes_of : ℕ → ℕ → List ℕ
bytes_of zero n = []
bytes_of (suc k) n = n % 256 ∷ bytes_of k (n / 256)

-- the signed number that the eight bytes from i on write: from 2 ^ 63 on they stand for the negative ones
unfoldable pub signed_at : List ℕ → ℕ → ℤ
signed_at b i = to_z w64 (value_of (take 8 (drop i b)))

-- the eight bytes of a signed number
unfoldable pub signed_bytes : ℤ → List ℕ
signed_bytes z = bytes_of 8 (of_z w64 z)

-- the signed number that eight bytes write
abbrev pub signed_number : List ℕ → ℤ
signed_number b = signed_at b 0

-- the signed numbers that pieces of eight bytes write
abbrev pub signed_numbers : List (List ℕ) → List ℤ
signed_numbers pieces = map signed_number pieces
