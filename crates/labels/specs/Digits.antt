-- The binary digits of a number, under `&`, `^`, `!` and a power of two.
use Rattle.std.specs.Prelude.{◌≡◌, ℕ, ◌-◌, ◌^◌, ◌<◌, true, not, ◌&&◌, ◌==◌, bit_and, bit_xor}
use Rattle.std.proofs.Common.{arith, pow_pos}
use Rattle.std.specs.Int.{w64, bit_not}
use Rattle.std.proofs.lemmas.Bool.Decides.{nat_tests}
use Rattle.std.proofs.lemmas.Nat.Bits.{bit_at-lt, bit_at_and, bit_at_xor, bit_at_not, bit_at_ones, and_pow}
use Rattle.labels.specs.Labels.{digit}

pub digit_and : (n a b : ℕ) → digit n (bit_and a b) ≡ (digit n a && digit n b)
digit_and n a b = grind (arith, nat_tests, bit_at-lt, bit_at_and)

-- the digits of a that b lacks
pub digit_less : (n a b : ℕ) → digit n (bit_xor a (bit_and a b)) ≡ (digit n a && not (digit n b))
digit_less n a b = grind (arith, nat_tests, bit_at-lt, bit_at_and, bit_at_xor)

pub digit_not : (n b : ℕ) → b < 2 ^ 64 → n < 64 → digit n (bit_not w64 b) ≡ not (digit n b)
digit_not n b h l = let flipped = bit_at_not w64 b n h l in grind (arith, nat_tests, bit_at-lt)

pub digit_test : (n a : ℕ) → not (bit_and a (2 ^ n) == 0) ≡ digit n a
digit_test n a = grind (arith, nat_tests, bit_at-lt, and_pow, pow_pos)

-- the digits of 2 ^ m - 1 below m are 1
pub ones_digit : (n m : ℕ) → n < m → digit n (2 ^ m - 1) ≡ true
ones_digit n m h = grind (arith, nat_tests, bit_at_ones)
