-- How up to four numbers are held: their array has four, and those past the count are 0.
use Rattle.std.specs.Prelude.{◌≡◌, ℕ, ◌-◌, ◌≤◌, List, ◌++◌, length, take, drop, replicate}
use Rattle.std.proofs.Common.{arith, take-append-drop, length-take-le}

-- the array that holds a list
abbrev pub padded : List ℕ → List ℕ
padded l = l ++ replicate (4 - length l) 0

-- the first `count` of four numbers say something, and the others are 0
pub record HoldsUpToFour (count : ℕ) (numbers : List ℕ) : Type 0 where
  pub few : count ≤ 4
  pub four : length numbers ≡ 4
  pub rest : drop count numbers ≡ replicate (4 - count) 0

pub length-held : (count : ℕ) (numbers : List ℕ) → HoldsUpToFour count numbers → length (take count numbers) ≡ count
length-held count numbers h = length-take-le count numbers (omega arith)

pub padded-held : (count : ℕ) (numbers : List ℕ) → HoldsUpToFour count numbers → padded (take count numbers) ≡ numbers
padded-held count numbers h =
    let rest = h.rest in
    rw (length-held count numbers h, ← rest) (take-append-drop count numbers)
