-- Tables whose rows name earlier rows by number, and the meaning of each row by the meanings before it.
use Rattle.std.specs.Prelude.{ℕ, Bool, false, List, [], ◌∷◌, ◌++◌, take, ℤ, pos, negsuc, None, Option, nat_lt}
use Rattle.std.specs.List.{slice_get}

-- the meanings of rows, after the meanings of those before them: each row is made of what stands before it
abbrev pub unfolded : {R A : Type 0} → (List A → R → A) → List A → List R → List A
unfolded make before [] = before
unfolded make before (r ∷ rows) = unfolded make (before ++ make before r ∷ []) rows

-- the natural number that a signed one is; 0 for a negative one
abbrev pub natural : ℤ → ℕ
natural (pos n) = n
natural (negsuc n) = 0

abbrev pub naturals : List ℤ → List ℕ
naturals [] = []
naturals (z ∷ zs) = natural z ∷ naturals zs

-- the numbers that a row holds: the first four, since a call that puts more is refused and makes no row
abbrev pub up_to_four : List ℕ → List ℕ
up_to_four l = take 4 l

-- whether z is a number from 0 to n - 1
abbrev pub under : ℕ → ℤ → Bool
under n (pos k) = nat_lt k n
under n (negsuc k) = false

-- what a signed number names in a list
abbrev pub named : {A : Type 0} → List A → ℤ → Option A
named xs (pos n) = slice_get xs n
named xs (negsuc n) = None
