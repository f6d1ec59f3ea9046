-- The atoms of a sort that answer every test of a list as wanted.
use Rattle.std.specs.Prelude.{ℕ, Bool, true, ◌&&◌, List, [], ◌∷◌, ℤ}
use Rattle.measure.specs.Measure.{Measure, gives}
use Rattle.measure.specs.declared.asks.Ask.{Ask}

-- whether n gives the wanted answer to each test of the list
abbrev pub agrees : Measure → ℕ → ℤ → List Ask → Bool
agrees m s n [] = true
agrees m s n (a ∷ rest) = gives a.wanted (m.passes s a.test n) && agrees m s n rest

-- whether n is an atom of the sort s that does so
abbrev pub answers : Measure → ℕ → ℤ → List Ask → Bool
answers m s n asks = m.atom s n && agrees m s n asks
