-- Which types have garments: constructors are taken in one by one, each as soon as all of its field types have garments.
use Rattle.std.specs.Prelude.{ℕ, zero, suc, ◌^◌, Bool, true, false, not, ◌&&◌, ◌||◌, List, [], ◌∷◌, length, ℤ, Some, None, Option}
use Rattle.std.proofs.Common.{to_z}
use Rattle.std.specs.Int.{w64}
use Rattle.std.specs.List.{slice_get}
use Rattle.measure.specs.Measure.{Measure}
use Rattle.rules.specs.declared.rows.TypeRow.{TypeRow}
use Rattle.rules.specs.declared.rows.TypeRow.TheVariants.{Choice, Measured}
use Rattle.rules.specs.Book.{Schema, fields_of, owner_of, is_choice}
use Rattle.rules.specs.Garments.{is_some_number}

-- whether some signed 64-bit number passes; shut, for nothing computes with it
unfoldable pub any_of : ℕ → (ℕ → Bool) → Bool
any_of zero test = false
any_of (suc n) test = test n || any_of n test

unfoldable pub any_atom : (ℤ → Bool) → Bool
any_atom test = any_of (2 ^ 64) (λ n. test (to_z w64 n))

abbrev pub or_also : Option ℕ → Bool → ℕ → Option ℕ
or_also (Some k) b n = Some k
or_also None true n = Some n
or_also None false n = None

-- the first number below n that passes
abbrev pub first_below : ℕ → (ℕ → Bool) → Option ℕ
first_below zero passing = None
first_below (suc n) passing = or_also (first_below n passing) (passing n) n

-- whether a constructor of the list builds the type
abbrev pub makes : Schema → List ℕ → ℕ → Bool
makes d [] t = false
makes d (c ∷ cs) t = is_some_number (owner_of d c) t || makes d cs t

-- a measured type has garments where its sort has an atom (so where it is served), a choice where a constructor makes them
abbrev pub inhabited_by : Measure → Bool → Option TypeRow → Bool
inhabited_by m made None = false
inhabited_by m made (Some Choice) = made
inhabited_by m made (Some (Measured s)) = any_atom (m.atom s)

abbrev pub inhabited_with : Measure → Schema → List ℕ → ℕ → Bool
inhabited_with m d cs t = inhabited_by m (makes d cs t) (slice_get d.types t)

abbrev pub all_of : (ℕ → Bool) → List ℕ → Bool
all_of passing [] = true
all_of passing (t ∷ ts) = passing t && all_of passing ts

-- the type that a constructor builds is a choice that the list does not make yet
abbrev pub wanted : Schema → List ℕ → Option ℕ → Bool
wanted d cs None = false
wanted d cs (Some t) = is_choice (slice_get d.types t) && not (makes d cs t)

-- a constructor that makes the first garments of its type
abbrev pub fresh : Measure → Schema → List ℕ → ℕ → Bool
fresh m d cs c = wanted d cs (owner_of d c) && all_of (inhabited_with m d cs) (fields_of d c)

abbrev pub take_in : List ℕ → Option ℕ → (ℕ → List ℕ) → List ℕ
take_in cs None more = cs
take_in cs (Some c) more = more c

abbrev pub closing : Measure → Schema → ℕ → List ℕ → List ℕ
closing m d zero cs = cs
closing m d (suc n) cs = take_in cs (first_below (length d.constructors) (fresh m d cs)) (λ c. closing m d n (c ∷ cs))

-- the makers: for each choice type that has garments one constructor that makes them, the newest first
abbrev pub makers : Measure → Schema → List ℕ
makers m d = closing m d (length d.constructors) []

-- whether a type has garments
abbrev pub inhabited : Measure → Schema → ℕ → Bool
inhabited m d t = inhabited_with m d (makers m d) t
