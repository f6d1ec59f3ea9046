-- What writing into lent numbers leaves.
use Rattle.std.specs.Prelude.{ℕ, cond, List, [], ◌∷◌, ◌++◌, length, drop, Some, None, Option, nat_le}
use Rattle.guards.specs.Hosts.{Asked}
use Rattle.guards.specs.Listed.{written_answers}
use Rattle.guards.specs.Questions.{Steps, written_places}

-- numbers put at the front where there is room, with how many they are; else nothing is changed
abbrev pub put : List ℕ → List ℕ → Option ℕ × List ℕ
put ns out = cond (nat_le (length ns) (length out)) (Some (length ns), ns ++ drop (length ns) out) (None, out)

-- a place put at the front, if 16 bits hold its number of steps
abbrev pub put_place : Steps → List ℕ → Option ℕ × List ℕ
put_place p out = cond (nat_le (length p) 65535) (put (written_places (p ∷ [])) out) (None, out)

-- a question with its answer put at the front
abbrev pub put_answer : Asked → List ℕ → Option ℕ × List ℕ
put_answer a out = put (written_answers (a ∷ [])) out
