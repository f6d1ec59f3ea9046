-- What a run puts to a host, and what it finds.
use Rattle.std.specs.Prelude.{ℕ, ◌+◌, cond, List, [], ◌∷◌, Some, None, Option}
use Rattle.std.specs.Option.{option_map}
use Rattle.guards.specs.Questions.{Question, Rule}

-- the index of the first question that gets a yes
abbrev pub first_yes : Rule → List Question → Option ℕ
first_yes rule [] = None
first_yes rule (q ∷ qs) = cond (rule q) (Some 0) (option_map (λ i. i + 1) (first_yes rule qs))

-- the questions up to the first that gets a yes, with it
abbrev pub until_yes : Rule → List Question → List Question
until_yes rule [] = []
until_yes rule (q ∷ qs) = q ∷ cond (rule q) [] (until_yes rule qs)
