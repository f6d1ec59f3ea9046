-- The difference rule, beside the listed answers of the crate of guards: two answer rules that hosts mean.
use Rattle.std.specs.Prelude.{Bool, false, ◌&&◌, List, [], ◌∷◌, ℤ, pos, ◌-ℤ◌, Some, None, Option, int_lt, nat_lt, slice_index_or}
use Rattle.guards.specs.Questions.{Steps, Rule}
use Rattle.rules.specs.Garments.{Value, built, measured, walk}

-- whether a - b, without wrapping, exceeds the limit, where both parts are atoms
abbrev pub exceeds : ℤ → Option Value → Option Value → Bool
exceeds limit None o = false
exceeds limit (Some (built c vs)) o = false
exceeds limit (Some (measured s a)) None = false
exceeds limit (Some (measured s a)) (Some (built c vs)) = false
exceeds limit (Some (measured s a)) (Some (measured t b)) = int_lt limit (a -ℤ b)

-- exactly two places
abbrev pub of_two : (Steps → Steps → Bool) → List Steps → Bool
of_two f [] = false
of_two f (p ∷ []) = false
of_two f (p ∷ (q ∷ [])) = f p q
of_two f (p ∷ (q ∷ (r ∷ ps))) = false

-- guards 0 to 7, with two places that end on atoms a and b: yes where a - b exceeds the guard's number; all else no
abbrev pub difference_rule : Value → List ℤ → Rule
difference_rule v limits q =
    nat_lt q.guard 8 && of_two (λ p r. exceeds (slice_index_or limits q.guard (pos 0)) (walk (Some v) p) (walk (Some v) r)) q.places
