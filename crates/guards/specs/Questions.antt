-- Questions about places, their written form in numbers, and reading it back.
use Rattle.std.specs.Prelude.{ℕ, zero, suc, ◌*◌, ◌≤◌, Bool, cond, List, [], ◌∷◌, ◌++◌, length, take, drop, Some, None, Option, nat_le}
use Rattle.std.specs.Option.{option_map, option_and_then, unwrap_or}
use Rattle.std.specs.List.{AllByRecursion}
use Rattle.std.specs.Str.{bytes_eq}
use Rattle.guards.specs.declared.step.Step.{Step}

-- a place: the steps from the root down
abbrev pub Steps : Type 0
Steps = List Step

-- a question: a guard, and the places that it is asked of
pub record Question : Type 0 where
  pub guard : ℕ
  pub places : List Steps

-- an answer rule gives each question one yes or no
abbrev pub Rule : Type 0
Rule = Question → Bool

-- steps in numbers: each one's constructor and field
abbrev pub written_steps : Steps → List ℕ
written_steps [] = []
written_steps (s ∷ p) = s.constructor ∷ (s.field ∷ written_steps p)

-- places in numbers: each one's number of steps, then its steps
abbrev pub written_places : List Steps → List ℕ
written_places [] = []
written_places (p ∷ ps) = length p ∷ (written_steps p ++ written_places ps)

-- a question in numbers: the guard, the number of places, then the places
abbrev pub written : Question → List ℕ
written q = q.guard ∷ (length q.places ∷ written_places q.places)

-- at most four places, each of at most so many steps
abbrev pub Within : ℕ → Question → Type 0
Within most q = (length q.places ≤ 4) × AllByRecursion (λ p. length p ≤ most) q.places

-- whether two questions are the same: whether the same numbers are written
abbrev pub same_question : Question → Question → Bool
same_question a b = bytes_eq (written a) (written b)

-- the steps that numbers say, two for each
abbrev pub steps_in : List ℕ → Steps
steps_in [] = []
steps_in (c ∷ []) = []
steps_in (c ∷ (f ∷ l)) = record { constructor = c; field = f } ∷ steps_in l

-- what is read next from what was read and what is left, if anything was
abbrev pub and_then : {X Y : Type 0} → Option X → (X → Option Y) → Option Y
and_then o f = option_and_then f o

-- the place at the front, of at most so many steps, and the numbers after it
abbrev pub read_place : ℕ → List ℕ → Option (Steps × List ℕ)
read_place most [] = None
read_place most (n ∷ l) = cond (nat_le n most) (cond (nat_le (2 * n) (length l)) (Some (steps_in (take (2 * n) l), drop (2 * n) l)) None) None

-- so many places at the front, and the numbers after them
abbrev pub read_places : ℕ → ℕ → List ℕ → Option (List Steps × List ℕ)
read_places most zero l = Some ([], l)
read_places most (suc n) l = and_then (read_place most l) (λ p. option_map (λ r. (p.0 ∷ r.0, r.1)) (read_places most n p.1))

-- the question at the front, of at most four places of at most so many steps, and the numbers after it
abbrev pub read_question : ℕ → List ℕ → Option (Question × List ℕ)
read_question most [] = None
read_question most (g ∷ []) = None
read_question most (g ∷ (n ∷ l)) = cond (nat_le n 4) (option_map (λ r. (record { guard = g; places = r.0 }, r.1)) (read_places most n l)) None

-- what was read, if no number is left
abbrev pub wholly : {X : Type 0} → X → List ℕ → Option X
wholly x [] = Some x
wholly x (n ∷ l) = None

-- a whole list of numbers as one question, each number of steps in 16 bits
abbrev pub reading : List ℕ → Option Question
reading l = and_then (read_question 65535 l) (λ r. wholly r.0 r.1)

-- the question that numbers say; of no place where they say none
abbrev pub question_in : List ℕ → Question
question_in l = unwrap_or (reading l) (record { guard = 0; places = [] })
