-- Answers that are listed in numbers.
use Rattle.std.specs.Prelude.{ℕ, zero, suc, ◌-◌, Bool, true, false, cond, List, [], ◌∷◌, ◌++◌, length, Some, None, Option, ◌==◌, nat_le}
use Rattle.std.specs.Option.{option_map_or}
use Rattle.guards.specs.Questions.{Question, Rule, written, same_question, and_then, read_question}
use Rattle.guards.specs.Hosts.{Asked}

-- the answer at the front, 1 for yes or 0 for no, and the numbers after it
abbrev pub read_answer : Question → List ℕ → Option (Asked × List ℕ)
read_answer q [] = None
read_answer q (n ∷ l) = cond (nat_le n 1) (Some ((q, (n == 1)), l)) None

-- the listed answer at the front: a question of places of at most 16 steps, then its answer
abbrev pub read_entry : List ℕ → Option (Asked × List ℕ)
read_entry l = and_then (read_question 16 l) (λ r. read_answer r.0 r.1)

-- the answers listed once so many numbers are passed over: each entry's own numbers are, to the next
abbrev pub answers_after : ℕ → List ℕ → List Asked
answers_after n [] = []
answers_after (suc n) (x ∷ l) = answers_after n l
answers_after zero (x ∷ l) = option_map_or (λ e. e.0 ∷ answers_after (length l - length e.1) l) (read_entry (x ∷ l)) []

-- the answers that numbers list, up to where no entry can be read
abbrev pub answers_in : List ℕ → List Asked
answers_in l = answers_after 0 l

-- the first equal question decides, and one that is not listed gets no
abbrev pub first_answer : List Asked → Rule
first_answer [] q = false
first_answer (a ∷ l) q = cond (same_question a.0 q) a.1 (first_answer l q)

-- the answer rule that numbers list
abbrev pub listed_rule : List ℕ → Rule
listed_rule l q = first_answer (answers_in l) q

-- an answer as a number
abbrev pub bit : Bool → ℕ
bit true = 1
bit false = 0

-- questions with their answers, as numbers that list them
abbrev pub written_answers : List Asked → List ℕ
written_answers [] = []
written_answers (a ∷ l) = written a.0 ++ (bit a.1 ∷ written_answers l)
