-- What holds of the written form of questions and of listed answers.
use Rattle.std.specs.Prelude.{◌≡◌, ℕ, List, ◌++◌, Some, None, Decides}
use Rattle.std.specs.List.{AllByRecursion}
use Rattle.guards.specs.Hosts.{Asked}
use Rattle.guards.specs.Listed.{read_entry, answers_in, written_answers}
use Rattle.guards.specs.Questions.{Question, Within, written, reading, same_question}

-- back: what is written of at most four places, of at most 65535 steps, reads as that question, whatever its numbers
-- only: what reads as a question is what that question writes
-- apart, same: questions are equal exactly when their written forms are, which the test says
pub record WrittenForm : Type 0 where
  pub back : (q : Question) → Within 65535 q → reading (written q) ≡ Some q
  pub only : (l : List ℕ) (q : Question) → reading l ≡ Some q → (written q ≡ l) × Within 65535 q
  pub apart : (a b : Question) → written a ≡ written b → a ≡ b
  pub same : (a b : Question) → Decides (same_question a b) (a ≡ b)

-- front: numbers begin with what is written of the answers that they list, and no entry comes next
-- back: what is written of answers lists them, for questions of at most four places of at most 16 steps
pub record ListedForm : Type 0 where
  pub front : (l : List ℕ) → (rest : List ℕ) × (l ≡ written_answers (answers_in l) ++ rest) × (read_entry rest ≡ None)
  pub back : (l : List Asked) → AllByRecursion (λ a. Within 16 a.0) l → answers_in (written_answers l) ≡ l
