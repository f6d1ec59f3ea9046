-- Hosts: what they were asked, and what they hold then.
use Rattle.std.specs.Prelude.{◌≡◌, Bool, List, [], ◌∷◌, ◌++◌, refl}
use Rattle.std.proofs.Common.{◌∙◌}
use Rattle.guards.specs.Questions.{Question, Rule}

-- a question with the answer that it got
abbrev pub Asked : Type 0
Asked = Question × Bool

-- questions, each with the answer of a rule
abbrev pub answered : Rule → List Question → List Asked
answered rule [] = []
answered rule (q ∷ qs) = (q, rule q) ∷ answered rule qs

-- what `moved` may say: nothing asked moves nothing, and what is asked later moves further
pub record Moves {S : Type 0} (moved : S → List Asked → S → Type 0) : Type 0 where
  pub still : (a : S) → moved a [] a
  pub further : (a b c : S) (xs ys : List Asked) → moved a xs b → moved b ys c → moved a (xs ++ ys) c

-- a host that no question changes
pub unmoved : {S : Type 0} → Moves {S = S} (λ a xs b. a ≡ b)
unmoved = record { still = λ a. refl; further = λ a b c xs ys p q. p ∙ q }
