-- A clause that does not accept is passed over, and one that accepts answers.
use Rattle.std.proofs.Common.{◌≡◌, ℕ, Bool, true, false, cond, List, [], ◌∷◌, ◌++◌, Some, None, Option, refl, ap, ◌∙◌}
use Rattle.std.specs.List.{All}
use Rattle.measure.specs.Measure.{Measure}
use Rattle.guards.specs.Questions.{Rule, Steps}
use Rattle.rules.specs.Garments.{Value, whole}
use Rattle.rules.specs.Sheets.{Binding, Bound, Clause, Answer, acts, none, list_of, matches, question, guarded, tried, sheet_answer}
use Rattle.rules.specs.FirstClause.{GuardAgrees, Accepts, PassedOver, FirstClauseAnswers}
use Rattle.std.proofs.lemmas.List.Elements.{All-head, All-tail}

-- a guard that does not agree hands on
handed_on : (rule : Rule) (g : Option ℕ) (action : ℕ) (ps : List Steps) (rest : Answer) → (GuardAgrees rule g ps → ⊥) → guarded rule g action ps rest ≡ rest
handed_on rule None action ps rest h = absurd (h tt)
handed_on rule (Some g) action ps rest h = go (rule (question g ps)) refl
  where
    go : (b : Bool) → rule (question g ps) ≡ b → cond b (acts action ps) rest ≡ rest
    go true e = absurd (h e)
    go false e = refl

-- one that agrees answers
answered : (rule : Rule) (g : Option ℕ) (action : ℕ) (ps : List Steps) (rest : Answer) → GuardAgrees rule g ps → guarded rule g action ps rest ≡ acts action ps
answered rule None action ps rest h = refl
answered rule (Some g) action ps rest h = ap (λ (b : Bool). cond b (acts action ps) rest) h

module _ (m : Measure) (rule : Rule) (v : Value) where
  passed : (k : Clause) (rest : Answer) → PassedOver m rule v k → tried rule k (matches m k.pattern whole v) rest ≡ rest
  passed k rest h = go (matches m k.pattern whole v) refl
    where
      go : (o : Bound) → matches m k.pattern whole v ≡ o → tried rule k o rest ≡ rest
      go None e = refl
      go (Some bs) e = handed_on rule k.guard k.action (list_of bs) rest (λ a. h bs (e, a))

  first_answers : (before : List Clause) (k : Clause) (after : List Clause) (bs : List Binding)
      → All (PassedOver m rule v) before → Accepts m rule v k bs → sheet_answer m (before ++ k ∷ after) v rule ≡ acts k.action (list_of bs)
  first_answers [] k after bs h a = ap (λ (o : Bound). tried rule k o (sheet_answer m after v rule)) a.0 ∙ answered rule k.guard k.action (list_of bs) (sheet_answer m after v rule) a.1
  first_answers (j ∷ before) k after bs h a = passed j (sheet_answer m (before ++ k ∷ after) v rule) (All-head (PassedOver m rule v) j before h) ∙ first_answers before k after bs (All-tail (PassedOver m rule v) j before h) a

  none_of : (ks : List Clause) → All (PassedOver m rule v) ks → sheet_answer m ks v rule ≡ none
  none_of [] h = refl
  none_of (k ∷ ks) h = passed k (sheet_answer m ks v rule) (All-head (PassedOver m rule v) k ks h) ∙ none_of ks (All-tail (PassedOver m rule v) k ks h)

pub first_clause_answers : FirstClauseAnswers
first_clause_answers = record { first = first_answers; no_clause = none_of }
