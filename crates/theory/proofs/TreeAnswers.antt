-- The run of a tree, executed in the world of a garment, gives the tree's answer.
use Rattle.std.proofs.Common.{◌≡◌, cond, List, [], ◌∷◌, refl, ap, ◌∙◌, ap₂, Bool, ◌&&◌, true, false}
use Rattle.measure.specs.Measure.{Measure}
use Rattle.guards.specs.Questions.{Rule}
use Rattle.rules.specs.Garments.{Value, Place, whole, below, part_at, built_by, stands, all_stand, all_steps}
use Rattle.rules.specs.Sheets.{acts, lost, question}
use Rattle.rules.specs.Trees.{Tree, Branches, leaf, fail, never, switch, test, ask, branch, otherwise, no_other, passes_at, tree_answer, branch_answer}
use Rattle.theory.specs.Runs.{is_built, passes, says, Run, done, look, World, execute, world_of, stand_run, stand_all_run, tree_run, branches_run}
use Rattle.theory.specs.Theorems.{RunsAnswer}
use Rattle.theory.proofs.SheetAnswers.{sheet_answers}

cond_and : {A : Type 0} (a b : Bool) (x y : A) → cond a (cond b x y) y ≡ cond (a && b) x y
cond_and true b x y = refl
cond_and false b x y = refl

module _ (m : Measure) (v : Value) (rule : Rule) where
  abbrev here : World
  here = world_of m v rule

  stand_answers : (p : Place) (next : Run) → execute (stand_run p next) here ≡ cond (stands v p) (execute next here) lost
  stand_answers whole next = refl
  stand_answers (below p s) next =
      stand_answers p (look (is_built p s.constructor) next (done lost)) ∙ cond_and (stands v p) (built_by s.constructor (part_at v p)) (execute next here) lost

  stand_all_answers : (ps : List Place) (next : Run) → execute (stand_all_run ps next) here ≡ cond (all_stand v ps) (execute next here) lost
  stand_all_answers [] next = refl
  stand_all_answers (p ∷ ps) next =
      stand_answers p (stand_all_run ps next) ∙ ap (λ z. cond (stands v p) z lost) (stand_all_answers ps next) ∙ cond_and (stands v p) (all_stand v ps) (execute next here) lost

  mutual
    pub tree_answers : (t : Tree) → execute (tree_run t) here ≡ tree_answer m t v rule
    tree_answers (leaf a ps) = stand_all_answers ps (done (acts a (all_steps ps)))
    tree_answers fail = refl
    tree_answers never = refl
    tree_answers (switch p bs) = stand_answers p (branches_run p bs) ∙ ap (λ z. cond (stands v p) z lost) (branches_answer bs p)
    tree_answers (test p t y n) =
        stand_answers p (look (passes p t) (tree_run y) (tree_run n))
        ∙ ap₂ (λ a b. cond (stands v p) (cond (passes_at m t (part_at v p)) a b) lost) (tree_answers y) (tree_answers n)
    tree_answers (ask g ps y n) =
        stand_all_answers ps (look (says (question g (all_steps ps))) (tree_run y) (tree_run n))
        ∙ ap₂ (λ a b. cond (all_stand v ps) (cond (rule (question g (all_steps ps))) a b) lost) (tree_answers y) (tree_answers n)

    branches_answer : (bs : Branches) (p : Place) → execute (branches_run p bs) here ≡ branch_answer m bs (part_at v p) v rule
    branches_answer (branch c n bs) p = ap₂ (λ a b. cond (built_by c (part_at v p)) a b) (tree_answers n) (branches_answer bs p)
    branches_answer (otherwise n) p = tree_answers n
    branches_answer no_other p = refl

pub runs_answer : RunsAnswer
runs_answer = record { sheets = sheet_answers; trees = λ m t v rule. tree_answers m v rule t }
