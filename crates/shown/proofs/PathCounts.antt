-- How much the looks on one way through a sheet's run and a tree's run count.
use Rattle.std.proofs.Common.{◌≡◌, ℕ, suc, ◌+◌, ◌≤◌, Bool, true, false, cond, List, [], ◌∷◌, ◌++◌, length, ℤ, Some, None, Option, refl, arith}
use Rattle.rules.specs.Garments.{Place, whole, below, all_steps}
use Rattle.rules.specs.Sheets.{Pattern, Patterns, any, bind, build, either, gauge, no_patterns, with_pattern, Binding, field, Clause, list_of, acts, lost, question, weight, weights}
use Rattle.rules.specs.Grounds.{sheet_weight}
use Rattle.rules.specs.Trees.{Tree, Branches, leaf, fail, never, switch, test, ask, branch, otherwise, no_other, depth, depth_below}
use Rattle.guards.specs.Questions.{Question}
use Rattle.theory.specs.Runs.{Look, is_built, passes, says, Run, done, look, pattern_run, patterns_run, guarded_run, sheet_run, stand_run, stand_all_run, tree_run, branches_run}
use Rattle.shown.specs.Budgets.{looks_at_garment, tests, questions, most_on_path}

-- what the looks of a pattern count, each at most a
abbrev mutual
  cost : ℕ → Pattern → ℕ
  cost a (any t) = 0
  cost a (bind x q) = cost a q
  cost a (build c qs) = a + costs a qs
  cost a (either l r) = cost a l + cost a r
  cost a (gauge t w q) = a + cost a q

  costs : ℕ → Patterns → ℕ
  costs a no_patterns = 0
  costs a (with_pattern q qs) = cost a q + costs a qs

mutual
  cost-weight : (q : Pattern) → cost 1 q ≤ weight q
  cost-weight (any t) = omega arith
  cost-weight (bind x q) = omega (arith, cost-weight q)
  cost-weight (build c qs) = omega (arith, costs_weight qs)
  cost-weight (either l r) = omega (arith, cost-weight l, cost-weight r)
  cost-weight (gauge t w q) = omega (arith, cost-weight q)

  costs_weight : (qs : Patterns) → costs 1 qs ≤ weights qs
  costs_weight no_patterns = omega arith
  costs_weight (with_pattern q qs) = omega (arith, cost-weight q, costs_weight qs)

mutual
  cost_nothing : (q : Pattern) → cost 0 q ≡ 0
  cost_nothing (any t) = refl
  cost_nothing (bind x q) = cost_nothing q
  cost_nothing (build c qs) = omega (arith, costs_nothing qs)
  cost_nothing (either l r) = omega (arith, cost_nothing l, cost_nothing r)
  cost_nothing (gauge t w q) = omega (arith, cost_nothing q)

  costs_nothing : (qs : Patterns) → costs 0 qs ≡ 0
  costs_nothing no_patterns = refl
  costs_nothing (with_pattern q qs) = omega (arith, cost_nothing q, costs_nothing qs)

module _ (count : Look → ℕ) where
  cond_most : (w : Bool) (x y : Run) (n : ℕ) → most_on_path count x ≤ n → most_on_path count y ≤ n → most_on_path count (cond w x y) ≤ n
  cond_most true x y n h k = h
  cond_most false x y n h k = k

-- a look at the garment counts at most a
module _ (count : Look → ℕ) (a : ℕ) (heads : (p : Place) (c : ℕ) → count (is_built p c) ≤ a) (gauges : (p : Place) (t : ℤ) → count (passes p t) ≤ a) where
  abbrev most : Run → ℕ
  most = most_on_path count

  mutual
    pattern_most : (q : Pattern) (p : Place) (matched : List Binding → Run) (failed : Run) (n : ℕ) → ((bs : List Binding) → most (matched bs) ≤ n) → most failed ≤ n → most (pattern_run q p matched failed) ≤ cost a q + n
    pattern_most (any t) p matched failed n hm hf = omega (arith, hm [])
    pattern_most (bind x q) p matched failed n hm hf = pattern_most q p (λ bs. matched (record { variable = x; place = p } ∷ bs)) failed n (λ bs. hm (record { variable = x; place = p } ∷ bs)) hf
    pattern_most (build c qs) p matched failed n hm hf = omega (arith, heads p c, patterns_most qs p c 0 matched failed n hm hf)
    pattern_most (either l r) p matched failed n hm hf =
        omega (arith, pattern_most l p matched (pattern_run r p matched failed) (cost a r + n) (λ bs. omega (arith, hm bs)) (pattern_most r p matched failed n hm hf))
    pattern_most (gauge t w q) p matched failed n hm hf =
        let i = pattern_most q p matched failed n hm hf in
        let j : most failed ≤ cost a q + n = omega arith in
        omega (arith, gauges p t, cond_most count w (pattern_run q p matched failed) failed (cost a q + n) i j, cond_most count w failed (pattern_run q p matched failed) (cost a q + n) j i)

    patterns_most : (qs : Patterns) (p : Place) (c i : ℕ) (matched : List Binding → Run) (failed : Run) (n : ℕ) → ((bs : List Binding) → most (matched bs) ≤ n) → most failed ≤ n → most (patterns_run qs p c i matched failed) ≤ costs a qs + n
    patterns_most no_patterns p c i matched failed n hm hf = omega (arith, hm [])
    patterns_most (with_pattern q qs) p c i matched failed n hm hf =
        omega (
          arith,
          pattern_most q (field p c i) (λ bs. patterns_run qs p c (suc i) (λ cs. matched (bs ++ cs)) failed) failed (costs a qs + n)
              (λ bs. patterns_most qs p c (suc i) (λ cs. matched (bs ++ cs)) failed n (λ cs. hm (bs ++ cs)) hf) (omega arith),
        )

-- looks at the garment count at most 1, and questions nothing
module _ (count : Look → ℕ) (heads : (p : Place) (c : ℕ) → count (is_built p c) ≤ 1) (gauges : (p : Place) (t : ℤ) → count (passes p t) ≤ 1) (silent : (q : Question) → count (says q) ≡ 0) where
  guarded_looks : (o : Option ℕ) (x : ℕ) (r : Run) (bs : List Binding) → most_on_path count (guarded_run o x r bs) ≤ most_on_path count r
  guarded_looks None x r bs = omega arith
  guarded_looks (Some g) x r bs = omega (arith, silent (question g (list_of bs)))

  sheet_most : (ks : List Clause) → most_on_path count (sheet_run ks) ≤ sheet_weight ks
  sheet_most [] = omega arith
  sheet_most (k ∷ ks) =
      let h = sheet_most ks in
      let i = pattern_most count 1 heads gauges k.pattern whole (guarded_run k.guard k.action (sheet_run ks)) (sheet_run ks) (sheet_weight ks)
      (λ bs. omega (arith, guarded_looks k.guard k.action (sheet_run ks) bs)) h in
      omega (arith, cost-weight k.pattern)

pub sheet_looks : (ks : List Clause) → most_on_path looks_at_garment (sheet_run ks) ≤ sheet_weight ks
sheet_looks = sheet_most looks_at_garment (λ p c. omega arith) (λ p t. omega arith) (λ q. refl)

pub sheet_tests : (ks : List Clause) → most_on_path tests (sheet_run ks) ≤ sheet_weight ks
sheet_tests = sheet_most tests (λ p c. omega arith) (λ p t. omega arith) (λ q. refl)

guarded_questions : (o : Option ℕ) (x : ℕ) (r : Run) (bs : List Binding) → most_on_path questions (guarded_run o x r bs) ≤ 1 + most_on_path questions r
guarded_questions None x r bs = omega arith
guarded_questions (Some g) x r bs = omega arith

pub sheet_questions : (ks : List Clause) → most_on_path questions (sheet_run ks) ≤ length ks
sheet_questions [] = omega arith
sheet_questions (k ∷ ks) =
    let h = sheet_questions ks in
    let i = pattern_most questions 0 (λ p c. omega arith) (λ p t. omega arith) k.pattern whole (guarded_run k.guard k.action (sheet_run ks)) (sheet_run ks) (1 + length ks)
    (λ bs. omega (arith, guarded_questions k.guard k.action (sheet_run ks) bs)) (omega arith) in
    omega (arith, cost_nothing k.pattern)

-- looks at constructors count nothing, tests and questions at most 1
module _ (count : Look → ℕ) (heads : (p : Place) (c : ℕ) → count (is_built p c) ≡ 0) (gauges : (p : Place) (t : ℤ) → count (passes p t) ≤ 1) (asks : (q : Question) → count (says q) ≤ 1) where
  stand_most : (p : Place) (r : Run) → most_on_path count (stand_run p r) ≤ most_on_path count r
  stand_most whole r = omega arith
  stand_most (below p s) r = omega (arith, heads p s.constructor, stand_most p (look (is_built p s.constructor) r (done lost)))

  stands_most : (ps : List Place) (r : Run) → most_on_path count (stand_all_run ps r) ≤ most_on_path count r
  stands_most [] r = omega arith
  stands_most (p ∷ ps) r = omega (arith, stand_most p (stand_all_run ps r), stands_most ps r)

  mutual
    pub tree_most : (t : Tree) → most_on_path count (tree_run t) ≤ depth t
    tree_most (leaf a ps) = omega (arith, stands_most ps (done (acts a (all_steps ps))))
    tree_most fail = omega arith
    tree_most never = omega arith
    tree_most (switch p bs) = omega (arith, stand_most p (branches_run p bs), branches_most p bs)
    tree_most (test p t y n) = omega (arith, gauges p t, stand_most p (look (passes p t) (tree_run y) (tree_run n)), tree_most y, tree_most n)
    tree_most (ask g ps y n) =
        omega (arith, asks (question g (all_steps ps)), stands_most ps (look (says (question g (all_steps ps))) (tree_run y) (tree_run n)), tree_most y, tree_most n)

    branches_most : (p : Place) (bs : Branches) → most_on_path count (branches_run p bs) ≤ depth_below bs
    branches_most p (branch c n bs) = omega (arith, heads p c, tree_most n, branches_most p bs)
    branches_most p (otherwise n) = tree_most n
    branches_most p no_other = omega arith

pub tree_tests : (t : Tree) → most_on_path tests (tree_run t) ≤ depth t
tree_tests = tree_most tests (λ p c. refl) (λ p t. omega arith) (λ q. omega arith)

pub tree_questions : (t : Tree) → most_on_path questions (tree_run t) ≤ depth t
tree_questions = tree_most questions (λ p c. refl) (λ p t. omega arith) (λ q. omega arith)
