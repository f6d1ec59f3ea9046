-- The questions of a sheet and of a tree are of at most four places of at most 16 steps.
use Rattle.std.proofs.Common.{◌≡◌, ℕ, suc, ◌+◌, ◌≤◌, Bool, true, false, cond, eqb, List, [], ◌∷◌, ◌++◌, length, Some, None, Option, refl, ap, arith}
use Rattle.std.proofs.lemmas.List.{length-append}
use Rattle.std.specs.List.{AllByRecursion, All}
use Rattle.measure.specs.Measure.{Measure}
use Rattle.guards.specs.Questions.{Steps, Within}
use Rattle.rules.specs.Book.{Schema}
use Rattle.rules.specs.Garments.{Place, whole, below, steps_of, all_steps}
use Rattle.rules.specs.Sheets.{Pattern, Patterns, any, bind, build, either, gauge, no_patterns, with_pattern, Binding, field, Clause, place_of, list_of, Answer, acts, lost, question, levels, most_levels}
use Rattle.rules.specs.Trees.{Tree, Branches, leaf, fail, never, switch, test, ask, branch, otherwise, no_other}
use Rattle.theory.specs.Runs.{Look, is_built, passes, says, Run, done, look, pattern_run, patterns_run, guarded_run, sheet_run, stand_run, stand_all_run, tree_run, branches_run}
use Rattle.theory.specs.Knowledge.{Knowledge, learn}
use Rattle.theory.specs.Explore.{differs, explore}
use Rattle.shown.specs.ShownAnswers.{AllWithin, LookWithin, AsksWithin, Short, TreeShort, BranchesShort, heard_list}
use Rattle.shown.proofs.EachVerdict.{explored_all}
use Rattle.rules.proofs.Lists.{AllByRecursion-append}
use Rattle.std.proofs.lemmas.List.Elements.{All-head, All-tail, All-cons}

-- ── sheets ──

-- variables on places of at most 16 steps
abbrev ShortBound : List Binding → Type 0
ShortBound bs = AllByRecursion (λ b. length (steps_of b.place) ≤ 16) bs

abbrev ShortSteps : List Steps → Type 0
ShortSteps ps = AllByRecursion (λ p. length p ≤ 16) ps

place_of_lem : (x : ℕ) (bs : List Binding) → ShortBound bs → (length (place_of x bs) ≤ 1) × ShortSteps (place_of x bs)
place_of_lem x [] h = (omega arith, tt)
place_of_lem x (b ∷ bs) h = go (eqb b.variable x) (place_of_lem x bs h.1)
  where
    go : (e : Bool) → (length (place_of x bs) ≤ 1) × ShortSteps (place_of x bs) → (length (cond e (steps_of b.place ∷ []) (place_of x bs)) ≤ 1) × ShortSteps (cond e (steps_of b.place ∷ []) (place_of x bs))
    go true r = (omega arith, (h.0, tt))
    go false r = r

list_Within : (g : ℕ) (bs : List Binding) → ShortBound bs → Within 16 (question g (list_of bs))
list_Within g bs h =
    let a = place_of_lem 0 bs h in
    let b = place_of_lem 1 bs h in
    let c = place_of_lem 2 bs h in
    let e = place_of_lem 3 bs h in
    let ce : List Steps = place_of 2 bs ++ place_of 3 bs in
    let bce : List Steps = place_of 1 bs ++ ce in (
      omega (arith, a.0, b.0, c.0, e.0, length-append (place_of 0 bs) bce, length-append (place_of 1 bs) ce, length-append (place_of 2 bs) (place_of 3 bs)),
      AllByRecursion-append (λ p. length p ≤ 16) (place_of 0 bs) bce a.1 (AllByRecursion-append (λ p. length p ≤ 16) (place_of 1 bs) ce b.1 (AllByRecursion-append (λ p. length p ≤ 16) (place_of 2 bs) (place_of 3 bs) c.1 e.1)),
    )

cond_asks : (w : Bool) (x y : Run) → AsksWithin x → AsksWithin y → AsksWithin (cond w x y)
cond_asks true x y h k = h
cond_asks false x y h k = k

mutual
  pattern_asks : (q : Pattern) (p : Place) (matched : List Binding → Run) (failed : Run) → length (steps_of p) + levels q ≤ 16 → ((bs : List Binding) → ShortBound bs → AsksWithin (matched bs)) → AsksWithin failed → AsksWithin (pattern_run q p matched failed)
  pattern_asks (any t) p matched failed h hm hf = hm [] tt
  pattern_asks (bind x q) p matched failed h hm hf =
      pattern_asks q p (λ bs. matched (record { variable = x; place = p } ∷ bs)) failed h (λ bs b. hm (record { variable = x; place = p } ∷ bs) (omega arith, b)) hf
  pattern_asks (build c qs) p matched failed h hm hf = (tt, (patterns_asks qs p c 0 matched failed (omega arith) hm hf, hf))
  pattern_asks (either l r) p matched failed h hm hf = pattern_asks l p matched (pattern_run r p matched failed) (omega arith) hm (pattern_asks r p matched failed (omega arith) hm hf)
  pattern_asks (gauge t w q) p matched failed h hm hf =
      let i = pattern_asks q p matched failed h hm hf in
      (tt, (cond_asks w (pattern_run q p matched failed) failed i hf, cond_asks w failed (pattern_run q p matched failed) hf i))

  patterns_asks : (qs : Patterns) (p : Place) (c i : ℕ) (matched : List Binding → Run) (failed : Run) → length (steps_of p) + (1 + most_levels qs) ≤ 16 → ((bs : List Binding) → ShortBound bs → AsksWithin (matched bs)) → AsksWithin failed → AsksWithin (patterns_run qs p c i matched failed)
  patterns_asks no_patterns p c i matched failed h hm hf = hm [] tt
  patterns_asks (with_pattern q qs) p c i matched failed h hm hf =
      pattern_asks q (field p c i) (λ bs. patterns_run qs p c (suc i) (λ cs. matched (bs ++ cs)) failed) failed
      (omega (arith, length-append (steps_of p) (record { constructor = c; field = i } ∷ [])))
      (λ bs b. patterns_asks qs p c (suc i) (λ cs. matched (bs ++ cs)) failed (omega arith) (λ cs d. hm (bs ++ cs) (AllByRecursion-append (λ x. length (steps_of x.place) ≤ 16) bs cs b d)) hf) hf

guarded_asks : (o : Option ℕ) (x : ℕ) (r : Run) (bs : List Binding) → AsksWithin r → ShortBound bs → AsksWithin (guarded_run o x r bs)
guarded_asks None x r bs h b = tt
guarded_asks (Some g) x r bs h b = (list_Within g bs b, (tt, h))

pub sheet_asks : (ks : List Clause) → All (λ k. levels k.pattern ≤ 16) ks → AsksWithin (sheet_run ks)
sheet_asks [] h = tt
sheet_asks (k ∷ ks) h =
    let rest = sheet_asks ks (All-tail (λ c. levels c.pattern ≤ 16) k ks h) in
    let flat = All-head (λ c. levels c.pattern ≤ 16) k ks h in
    pattern_asks k.pattern whole (guarded_run k.guard k.action (sheet_run ks)) (sheet_run ks) (omega (arith, flat)) (λ bs b. guarded_asks k.guard k.action (sheet_run ks) bs rest b) rest

-- ── trees ──

stand_asks : (p : Place) (r : Run) → AsksWithin r → AsksWithin (stand_run p r)
stand_asks whole r h = h
stand_asks (below p s) r h = stand_asks p (look (is_built p s.constructor) r (done lost)) (tt, (h, tt))

stands_asks : (ps : List Place) (r : Run) → AsksWithin r → AsksWithin (stand_all_run ps r)
stands_asks [] r h = h
stands_asks (p ∷ ps) r h = stand_asks p (stand_all_run ps r) (stands_asks ps r h)

steps_within : (ps : List Place) → Short ps → (length (all_steps ps) ≡ length ps) × ShortSteps (all_steps ps)
steps_within [] h = (refl, tt)
steps_within (p ∷ ps) h = let r = steps_within ps (All-tail (λ q. length (steps_of q) ≤ 16) p ps h) in (ap suc r.0, (All-head (λ q. length (steps_of q) ≤ 16) p ps h, r.1))

mutual
  pub tree_asks : (t : Tree) → TreeShort t → AsksWithin (tree_run t)
  tree_asks (leaf a ps) h = stands_asks ps (done (acts a (all_steps ps))) tt
  tree_asks fail h = tt
  tree_asks never h = tt
  tree_asks (switch p bs) h = stand_asks p (branches_run p bs) (branches_ask p bs h)
  tree_asks (test p t y n) h = stand_asks p (look (passes p t) (tree_run y) (tree_run n)) (tt, (tree_asks y h.0, tree_asks n h.1))
  tree_asks (ask g ps y n) h =
      let r = steps_within ps h.0.1 in
      stands_asks ps (look (says (question g (all_steps ps))) (tree_run y) (tree_run n)) ((omega (arith, r.0, h.0.0), r.1), (tree_asks y h.1.0, tree_asks n h.1.1))

  branches_ask : (p : Place) (bs : Branches) → BranchesShort bs → AsksWithin (branches_run p bs)
  branches_ask p (branch c n bs) h = (tt, (tree_asks n h.0, branches_ask p bs h.1))
  branches_ask p (otherwise n) h = tree_asks n h
  branches_ask p no_other h = tt

-- ── what is learnt ──

learns : (k : Knowledge) (l : Look) (b : Bool) → LookWithin l → AllWithin k → AllWithin (learn k l b)
learns k (is_built p c) b h i = i
learns k (passes p t) b h i = i
learns k (says q) b h i = All-cons (λ a. Within 16 a.0) (q, b) (heard_list k) h i

pub learnt_within : (m : Measure) (d : Schema) (k j : Knowledge) (first second : Run) (a b : Answer) → AsksWithin first → AsksWithin second → AllWithin k → explore m d k first second ≡ differs j a b → AllWithin j
learnt_within m d = explored_all m d LookWithin AllWithin learns
