-- The plain recursions end just as the runs settle.
use Rattle.std.proofs.Common.{◌≡◌, ℕ, suc, Bool, true, false, cond, List, [], ◌∷◌, ℤ, Some, None, Option, sym, refl, ap, ◌∙◌, subst}
use Rattle.guards.specs.declared.step.Step.{Step}
use Rattle.rules.specs.Garments.{Place, whole, below, all_steps}
use Rattle.rules.specs.Sheets.{Pattern, Patterns, any, bind, build, either, gauge, no_patterns, with_pattern, Binding, field, Clause, list_of, Answer, acts, question}
use Rattle.rules.specs.Trees.{Tree, Branches, leaf, fail, never, switch, test, ask, branch, otherwise, no_other}
use Rattle.theory.specs.Runs.{Look, is_built, passes, says, Run, done, look, World, execute, pattern_run, patterns_run, sheet_run, stand_run, stand_all_run, tree_run, branches_run}
use Rattle.theory.specs.Explore.{by_answer}
use Rattle.theory.specs.Settle.{Known, settle}
use Rattle.theory.specs.Bridges.{MatchEnd, matched, mismatched, stopped, Ends, Standing, firm, missing, waiting, Stands, PatternLaws, ClauseLaws, PlaceLaws}
use Rattle.theory.specs.Following.{or_match, and_match, matching, matching_fields, RunEnd, answered, waits, Settles, guard_end, clause_end, sheet_end, then_standing, standing, standing_all, on_standing, tree_end, branch_end, Following}
use Rattle.theory.proofs.Settled.{look_yes, look_no, look_open, settling}
use Rattle.theory.proofs.Bridges.{bridges_hold}

module _ (known : Known) where
  abbrev patterns : PatternLaws known
  patterns = (bridges_hold known).patterns

  abbrev clauses : ClauseLaws known
  clauses = (bridges_hold known).clauses

  abbrev places : PlaceLaws known
  places = (bridges_hold known).places

  -- ── patterns ──

  build_ends : (o : Option Bool) (c : ℕ) (qs : Patterns) (p : Place) → known (is_built p c) ≡ o → Ends known (patterns_run qs p c 0) (matching_fields known qs p c 0)
      → Ends known (pattern_run (build c qs) p) (by_answer o (matching_fields known qs p c 0) mismatched (stopped (is_built p c)))
  build_ends None c qs p e h = patterns.build_open c qs p e
  build_ends (Some true) c qs p e h = patterns.build_yes c qs p (matching_fields known qs p c 0) e h
  build_ends (Some false) c qs p e h = patterns.build_no c qs p e

  either-Ends : (e f : MatchEnd) (l r : Pattern) (p : Place) → Ends known (pattern_run l p) e → Ends known (pattern_run r p) f → Ends known (pattern_run (either l r) p) (or_match e f)
  either-Ends (matched bs) f l r p h g = patterns.left_matched l r p bs h
  either-Ends mismatched f l r p h g = patterns.left_mismatched l r p f h g
  either-Ends (stopped o) f l r p h g = patterns.left_stopped l r p o h

  gauge_Ends : (o : Option Bool) (t : ℤ) (w : Bool) (q : Pattern) (p : Place) (e : MatchEnd) → known (passes p t) ≡ o → Ends known (pattern_run q p) e
      → Ends known (pattern_run (gauge t w q) p) (by_answer o (cond w e mismatched) (cond w mismatched e) (stopped (passes p t)))
  gauge_Ends None t w q p e k h = patterns.gauge_open t w q p k
  gauge_Ends (Some true) t true q p e k h = patterns.gauge_wanted t true true q p e k refl h
  gauge_Ends (Some true) t false q p e k h = patterns.gauge_unwanted t false true q p k refl
  gauge_Ends (Some false) t true q p e k h = patterns.gauge_unwanted t true false q p k refl
  gauge_Ends (Some false) t false q p e k h = patterns.gauge_wanted t false false q p e k refl h

  fields_end : (e f : MatchEnd) (q : Pattern) (qs : Patterns) (p : Place) (c i : ℕ) → Ends known (pattern_run q (field p c i)) e → Ends known (patterns_run qs p c (suc i)) f
      → Ends known (patterns_run (with_pattern q qs) p c i) (and_match e f)
  fields_end (matched bs) f q qs p c i h g = patterns.fields_matched q qs p c i bs f h g
  fields_end mismatched f q qs p c i h g = patterns.fields_mismatched q qs p c i h
  fields_end (stopped l) f q qs p c i h g = patterns.fields_stopped q qs p c i l h

  mutual
    pattern_follows : (q : Pattern) (p : Place) → Ends known (pattern_run q p) (matching known q p)
    pattern_follows (any t) p = patterns.any_matched t p
    pattern_follows (bind x q) p = patterns.bind-bound x q p (matching known q p) (pattern_follows q p)
    pattern_follows (build c qs) p = build_ends (known (is_built p c)) c qs p refl (fields_follow qs p c 0)
    pattern_follows (either l r) p = either-Ends (matching known l p) (matching known r p) l r p (pattern_follows l p) (pattern_follows r p)
    pattern_follows (gauge t w q) p = gauge_Ends (known (passes p t)) t w q p (matching known q p) refl (pattern_follows q p)

    fields_follow : (qs : Patterns) (p : Place) (c i : ℕ) → Ends known (patterns_run qs p c i) (matching_fields known qs p c i)
    fields_follow no_patterns p c i = patterns.fields_end p c i
    fields_follow (with_pattern q qs) p c i =
        fields_end (matching known q (field p c i)) (matching_fields known qs p c (suc i)) q qs p c i (pattern_follows q (field p c i)) (fields_follow qs p c (suc i))

  -- ── clauses ──

  -- runs that settle alike end alike
  Settles-alike : (r s : Run) → settle known r ≡ settle known s → (e : RunEnd) → Settles known s e → Settles known r e
  Settles-alike r s q (answered a) h = q ∙ h
  Settles-alike r s q (waits l) h = (h.0, h.1, q ∙ h.2)

  asked_settles : (o : Option Bool) (k : Clause) (ks : List Clause) (bs : List Binding) (g : ℕ) (rest : RunEnd) → known (says (question g (list_of bs))) ≡ o
      → Ends known (pattern_run k.pattern whole) (matched bs) → k.guard ≡ Some g → Settles known (sheet_run ks) rest
      → Settles known (sheet_run (k ∷ ks)) (by_answer o (answered (acts k.action (list_of bs))) rest (waits (says (question g (list_of bs)))))
  asked_settles None k ks bs g rest q h e f = clauses.clause_open k ks bs g h e q
  asked_settles (Some true) k ks bs g rest q h e f = clauses.clause_yes k ks bs g h e q
  asked_settles (Some false) k ks bs g rest q h e f = Settles-alike (sheet_run (k ∷ ks)) (sheet_run ks) (clauses.clause_no k ks bs g h e q) rest f

  guard_settles : (o : Option ℕ) (k : Clause) (ks : List Clause) (bs : List Binding) (rest : RunEnd) → k.guard ≡ o
      → Ends known (pattern_run k.pattern whole) (matched bs) → Settles known (sheet_run ks) rest
      → Settles known (sheet_run (k ∷ ks)) (guard_end known o k.action (list_of bs) rest)
  guard_settles None k ks bs rest e h f = clauses.clause_unguarded k ks bs h e
  guard_settles (Some g) k ks bs rest e h f = asked_settles (known (says (question g (list_of bs)))) k ks bs g rest refl h e f

  clause_Settles : (e : MatchEnd) (k : Clause) (ks : List Clause) (rest : RunEnd) → Ends known (pattern_run k.pattern whole) e → Settles known (sheet_run ks) rest
      → Settles known (sheet_run (k ∷ ks)) (clause_end known k e rest)
  clause_Settles (matched bs) k ks rest h f = guard_settles k.guard k ks bs rest refl h f
  clause_Settles mismatched k ks rest h f = Settles-alike (sheet_run (k ∷ ks)) (sheet_run ks) (clauses.clause_mismatched k ks h) rest f
  clause_Settles (stopped l) k ks rest h f = clauses.clause_stopped k ks l h

  sheet_follows : (ks : List Clause) → Settles known (sheet_run ks) (sheet_end known ks)
  sheet_follows [] = refl
  sheet_follows (k ∷ ks) = clause_Settles (matching known k.pattern whole) k ks (sheet_end known ks) (pattern_follows k.pattern whole) (sheet_follows ks)

  -- ── places and nodes ──

  step_follows : (e : Standing) (o : Option Bool) (p : Place) (s : Step) → Stands known (stand_run p) e → known (is_built p s.constructor) ≡ o
      → Stands known (stand_run (below p s)) (then_standing e (by_answer o firm missing (waiting (is_built p s.constructor))))
  step_follows firm None p s h q = places.step_open p s h q
  step_follows firm (Some true) p s h q = places.step_yes p s h q
  step_follows firm (Some false) p s h q = places.step_no p s h q
  step_follows missing o p s h q = places.above_missing p s h
  step_follows (waiting l) o p s h q = places.above_waiting p s l h

  place_follows : (p : Place) → Stands known (stand_run p) (standing known p)
  place_follows whole = places.whole_firm
  place_follows (below p s) = step_follows (standing known p) (known (is_built p s.constructor)) p s (place_follows p) refl

  first_follows : (e f : Standing) (p : Place) (ps : List Place) → Stands known (stand_run p) e → Stands known (stand_all_run ps) f → Stands known (stand_all_run (p ∷ ps)) (then_standing e f)
  first_follows firm f p ps h g = places.first_firm p ps f h g
  first_follows missing f p ps h g = places.first_missing p ps h
  first_follows (waiting l) f p ps h g = places.first_waiting p ps l h

  places_follow : (ps : List Place) → Stands known (stand_all_run ps) (standing_all known ps)
  places_follow [] = places.no_place
  places_follow (p ∷ ps) = first_follows (standing known p) (standing_all known ps) p ps (place_follows p) (places_follow ps)

  -- what runs after looking whether places stand
  after_standing : (way : Run → Run) (next : Run) (s : Standing) (e : RunEnd) → Stands known way s → Settles known next e → Settles known (way next) (on_standing s e)
  after_standing way next firm e h g = Settles-alike (way next) next (h next) e g
  after_standing way next missing e h g = h next
  after_standing way next (waiting l) e h g = h next

  look_follows : (o : Option Bool) (l : Look) (y n : Run) (e f : RunEnd) → known l ≡ o → Settles known y e → Settles known n f → Settles known (look l y n) (by_answer o e f (waits l))
  look_follows None l y n e f q h g = (y, n, look_open known l y n q)
  look_follows (Some true) l y n e f q h g = Settles-alike (look l y n) y (look_yes known l y n q) e h
  look_follows (Some false) l y n e f q h g = Settles-alike (look l y n) n (look_no known l y n q) f g

  mutual
    tree_follows : (t : Tree) → Settles known (tree_run t) (tree_end known t)
    tree_follows (leaf a ps) = after_standing (stand_all_run ps) (done (acts a (all_steps ps))) (standing_all known ps) (answered (acts a (all_steps ps))) (places_follow ps) refl
    tree_follows fail = refl
    tree_follows never = refl
    tree_follows (switch p bs) = after_standing (stand_run p) (branches_run p bs) (standing known p) (branch_end known p bs) (place_follows p) (branches_follow p bs)
    tree_follows (test p t y n) =
        after_standing (stand_run p) (look (passes p t) (tree_run y) (tree_run n)) (standing known p) _ (place_follows p)
        (look_follows (known (passes p t)) (passes p t) (tree_run y) (tree_run n) (tree_end known y) (tree_end known n) refl (tree_follows y) (tree_follows n))
    tree_follows (ask g ps y n) =
        after_standing (stand_all_run ps) (look (says (question g (all_steps ps))) (tree_run y) (tree_run n)) (standing_all known ps) _ (places_follow ps)
        (look_follows (known (says (question g (all_steps ps)))) (says (question g (all_steps ps))) (tree_run y) (tree_run n) (tree_end known y) (tree_end known n) refl (tree_follows y) (tree_follows n))

    branches_follow : (p : Place) (bs : Branches) → Settles known (branches_run p bs) (branch_end known p bs)
    branches_follow p (branch c n bs) =
        look_follows (known (is_built p c)) (is_built p c) (tree_run n) (branches_run p bs) (tree_end known n) (branch_end known p bs) refl (tree_follows n) (branches_follow p bs)
    branches_follow p (otherwise n) = tree_follows n
    branches_follow p no_other = refl

-- ── where all is known ──

abbrev IsLook : Run → Type 0
IsLook (done a) = ⊥
IsLook (look l y n) = Unit {0}

abbrev answer_in : Answer → Run → Answer
answer_in a (done b) = b
answer_in a (look l y n) = a

end_is : (known : Known) (w : World) (r : Run) (e : RunEnd) → ((l : Look) → known l ≡ Some (w l)) → Settles known r e → e ≡ answered (execute r w)
end_is known w r (answered a) t h = ap (λ z. answered (answer_in a z)) (sym h ∙ settling.total known w r t)
end_is known w r (waits l) t h = absurd (subst IsLook (sym h.2 ∙ settling.total known w r t) tt)

pub following : Following
following = record {
  patterns = pattern_follows;
  fields = fields_follow;
  places = place_follows;
  all_places = places_follow;
  sheets = sheet_follows;
  trees = tree_follows;
  sheet_answers = λ known w ks t. end_is known w (sheet_run ks) (sheet_end known ks) t (sheet_follows known ks);
  tree_answers = λ known w t total. end_is known w (tree_run t) (tree_end known t) total (tree_follows known t);
}
