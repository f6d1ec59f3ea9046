-- The laws by which a recursion follows the run of a sheet or a tree, proved for each form.
use Rattle.std.proofs.Common.{◌≡◌, ℕ, suc, Bool, true, false, cond, List, ◌∷◌, ◌++◌, ℤ, Some, None, Option, refl, ap, ◌∙◌, true≢false}
use Rattle.std.proofs.lemmas.Bool.{false≢true}
use Rattle.measure.specs.Measure.{gives}
use Rattle.rules.specs.Garments.{Place, whole, all_steps}
use Rattle.rules.specs.Sheets.{Pattern, Patterns, bind, build, either, gauge, with_pattern, Binding, field, Clause, list_of, acts, lost, question}
use Rattle.rules.specs.Trees.{Tree}
use Rattle.theory.specs.Runs.{Look, is_built, passes, says, Run, done, look, pattern_run, patterns_run, guarded_run, sheet_run, stand_run, stand_all_run, tree_run, branches_run}
use Rattle.theory.specs.Settle.{Known, settle}
use Rattle.theory.specs.Bridges.{MatchEnd, matched, mismatched, stopped, Way, Ends, prefixed, bound, Standing, firm, missing, waiting, Stands, PatternLaws, ClauseLaws, PlaceLaws, NodeLaws, BridgesHold}
use Rattle.theory.proofs.Settled.{look_yes, look_no, look_open}

module _ (known : Known) where
  -- ── patterns ──

  -- ways that settle alike end alike
  alike_Ends : (r s : Way) → ((on : List Binding → Run) (off : Run) → settle known (r on off) ≡ settle known (s on off)) → (e : MatchEnd) → Ends known s e → Ends known r e
  alike_Ends r s q (matched bs) h = λ on off. q on off ∙ h on off
  alike_Ends r s q mismatched h = λ on off. q on off ∙ h on off
  alike_Ends r s q (stopped l) h = λ on off. let z = h on off in (z.0, z.1, q on off ∙ z.2)

  bind-bound : (x : ℕ) (q : Pattern) (p : Place) (e : MatchEnd) → Ends known (pattern_run q p) e → Ends known (pattern_run (bind x q) p) (bound x p e)
  bind-bound x q p (matched bs) h = λ on off. h (λ bs. on (record { variable = x; place = p } ∷ bs)) off
  bind-bound x q p mismatched h = λ on off. h (λ bs. on (record { variable = x; place = p } ∷ bs)) off
  bind-bound x q p (stopped l) h = λ on off. h (λ bs. on (record { variable = x; place = p } ∷ bs)) off

  fields_matched : (q : Pattern) (qs : Patterns) (p : Place) (c i : ℕ) (bs : List Binding) (e : MatchEnd)
      → Ends known (pattern_run q (field p c i)) (matched bs) → Ends known (patterns_run qs p c (suc i)) e → Ends known (patterns_run (with_pattern q qs) p c i) (prefixed bs e)
  fields_matched q qs p c i bs (matched cs) h g = λ on off. h (λ xs. patterns_run qs p c (suc i) (λ ys. on (xs ++ ys)) off) off ∙ g (λ ys. on (bs ++ ys)) off
  fields_matched q qs p c i bs mismatched h g = λ on off. h (λ xs. patterns_run qs p c (suc i) (λ ys. on (xs ++ ys)) off) off ∙ g (λ ys. on (bs ++ ys)) off
  fields_matched q qs p c i bs (stopped l) h g =
      λ on off. let z = g (λ ys. on (bs ++ ys)) off in (z.0, z.1, h (λ xs. patterns_run qs p c (suc i) (λ ys. on (xs ++ ys)) off) off ∙ z.2)

  -- a test answered as wanted, and otherwise
  as_wanted : (l : Look) (w b : Bool) (y n : Run) → known l ≡ Some b → gives w b ≡ true → settle known (look l (cond w y n) (cond w n y)) ≡ settle known y
  as_wanted l true true y n e f = look_yes known l y n e
  as_wanted l true false y n e f = absurd (false≢true f)
  as_wanted l false true y n e f = absurd (false≢true f)
  as_wanted l false false y n e f = look_no known l n y e

  as_unwanted : (l : Look) (w b : Bool) (y n : Run) → known l ≡ Some b → gives w b ≡ false → settle known (look l (cond w y n) (cond w n y)) ≡ settle known n
  as_unwanted l true true y n e f = absurd (true≢false f)
  as_unwanted l true false y n e f = look_no known l y n e
  as_unwanted l false true y n e f = look_yes known l n y e
  as_unwanted l false false y n e f = absurd (true≢false f)

  pattern_laws : PatternLaws known
  pattern_laws = record {
    any_matched = λ t p on off. refl;
    bind-bound = bind-bound;
    build_yes = λ c qs p e q h. alike_Ends (pattern_run (build c qs) p) (patterns_run qs p c 0) (λ on off. look_yes known (is_built p c) (patterns_run qs p c 0 on off) off q) e h;
    build_no = λ c qs p q on off. look_no known (is_built p c) (patterns_run qs p c 0 on off) off q;
    build_open = λ c qs p q on off. (patterns_run qs p c 0 on off, off, look_open known (is_built p c) (patterns_run qs p c 0 on off) off q);
    fields_end = λ p c i on off. refl;
    fields_matched = fields_matched;
    fields_mismatched = λ q qs p c i h on off. h (λ xs. patterns_run qs p c (suc i) (λ ys. on (xs ++ ys)) off) off;
    fields_stopped = λ q qs p c i l h on off. h (λ xs. patterns_run qs p c (suc i) (λ ys. on (xs ++ ys)) off) off;
    left_matched = λ l r p bs h on off. h on (pattern_run r p on off);
    left_mismatched = λ l r p e h g. alike_Ends (pattern_run (either l r) p) (pattern_run r p) (λ on off. h on (pattern_run r p on off)) e g;
    left_stopped = λ l r p o h on off. h on (pattern_run r p on off);
    gauge_wanted = λ t w b q p e k g h. alike_Ends (pattern_run (gauge t w q) p) (pattern_run q p) (λ on off. as_wanted (passes p t) w b (pattern_run q p on off) off k g) e h;
    gauge_unwanted = λ t w b q p k g on off. as_unwanted (passes p t) w b (pattern_run q p on off) off k g;
    gauge_open = λ t w q p k on off.
        (cond w (pattern_run q p on off) off, cond w off (pattern_run q p on off), look_open known (passes p t) (cond w (pattern_run q p on off) off) (cond w off (pattern_run q p on off)) k);
  }

  -- ── clauses ──

  -- a clause that matched, by its guard
  clause_matched : (k : Clause) (ks : List Clause) (bs : List Binding) (o : Option ℕ) → Ends known (pattern_run k.pattern whole) (matched bs) → k.guard ≡ o
      → settle known (sheet_run (k ∷ ks)) ≡ settle known (guarded_run o k.action (sheet_run ks) bs)
  clause_matched k ks bs o h e = h (guarded_run k.guard k.action (sheet_run ks)) (sheet_run ks) ∙ ap (λ z. settle known (guarded_run z k.action (sheet_run ks) bs)) e

  clause_laws : ClauseLaws known
  clause_laws = record {
    no_clause = refl;
    clause_mismatched = λ k ks h. h (guarded_run k.guard k.action (sheet_run ks)) (sheet_run ks);
    clause_stopped = λ k ks l h. h (guarded_run k.guard k.action (sheet_run ks)) (sheet_run ks);
    clause_unguarded = λ k ks bs h e. clause_matched k ks bs None h e;
    clause_yes = λ k ks bs g h e q. clause_matched k ks bs (Some g) h e ∙ look_yes known (says (question g (list_of bs))) (done (acts k.action (list_of bs))) (sheet_run ks) q;
    clause_no = λ k ks bs g h e q. clause_matched k ks bs (Some g) h e ∙ look_no known (says (question g (list_of bs))) (done (acts k.action (list_of bs))) (sheet_run ks) q;
    clause_open = λ k ks bs g h e q. (
      done (acts k.action (list_of bs)),
      sheet_run ks,
      clause_matched k ks bs (Some g) h e ∙ look_open known (says (question g (list_of bs))) (done (acts k.action (list_of bs))) (sheet_run ks) q,
    );
  }

  -- ── places ──

  first_firm : (p : Place) (ps : List Place) (e : Standing) → Stands known (stand_run p) firm → Stands known (stand_all_run ps) e → Stands known (stand_all_run (p ∷ ps)) e
  first_firm p ps firm h g = λ next. h (stand_all_run ps next) ∙ g next
  first_firm p ps missing h g = λ next. h (stand_all_run ps next) ∙ g next
  first_firm p ps (waiting l) h g = λ next. let z = g next in (z.0, z.1, h (stand_all_run ps next) ∙ z.2)

  place_laws : PlaceLaws known
  place_laws = record {
    whole_firm = λ next. refl;
    step_yes = λ p s h q next. h (look (is_built p s.constructor) next (done lost)) ∙ look_yes known (is_built p s.constructor) next (done lost) q;
    step_no = λ p s h q next. h (look (is_built p s.constructor) next (done lost)) ∙ look_no known (is_built p s.constructor) next (done lost) q;
    step_open = λ p s h q next.
        (next, done lost, h (look (is_built p s.constructor) next (done lost)) ∙ look_open known (is_built p s.constructor) next (done lost) q);
    above_missing = λ p s h next. h (look (is_built p s.constructor) next (done lost));
    above_waiting = λ p s l h next. h (look (is_built p s.constructor) next (done lost));
    no_place = λ next. refl;
    first_firm = first_firm;
    first_missing = λ p ps h next. h (stand_all_run ps next);
    first_waiting = λ p ps l h next. h (stand_all_run ps next);
  }

  -- ── nodes ──

  abbrev tested : Place → ℤ → Tree → Tree → Run
  tested p t y n = look (passes p t) (tree_run y) (tree_run n)

  abbrev asked : ℕ → List Place → Tree → Tree → Run
  asked g ps y n = look (says (question g (all_steps ps))) (tree_run y) (tree_run n)

  node_laws : NodeLaws known
  node_laws = record {
    leaf_firm = λ a ps h. h (done (acts a (all_steps ps)));
    leaf_missing = λ a ps h. h (done (acts a (all_steps ps)));
    leaf_waiting = λ a ps l h. h (done (acts a (all_steps ps)));
    fail_none = refl;
    never_lost = refl;
    switch_firm = λ p bs h. h (branches_run p bs);
    switch_missing = λ p bs h. h (branches_run p bs);
    switch_waiting = λ p bs l h. h (branches_run p bs);
    branch_yes = λ p c t bs q. look_yes known (is_built p c) (tree_run t) (branches_run p bs) q;
    branch_no = λ p c t bs q. look_no known (is_built p c) (tree_run t) (branches_run p bs) q;
    branch_open = λ p c t bs q. (tree_run t, branches_run p bs, look_open known (is_built p c) (tree_run t) (branches_run p bs) q);
    otherwise_taken = λ p t. refl;
    no_other_lost = λ p. refl;
    test_yes = λ p t y n h q. h (tested p t y n) ∙ look_yes known (passes p t) (tree_run y) (tree_run n) q;
    test_no = λ p t y n h q. h (tested p t y n) ∙ look_no known (passes p t) (tree_run y) (tree_run n) q;
    test_open = λ p t y n h q. (tree_run y, tree_run n, h (tested p t y n) ∙ look_open known (passes p t) (tree_run y) (tree_run n) q);
    test_missing = λ p t y n h. h (tested p t y n);
    test_waiting = λ p t y n l h. h (tested p t y n);
    ask_yes = λ g ps y n h q. h (asked g ps y n) ∙ look_yes known (says (question g (all_steps ps))) (tree_run y) (tree_run n) q;
    ask_no = λ g ps y n h q. h (asked g ps y n) ∙ look_no known (says (question g (all_steps ps))) (tree_run y) (tree_run n) q;
    ask_open = λ g ps y n h q. (tree_run y, tree_run n, h (asked g ps y n) ∙ look_open known (says (question g (all_steps ps))) (tree_run y) (tree_run n) q);
    ask_missing = λ g ps y n h. h (asked g ps y n);
    ask_waiting = λ g ps y n l h. h (asked g ps y n);
  }

pub bridges_hold : BridgesHold
bridges_hold known = record { patterns = pattern_laws known; clauses = clause_laws known; places = place_laws known; nodes = node_laws known }
