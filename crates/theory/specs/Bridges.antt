-- Laws, one for each form of pattern and of node, by which a recursion that asks for its looks follows the run, whoever answers.
use Rattle.std.specs.Prelude.{◌≡◌, ℕ, suc, Bool, true, false, List, [], ◌∷◌, ◌++◌, ℤ, Some, None}
use Rattle.measure.specs.Measure.{gives}
use Rattle.guards.specs.declared.step.Step.{Step}
use Rattle.rules.specs.Garments.{Place, whole, below, all_steps}
use Rattle.rules.specs.Sheets.{Pattern, Patterns, any, bind, build, either, gauge, no_patterns, with_pattern, Binding, field, Clause, list_of, acts, none, lost, question}
use Rattle.rules.specs.Trees.{Tree, Branches, leaf, fail, never, switch, test, ask, branch, otherwise, no_other}
use Rattle.theory.specs.Runs.{Look, is_built, passes, says, Run, done, pattern_run, patterns_run, sheet_run, stand_run, stand_all_run, tree_run, branches_run}
use Rattle.theory.specs.Settle.{Known, settle, WaitsFor}

-- ── how matching ends ──

pub data MatchEnd : Type 0 where
  matched : List Binding → MatchEnd
  mismatched : MatchEnd
  stopped : Look → MatchEnd

-- a pattern at a place: a run by what runs after a match and after a mismatch
abbrev pub Way : Type 0
Way = (List Binding → Run) → Run → Run

-- the way ends so, whatever runs after it
abbrev pub Ends : Known → Way → MatchEnd → Type 0
Ends known way (matched bs) = (on : List Binding → Run) (off : Run) → settle known (way on off) ≡ settle known (on bs)
Ends known way mismatched = (on : List Binding → Run) (off : Run) → settle known (way on off) ≡ settle known off
Ends known way (stopped l) = (on : List Binding → Run) (off : Run) → WaitsFor known (way on off) l

-- an end with more bindings in front
abbrev pub prefixed : List Binding → MatchEnd → MatchEnd
prefixed bs (matched cs) = matched (bs ++ cs)
prefixed bs mismatched = mismatched
prefixed bs (stopped l) = stopped l

abbrev pub bound : ℕ → Place → MatchEnd → MatchEnd
bound x p e = prefixed (record { variable = x; place = p } ∷ []) e

-- ── how looking whether a place stands ends ──

pub data Standing : Type 0 where
  firm : Standing
  missing : Standing
  waiting : Look → Standing

-- looking ends so, whatever runs after it
abbrev pub Stands : Known → (Run → Run) → Standing → Type 0
Stands known way firm = (next : Run) → settle known (way next) ≡ settle known next
Stands known way missing = (next : Run) → settle known (way next) ≡ done lost
Stands known way (waiting l) = (next : Run) → WaitsFor known (way next) l

-- ── the laws ──

pub record PatternLaws (known : Known) : Type 0 where
  pub any_matched : (t : ℕ) (p : Place) → Ends known (pattern_run (any t) p) (matched [])
  pub bind-bound : (x : ℕ) (q : Pattern) (p : Place) (e : MatchEnd) → Ends known (pattern_run q p) e → Ends known (pattern_run (bind x q) p) (bound x p e)
  -- a build at a known yes ends as its fields, from field 0 on
  pub build_yes : (c : ℕ) (qs : Patterns) (p : Place) (e : MatchEnd) → known (is_built p c) ≡ Some true → Ends known (patterns_run qs p c 0) e → Ends known (pattern_run (build c qs) p) e
  pub build_no : (c : ℕ) (qs : Patterns) (p : Place) → known (is_built p c) ≡ Some false → Ends known (pattern_run (build c qs) p) mismatched
  pub build_open : (c : ℕ) (qs : Patterns) (p : Place) → known (is_built p c) ≡ None → Ends known (pattern_run (build c qs) p) (stopped (is_built p c))
  pub fields_end : (p : Place) (c i : ℕ) → Ends known (patterns_run no_patterns p c i) (matched [])
  pub fields_matched : (q : Pattern) (qs : Patterns) (p : Place) (c i : ℕ) (bs : List Binding) (e : MatchEnd)
      → Ends known (pattern_run q (field p c i)) (matched bs) → Ends known (patterns_run qs p c (suc i)) e → Ends known (patterns_run (with_pattern q qs) p c i) (prefixed bs e)
  pub fields_mismatched : (q : Pattern) (qs : Patterns) (p : Place) (c i : ℕ)
      → Ends known (pattern_run q (field p c i)) mismatched → Ends known (patterns_run (with_pattern q qs) p c i) mismatched
  pub fields_stopped : (q : Pattern) (qs : Patterns) (p : Place) (c i : ℕ) (l : Look)
      → Ends known (pattern_run q (field p c i)) (stopped l) → Ends known (patterns_run (with_pattern q qs) p c i) (stopped l)
  pub left_matched : (l r : Pattern) (p : Place) (bs : List Binding) → Ends known (pattern_run l p) (matched bs) → Ends known (pattern_run (either l r) p) (matched bs)
  pub left_mismatched : (l r : Pattern) (p : Place) (e : MatchEnd) → Ends known (pattern_run l p) mismatched → Ends known (pattern_run r p) e → Ends known (pattern_run (either l r) p) e
  pub left_stopped : (l r : Pattern) (p : Place) (o : Look) → Ends known (pattern_run l p) (stopped o) → Ends known (pattern_run (either l r) p) (stopped o)
  pub gauge_wanted : (t : ℤ) (w b : Bool) (q : Pattern) (p : Place) (e : MatchEnd)
      → known (passes p t) ≡ Some b → gives w b ≡ true → Ends known (pattern_run q p) e → Ends known (pattern_run (gauge t w q) p) e
  pub gauge_unwanted : (t : ℤ) (w b : Bool) (q : Pattern) (p : Place) → known (passes p t) ≡ Some b → gives w b ≡ false → Ends known (pattern_run (gauge t w q) p) mismatched
  pub gauge_open : (t : ℤ) (w : Bool) (q : Pattern) (p : Place) → known (passes p t) ≡ None → Ends known (pattern_run (gauge t w q) p) (stopped (passes p t))

pub record ClauseLaws (known : Known) : Type 0 where
  pub no_clause : settle known (sheet_run []) ≡ done none
  pub clause_mismatched : (k : Clause) (ks : List Clause) → Ends known (pattern_run k.pattern whole) mismatched → settle known (sheet_run (k ∷ ks)) ≡ settle known (sheet_run ks)
  pub clause_stopped : (k : Clause) (ks : List Clause) (l : Look) → Ends known (pattern_run k.pattern whole) (stopped l) → WaitsFor known (sheet_run (k ∷ ks)) l
  pub clause_unguarded : (k : Clause) (ks : List Clause) (bs : List Binding) → Ends known (pattern_run k.pattern whole) (matched bs) → k.guard ≡ None
      → settle known (sheet_run (k ∷ ks)) ≡ done (acts k.action (list_of bs))
  pub clause_yes : (k : Clause) (ks : List Clause) (bs : List Binding) (g : ℕ) → Ends known (pattern_run k.pattern whole) (matched bs) → k.guard ≡ Some g
      → known (says (question g (list_of bs))) ≡ Some true → settle known (sheet_run (k ∷ ks)) ≡ done (acts k.action (list_of bs))
  -- after a no the clauses after it run
  pub clause_no : (k : Clause) (ks : List Clause) (bs : List Binding) (g : ℕ) → Ends known (pattern_run k.pattern whole) (matched bs) → k.guard ≡ Some g
      → known (says (question g (list_of bs))) ≡ Some false → settle known (sheet_run (k ∷ ks)) ≡ settle known (sheet_run ks)
  pub clause_open : (k : Clause) (ks : List Clause) (bs : List Binding) (g : ℕ) → Ends known (pattern_run k.pattern whole) (matched bs) → k.guard ≡ Some g
      → known (says (question g (list_of bs))) ≡ None → WaitsFor known (sheet_run (k ∷ ks)) (says (question g (list_of bs)))

pub record PlaceLaws (known : Known) : Type 0 where
  pub whole_firm : Stands known (stand_run whole) firm
  pub step_yes : (p : Place) (s : Step) → Stands known (stand_run p) firm → known (is_built p s.constructor) ≡ Some true → Stands known (stand_run (below p s)) firm
  pub step_no : (p : Place) (s : Step) → Stands known (stand_run p) firm → known (is_built p s.constructor) ≡ Some false → Stands known (stand_run (below p s)) missing
  pub step_open : (p : Place) (s : Step) → Stands known (stand_run p) firm → known (is_built p s.constructor) ≡ None → Stands known (stand_run (below p s)) (waiting (is_built p s.constructor))
  pub above_missing : (p : Place) (s : Step) → Stands known (stand_run p) missing → Stands known (stand_run (below p s)) missing
  pub above_waiting : (p : Place) (s : Step) (l : Look) → Stands known (stand_run p) (waiting l) → Stands known (stand_run (below p s)) (waiting l)
  pub no_place : Stands known (stand_all_run []) firm
  pub first_firm : (p : Place) (ps : List Place) (e : Standing) → Stands known (stand_run p) firm → Stands known (stand_all_run ps) e → Stands known (stand_all_run (p ∷ ps)) e
  pub first_missing : (p : Place) (ps : List Place) → Stands known (stand_run p) missing → Stands known (stand_all_run (p ∷ ps)) missing
  pub first_waiting : (p : Place) (ps : List Place) (l : Look) → Stands known (stand_run p) (waiting l) → Stands known (stand_all_run (p ∷ ps)) (waiting l)

pub record NodeLaws (known : Known) : Type 0 where
  pub leaf_firm : (a : ℕ) (ps : List Place) → Stands known (stand_all_run ps) firm → settle known (tree_run (leaf a ps)) ≡ done (acts a (all_steps ps))
  pub leaf_missing : (a : ℕ) (ps : List Place) → Stands known (stand_all_run ps) missing → settle known (tree_run (leaf a ps)) ≡ done lost
  pub leaf_waiting : (a : ℕ) (ps : List Place) (l : Look) → Stands known (stand_all_run ps) (waiting l) → WaitsFor known (tree_run (leaf a ps)) l
  pub fail_none : settle known (tree_run fail) ≡ done none
  pub never_lost : settle known (tree_run never) ≡ done lost
  pub switch_firm : (p : Place) (bs : Branches) → Stands known (stand_run p) firm → settle known (tree_run (switch p bs)) ≡ settle known (branches_run p bs)
  pub switch_missing : (p : Place) (bs : Branches) → Stands known (stand_run p) missing → settle known (tree_run (switch p bs)) ≡ done lost
  pub switch_waiting : (p : Place) (bs : Branches) (l : Look) → Stands known (stand_run p) (waiting l) → WaitsFor known (tree_run (switch p bs)) l
  pub branch_yes : (p : Place) (c : ℕ) (t : Tree) (bs : Branches) → known (is_built p c) ≡ Some true → settle known (branches_run p (branch c t bs)) ≡ settle known (tree_run t)
  pub branch_no : (p : Place) (c : ℕ) (t : Tree) (bs : Branches) → known (is_built p c) ≡ Some false → settle known (branches_run p (branch c t bs)) ≡ settle known (branches_run p bs)
  pub branch_open : (p : Place) (c : ℕ) (t : Tree) (bs : Branches) → known (is_built p c) ≡ None → WaitsFor known (branches_run p (branch c t bs)) (is_built p c)
  pub otherwise_taken : (p : Place) (t : Tree) → settle known (branches_run p (otherwise t)) ≡ settle known (tree_run t)
  pub no_other_lost : (p : Place) → settle known (branches_run p no_other) ≡ done lost
  pub test_yes : (p : Place) (t : ℤ) (y n : Tree) → Stands known (stand_run p) firm → known (passes p t) ≡ Some true → settle known (tree_run (test p t y n)) ≡ settle known (tree_run y)
  pub test_no : (p : Place) (t : ℤ) (y n : Tree) → Stands known (stand_run p) firm → known (passes p t) ≡ Some false → settle known (tree_run (test p t y n)) ≡ settle known (tree_run n)
  pub test_open : (p : Place) (t : ℤ) (y n : Tree) → Stands known (stand_run p) firm → known (passes p t) ≡ None → WaitsFor known (tree_run (test p t y n)) (passes p t)
  pub test_missing : (p : Place) (t : ℤ) (y n : Tree) → Stands known (stand_run p) missing → settle known (tree_run (test p t y n)) ≡ done lost
  pub test_waiting : (p : Place) (t : ℤ) (y n : Tree) (l : Look) → Stands known (stand_run p) (waiting l) → WaitsFor known (tree_run (test p t y n)) l
  pub ask_yes : (g : ℕ) (ps : List Place) (y n : Tree) → Stands known (stand_all_run ps) firm → known (says (question g (all_steps ps))) ≡ Some true
      → settle known (tree_run (ask g ps y n)) ≡ settle known (tree_run y)
  pub ask_no : (g : ℕ) (ps : List Place) (y n : Tree) → Stands known (stand_all_run ps) firm → known (says (question g (all_steps ps))) ≡ Some false
      → settle known (tree_run (ask g ps y n)) ≡ settle known (tree_run n)
  pub ask_open : (g : ℕ) (ps : List Place) (y n : Tree) → Stands known (stand_all_run ps) firm → known (says (question g (all_steps ps))) ≡ None
      → WaitsFor known (tree_run (ask g ps y n)) (says (question g (all_steps ps)))
  pub ask_missing : (g : ℕ) (ps : List Place) (y n : Tree) → Stands known (stand_all_run ps) missing → settle known (tree_run (ask g ps y n)) ≡ done lost
  pub ask_waiting : (g : ℕ) (ps : List Place) (y n : Tree) (l : Look) → Stands known (stand_all_run ps) (waiting l) → WaitsFor known (tree_run (ask g ps y n)) l

pub record Bridges (known : Known) : Type 0 where
  pub patterns : PatternLaws known
  pub clauses : ClauseLaws known
  pub places : PlaceLaws known
  pub nodes : NodeLaws known

abbrev pub BridgesHold : Type 0
BridgesHold = (known : Known) → Bridges known
