-- Plain recursions that ask someone for their looks, and what is proved of them: they end just as the runs settle.
use Rattle.std.specs.Prelude.{◌≡◌, ℕ, suc, cond, List, [], ◌∷◌, Some, None, Option}
use Rattle.guards.specs.Questions.{Steps}
use Rattle.rules.specs.Garments.{Place, whole, below, all_steps}
use Rattle.rules.specs.Sheets.{Pattern, Patterns, any, bind, build, either, gauge, no_patterns, with_pattern, field, Clause, list_of, Answer, acts, none, lost, question}
use Rattle.rules.specs.Trees.{Tree, Branches, leaf, fail, never, switch, test, ask, branch, otherwise, no_other}
use Rattle.theory.specs.Runs.{Look, is_built, passes, says, Run, done, World, execute, pattern_run, patterns_run, sheet_run, stand_run, stand_all_run, tree_run}
use Rattle.theory.specs.Explore.{by_answer}
use Rattle.theory.specs.Settle.{Known, settle, WaitsFor}
use Rattle.theory.specs.Bridges.{MatchEnd, matched, mismatched, stopped, Ends, prefixed, bound, Standing, firm, missing, waiting, Stands}

-- ── patterns ──

-- the second only where the first does not match
abbrev pub or_match : MatchEnd → MatchEnd → MatchEnd
or_match (matched bs) e = matched bs
or_match mismatched e = e
or_match (stopped l) e = stopped l

-- the second only where the first matches, with what both bind
abbrev pub and_match : MatchEnd → MatchEnd → MatchEnd
and_match (matched bs) e = prefixed bs e
and_match mismatched e = mismatched
and_match (stopped l) e = stopped l

abbrev mutual
  pub matching : Known → Pattern → Place → MatchEnd
  matching known (any t) p = matched []
  matching known (bind x q) p = bound x p (matching known q p)
  matching known (build c qs) p = by_answer (known (is_built p c)) (matching_fields known qs p c 0) mismatched (stopped (is_built p c))
  matching known (either l r) p = or_match (matching known l p) (matching known r p)
  matching known (gauge t w q) p =
      by_answer (known (passes p t)) (cond w (matching known q p) mismatched) (cond w mismatched (matching known q p)) (stopped (passes p t))

  pub matching_fields : Known → Patterns → Place → ℕ → ℕ → MatchEnd
  matching_fields known no_patterns p c i = matched []
  matching_fields known (with_pattern q qs) p c i = and_match (matching known q (field p c i)) (matching_fields known qs p c (suc i))

-- ── how a sheet and a tree end: with an answer, or at an open look ──

pub data RunEnd : Type 0 where
  answered : Answer → RunEnd
  waits : Look → RunEnd

abbrev pub Settles : Known → Run → RunEnd → Type 0
Settles known r (answered a) = settle known r ≡ done a
Settles known r (waits l) = WaitsFor known r l

-- ── clauses ──

abbrev pub guard_end : Known → Option ℕ → ℕ → List Steps → RunEnd → RunEnd
guard_end known None action places rest = answered (acts action places)
guard_end known (Some g) action places rest = by_answer (known (says (question g places))) (answered (acts action places)) rest (waits (says (question g places)))

abbrev pub clause_end : Known → Clause → MatchEnd → RunEnd → RunEnd
clause_end known k (matched bs) rest = guard_end known k.guard k.action (list_of bs) rest
clause_end known k mismatched rest = rest
clause_end known k (stopped l) rest = waits l

abbrev pub sheet_end : Known → List Clause → RunEnd
sheet_end known [] = answered none
sheet_end known (k ∷ ks) = clause_end known k (matching known k.pattern whole) (sheet_end known ks)

-- ── places and nodes ──

-- the second only where the first is firm
abbrev pub then_standing : Standing → Standing → Standing
then_standing firm e = e
then_standing missing e = missing
then_standing (waiting l) e = waiting l

abbrev pub standing : Known → Place → Standing
standing known whole = firm
standing known (below p s) = then_standing (standing known p) (by_answer (known (is_built p s.constructor)) firm missing (waiting (is_built p s.constructor)))

abbrev pub standing_all : Known → List Place → Standing
standing_all known [] = firm
standing_all known (p ∷ ps) = then_standing (standing known p) (standing_all known ps)

-- a node by the standing of its places
abbrev pub on_standing : Standing → RunEnd → RunEnd
on_standing firm e = e
on_standing missing e = answered lost
on_standing (waiting l) e = waits l

abbrev mutual
  pub tree_end : Known → Tree → RunEnd
  tree_end known (leaf a ps) = on_standing (standing_all known ps) (answered (acts a (all_steps ps)))
  tree_end known fail = answered none
  tree_end known never = answered lost
  tree_end known (switch p bs) = on_standing (standing known p) (branch_end known p bs)
  tree_end known (test p t y n) = on_standing (standing known p) (by_answer (known (passes p t)) (tree_end known y) (tree_end known n) (waits (passes p t)))
  tree_end known (ask g ps y n) =
      on_standing (standing_all known ps) (by_answer (known (says (question g (all_steps ps)))) (tree_end known y) (tree_end known n) (waits (says (question g (all_steps ps)))))

  pub branch_end : Known → Place → Branches → RunEnd
  branch_end known p (branch c n bs) = by_answer (known (is_built p c)) (tree_end known n) (branch_end known p bs) (waits (is_built p c))
  branch_end known p (otherwise n) = tree_end known n
  branch_end known p no_other = answered lost

-- ── what is proved ──

pub record Following : Type 0 where
  pub patterns : (known : Known) (q : Pattern) (p : Place) → Ends known (pattern_run q p) (matching known q p)
  pub fields : (known : Known) (qs : Patterns) (p : Place) (c i : ℕ) → Ends known (patterns_run qs p c i) (matching_fields known qs p c i)
  pub places : (known : Known) (p : Place) → Stands known (stand_run p) (standing known p)
  pub all_places : (known : Known) (ps : List Place) → Stands known (stand_all_run ps) (standing_all known ps)
  pub sheets : (known : Known) (ks : List Clause) → Settles known (sheet_run ks) (sheet_end known ks)
  pub trees : (known : Known) (t : Tree) → Settles known (tree_run t) (tree_end known t)
  -- where all is known, the answer is that of the run
  pub sheet_answers : (known : Known) (w : World) (ks : List Clause) → ((l : Look) → known l ≡ Some (w l)) → sheet_end known ks ≡ answered (execute (sheet_run ks) w)
  pub tree_answers : (known : Known) (w : World) (t : Tree) → ((l : Look) → known l ≡ Some (w l)) → tree_end known t ≡ answered (execute (tree_run t) w)
