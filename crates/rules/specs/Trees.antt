-- Trees: nodes, the answer of a tree, and which answers are the same.
use Rattle.std.specs.Prelude.{◌≡◌, ℕ, ◌+◌, max, Bool, false, cond, List, [], ◌∷◌, take, drop, ℤ, Some, None, Option, slice_index_or}
use Rattle.measure.specs.Measure.{Measure}
use Rattle.guards.specs.Questions.{Rule}
use Rattle.rules.specs.declared.rows.TypeRow.{TypeRow}
use Rattle.rules.specs.declared.rows.PlaceRow.{PlaceRow}
use Rattle.rules.specs.declared.rows.PairRow.{PairRow}
use Rattle.rules.specs.declared.rows.NodeRow.{NodeRow}
use Rattle.rules.specs.declared.rows.NodeRow.TheVariants.{Leaf, Fail, Never, Switch, Test, Ask}
use Rattle.rules.specs.Tables.{unfolded}
use Rattle.rules.specs.Book.{Book}
use Rattle.rules.specs.Garments.{Value, built, measured, Place, whole, below, part_at, built_by, stands, all_stand, all_steps, last}
use Rattle.rules.specs.Sheets.{Answer, acts, none, lost, question}

-- A tree, with the earlier nodes that its rows name put in.
mutual
  pub data Tree : Type 0 where
    leaf : ℕ → List Place → Tree
    fail : Tree
    never : Tree
    switch : Place → Branches → Tree
    test : Place → ℤ → Tree → Tree → Tree  -- the yes tree, then the no tree
    ask : ℕ → List Place → Tree → Tree → Tree

  -- the trees of a switch by constructor, and at the end the other one, if any
  pub data Branches : Type 0 where
    branch : ℕ → Tree → Branches → Branches
    otherwise : Tree → Branches
    no_other : Branches

-- ── what rows mean ──

-- a place row is a step below the place that it names
abbrev pub place_from : List Place → PlaceRow → Place
place_from before r = below (slice_index_or before r.parent whole) r.step

-- the places of a workbook by number; place 0 exists once type 0 does
abbrev pub places_from : List TypeRow → List PlaceRow → List Place
places_from [] rows = []
places_from (t ∷ ts) rows = unfolded place_from (whole ∷ []) rows

abbrev pub places_of : Book → List Place
places_of b = places_from b.types b.places

abbrev pub places_at : List Place → List ℕ → List Place
places_at places [] = []
places_at places (n ∷ ns) = slice_index_or places n whole ∷ places_at places ns

abbrev pub other_from : List Tree → Option ℕ → Branches
other_from before None = no_other
other_from before (Some n) = otherwise (slice_index_or before n fail)

abbrev pub branches_from : List Tree → List PairRow → Option ℕ → Branches
branches_from before [] other = other_from before other
branches_from before (r ∷ rows) other = branch r.constructor (slice_index_or before r.node fail) (branches_from before rows other)

abbrev pub node_from : List Place → List PairRow → List Tree → NodeRow → Tree
node_from places pairs before (Leaf a ps) = leaf a (places_at places ps)
node_from places pairs before Fail = fail
node_from places pairs before Never = never
node_from places pairs before (Switch p o first count) = switch (slice_index_or places p whole) (branches_from before (take count (drop first pairs)) o)
node_from places pairs before (Test p t y n) = test (slice_index_or places p whole) t (slice_index_or before y fail) (slice_index_or before n fail)
node_from places pairs before (Ask g ps y n) = ask g (places_at places ps) (slice_index_or before y fail) (slice_index_or before n fail)

-- the trees of a workbook's nodes by number
abbrev pub nodes_of : Book → List Tree
nodes_of b = unfolded (node_from (places_of b) b.pairs) [] b.nodes

-- the newest node is the start
abbrev pub start_of : Book → Option Tree
start_of b = last (nodes_of b)

-- how many nodes there are at most on a way from a node down to its end, both counted
abbrev mutual
  pub depth : Tree → ℕ
  depth (leaf a ps) = 1
  depth fail = 1
  depth never = 1
  depth (switch p bs) = 1 + depth_below bs
  depth (test p t y n) = 1 + max (depth y) (depth n)
  depth (ask g ps y n) = 1 + max (depth y) (depth n)

  pub depth_below : Branches → ℕ
  depth_below (branch c n bs) = max (depth n) (depth_below bs)
  depth_below (otherwise n) = depth n
  depth_below no_other = 0

-- ── answers ──

-- whether the atom at a place passes a test
abbrev pub passes_at : Measure → ℤ → Option Value → Bool
passes_at m t None = false
passes_at m t (Some (built c vs)) = false
passes_at m t (Some (measured s a)) = m.passes s t a

abbrev mutual
  -- a node that uses a place not standing in the garment answers lost
  pub tree_answer : Measure → Tree → Value → Rule → Answer
  tree_answer m (leaf a ps) v rule = cond (all_stand v ps) (acts a (all_steps ps)) lost
  tree_answer m fail v rule = none
  tree_answer m never v rule = lost
  tree_answer m (switch p bs) v rule = cond (stands v p) (branch_answer m bs (part_at v p) v rule) lost
  tree_answer m (test p t y n) v rule = cond (stands v p) (cond (passes_at m t (part_at v p)) (tree_answer m y v rule) (tree_answer m n v rule)) lost
  tree_answer m (ask g ps y n) v rule = cond (all_stand v ps) (cond (rule (question g (all_steps ps))) (tree_answer m y v rule) (tree_answer m n v rule)) lost

  -- the branch of the constructor found, else the other one, else lost
  pub branch_answer : Measure → Branches → Option Value → Value → Rule → Answer
  branch_answer m (branch c n bs) found v rule = cond (built_by c found) (tree_answer m n v rule) (branch_answer m bs found v rule)
  branch_answer m (otherwise n) found v rule = tree_answer m n v rule
  branch_answer m no_other found v rule = lost

-- answers are the same where both are none, or both give equal actions and equal places; lost is never the same
abbrev pub Same : Answer → Answer → Type 0
Same (acts a ps) (acts b qs) = (a ≡ b) × (ps ≡ qs)
Same (acts a ps) none = ⊥
Same (acts a ps) lost = ⊥
Same none (acts b qs) = ⊥
Same none none = Unit {0}
Same none lost = ⊥
Same lost b = ⊥
