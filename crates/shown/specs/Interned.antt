-- Lists of places, the whole garment first and every other one after the place that it is below; which looks are at listed places.
use Rattle.std.specs.Prelude.{◌≡◌, Bool, true, false, cond, not, ◌&&◌, ◌||◌, List, [], ◌∷◌, ◌++◌, ◌≢◌}
use Rattle.rules.specs.Garments.{Place, whole, below}
use Rattle.theory.specs.Runs.{Look, is_built, passes, says, Run, done, look}
use Rattle.theory.specs.Knowledge.{Knowledge, same_place}

-- whether a place is listed
abbrev pub among : List Place → Place → Bool
among [] p = false
among (q ∷ ps) p = same_place q p || among ps p

-- whether the place that p is below is listed
abbrev pub parent_among : List Place → Place → Bool
parent_among ps whole = false
parent_among ps (below p s) = among ps p

-- no place stands before the one that it is below
abbrev pub parents_first : List Place → Bool
parents_first [] = true
parents_first (p ∷ ps) = not (parent_among ps p) && parents_first ps

-- the whole garment and these places: each is below a listed place that stands before it
pub record Interned (ps : List Place) : Type 0 where
  pub closed : (p : Place) → among (whole ∷ ps) p ≡ true → (p ≢ whole) → parent_among (whole ∷ ps) p ≡ true
  pub ordered : parents_first (whole ∷ ps) ≡ true

-- places listed one after another, after ps; one that is listed already is not listed again
abbrev pub also_listed : List Place → List Place → List Place
also_listed ps [] = ps
also_listed ps (q ∷ qs) = also_listed (cond (among (whole ∷ ps) q) ps (ps ++ q ∷ [])) qs

-- each place is below one of those before it
abbrev pub each_below : List Place → List Place → Bool
each_below before [] = true
each_below before (q ∷ qs) = parent_among before q && each_below (q ∷ before) qs

-- a look at a listed place; a question looks at none
abbrev pub looks_among : List Place → Look → Bool
looks_among ps (is_built p c) = among ps p
looks_among ps (passes p t) = among ps p
looks_among ps (says q) = true

-- every fact is of a listed place
abbrev pub known_among : List Place → Knowledge → Bool
known_among ps [] = true
known_among ps (f ∷ k) = looks_among ps f.asked && known_among ps k

-- every look of a run is at a listed place
abbrev pub runs_among : List Place → Run → Bool
runs_among ps (done a) = true
runs_among ps (look l y n) = looks_among ps l && (runs_among ps y && runs_among ps n)

-- all of some places are listed
abbrev pub all_among : List Place → List Place → Bool
all_among ps [] = true
all_among ps (q ∷ qs) = among ps q && all_among ps qs
