-- Knowledge: the looks that were answered, which garments and rules fit it, and what it tells of any other look.
use Rattle.std.specs.Prelude.{◌≡◌, ℕ, zero, suc, Bool, true, false, cond, not, ◌&&◌, ◌||◌, List, [], ◌∷◌, length, ℤ, is_some, Some, None, Option, ◌==◌}
use Rattle.std.specs.List.{slice_get}
use Rattle.measure.specs.Measure.{Measure, gives}
use Rattle.guards.specs.Questions.{Question, Rule, same_question, and_then}
use Rattle.rules.specs.declared.rows.TypeRow.TheVariants.{Choice, Measured}
use Rattle.rules.specs.Book.{Schema, fields_of, owner_of, is_choice, sort_of}
use Rattle.rules.specs.Garments.{Value, Place, whole, below, place_type, is_some_number, OfType}
use Rattle.theory.specs.Runs.{Look, is_built, passes, says, World, world_of}
use Rattle.theory.specs.Inhabited.{any_atom, all_of, inhabited}

-- a look and its answer
pub record Fact : Type 0 where
  pub asked : Look
  pub answer : Bool

abbrev pub Knowledge : Type 0
Knowledge = List Fact

abbrev pub learn : Knowledge → Look → Bool → Knowledge
learn k l b = record { asked = l; answer = b } ∷ k

-- ── which garments and rules fit ──

abbrev pub Holds : World → Knowledge → Type 0
Holds w [] = Unit {0}
Holds w (f ∷ k) = (w f.asked ≡ f.answer) × Holds w k

-- a well-typed garment and a rule that answer every look so
pub record Fits (m : Measure) (d : Schema) (k : Knowledge) (v : Value) (rule : Rule) : Type 0 where
  pub typed : OfType m d 0 v
  pub holds : Holds (world_of m v rule) k

-- ── what is known of a place ──

abbrev pub same_place : Place → Place → Bool
same_place whole whole = true
same_place whole (below q s) = false
same_place (below p r) whole = false
same_place (below p r) (below q s) = same_place p q && (r.constructor == s.constructor && r.field == s.field)

-- whether the constructor c, standing at p, answers a look as the fact says; looks elsewhere do not matter
abbrev pub head_agrees : Place → ℕ → Look → Bool → Bool
head_agrees p c (is_built q e) b = not (same_place q p) || gives b (c == e)
head_agrees p c (passes q t) b = true
head_agrees p c (says q) b = true

abbrev pub head_agrees_all : Place → ℕ → Knowledge → Bool
head_agrees_all p c [] = true
head_agrees_all p c (f ∷ k) = head_agrees p c f.asked f.answer && head_agrees_all p c k

-- whether the constructor c builds values of a type, which then is a choice
abbrev pub builds_type : Schema → ℕ → Option ℕ → Bool
builds_type d c None = false
builds_type d c (Some t) = is_choice (slice_get d.types t) && is_some_number (owner_of d c) t

-- a candidate: a constructor of the place's type, with garments for all of its fields, that all facts at the place allow
abbrev pub candidate : Measure → Schema → Knowledge → Place → ℕ → Bool
candidate m d k p c = builds_type d c (place_type d p) && (all_of (inhabited m d) (fields_of d c) && head_agrees_all p c k)

abbrev pub none_below : ℕ → (ℕ → Bool) → Bool
none_below zero test = true
none_below (suc n) test = not (test n) && none_below n test

-- the constructor is the only candidate
abbrev pub only : Measure → Schema → Knowledge → Place → ℕ → Bool
only m d k p c = candidate m d k p c && none_below (length d.constructors) (λ e. candidate m d k p e && not (e == c))

-- a place stands in every garment that fits: at each step the step's constructor is the only candidate, and has the field
abbrev pub reached : Measure → Schema → Knowledge → Place → Bool
reached m d k whole = true
reached m d k (below p s) = reached m d k p && (only m d k p s.constructor && is_some (slice_get (fields_of d s.constructor) s.field))

-- whether the atom a of sort s, standing at p, answers a look as the fact says
abbrev pub atom_agrees : Measure → Place → ℕ → ℤ → Look → Bool → Bool
atom_agrees m p s a (is_built q c) b = true
atom_agrees m p s a (passes q t) b = not (same_place q p) || gives b (m.passes s t a)
atom_agrees m p s a (says q) b = true

-- all tests put at the place, weighed together
abbrev pub atom_agrees_all : Measure → Place → ℕ → ℤ → Knowledge → Bool
atom_agrees_all m p s a [] = true
atom_agrees_all m p s a (f ∷ k) = atom_agrees m p s a f.asked f.answer && atom_agrees_all m p s a k

-- an atom that may stand at a place of the sort
abbrev pub allowed : Measure → Knowledge → Place → ℕ → ℤ → Bool
allowed m k p s a = m.atom s a && atom_agrees_all m p s a k

abbrev pub hearing : Look → Bool → Question → Option Bool → Option Bool
hearing (is_built p c) b q otherwise = otherwise
hearing (passes p t) b q otherwise = otherwise
hearing (says r) b q otherwise = cond (same_question r q) (Some b) otherwise

-- the answer that a question got
abbrev pub heard : Knowledge → Question → Option Bool
heard [] q = None
heard (f ∷ k) q = hearing f.asked f.answer q (heard k q)

-- ── what knowledge tells of a look: yes, no, or nothing where both are possible ──

-- by whether a yes and whether a no is possible
abbrev pub decided : Bool → Bool → Option Bool
decided true true = None
decided true false = Some true
decided false b = Some false

abbrev pub tells_head : Bool → Bool → Option Bool
tells_head true b = Some true
tells_head false true = None
tells_head false false = Some false

abbrev pub tells_test : Measure → Knowledge → Place → ℤ → Option ℕ → Option Bool
tells_test m k p t None = None
tells_test m k p t (Some s) = decided (any_atom (λ a. allowed m k p s a && m.passes s t a)) (any_atom (λ a. allowed m k p s a && not (m.passes s t a)))

abbrev pub if_reached : Bool → Option Bool → Option Bool
if_reached true o = o
if_reached false o = None

abbrev pub tells : Measure → Schema → Knowledge → Look → Option Bool
tells m d k (is_built p c) = if_reached (reached m d k p) (tells_head (only m d k p c) (candidate m d k p c))
tells m d k (passes p t) = if_reached (reached m d k p) (tells_test m k p t (and_then (place_type d p) (sort_of d)))
tells m d k (says q) = heard k q

-- ── knowledge that has a garment ──

-- a look may be taken where the place is known to stand and is of the right form
abbrev pub Askable : Measure → Schema → Knowledge → Look → Type 0
Askable m d k (is_built p c) = (reached m d k p ≡ true) × ((t : ℕ) × (place_type d p ≡ Some t) × (slice_get d.types t ≡ Some Choice))
Askable m d k (passes p t) = (reached m d k p ≡ true) × ((s : ℕ) × (and_then (place_type d p) (sort_of d) ≡ Some s))
Askable m d k (says q) = Unit {0}

-- every fact's look may be taken with what is known now
abbrev pub AllAskable : Measure → Schema → Knowledge → Knowledge → Type 0
AllAskable m d k [] = Unit {0}
AllAskable m d k (f ∷ fs) = Askable m d k f.asked × AllAskable m d k fs

-- a question is answered in one way
abbrev pub Heard : Knowledge → Look → Bool → Type 0
Heard k (is_built p c) b = Unit {0}
Heard k (passes p t) b = Unit {0}
Heard k (says q) b = heard k q ≡ Some b

abbrev pub AllHeard : Knowledge → Knowledge → Type 0
AllHeard k [] = Unit {0}
AllHeard k (f ∷ fs) = Heard k f.asked f.answer × AllHeard k fs

-- every place of an inhabited type is left a candidate, or an atom
pub record Good (m : Measure) (d : Schema) (k : Knowledge) : Type 0 where
  pub heads : (p : Place) (t : ℕ) → place_type d p ≡ Some t → inhabited m d t ≡ true → slice_get d.types t ≡ Some Choice → (c : ℕ) × (candidate m d k p c ≡ true)
  pub atoms : (p : Place) (t s : ℕ) → place_type d p ≡ Some t → inhabited m d t ≡ true → slice_get d.types t ≡ Some (Measured s) → (a : ℤ) × (allowed m k p s a ≡ true)
  pub asked : AllAskable m d k k
  pub heard_all : AllHeard k k
