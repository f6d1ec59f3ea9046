-- Gauges that nothing passes, leaves and asks: facts on single patterns and nodes.
use Rattle.std.proofs.Common.{◌≡◌, ℕ, Bool, true, false, cond, not, List, ℤ, pos, None, refl, arith}
use Rattle.std.proofs.lemmas.Int.{ints}
use Rattle.std.proofs.lemmas.Bool.{false≢true}
use Rattle.guards.specs.Questions.{Rule}
use Rattle.measure.specs.Measure.{Measure}
use Rattle.millimetres.specs.Millimetres.{millimetres}
use Rattle.rules.specs.Garments.{Value, built, measured, Place, all_stand, all_steps}
use Rattle.rules.specs.Sheets.{Pattern, gauge, matches, Bound, Answer, lost, question, acts, none}
use Rattle.rules.specs.Trees.{Tree, ask, tree_answer, Same}

-- at most 100, and so at most 150
within : (s : ℕ) (a : ℤ) → millimetres.passes s (pos 100) a ≡ true → millimetres.passes s (pos 150) a ≡ true
within s a e = grind (arith, ints)

-- a narrow test together with not a wide one
nothing : (narrow wide : Bool) (o : Bound) → (narrow ≡ true → wide ≡ true) → cond narrow (cond (not wide) o None) None ≡ None
nothing true true o h = refl
nothing true false o h = absurd (false≢true (h refl))
nothing false wide o h = refl

nothing_turned : (narrow wide : Bool) (o : Bound) → (narrow ≡ true → wide ≡ true) → cond (not wide) (cond narrow o None) None ≡ None
nothing_turned true true o h = refl
nothing_turned true false o h = absurd (false≢true (h refl))
nothing_turned false true o h = refl
nothing_turned false false o h = refl

pub no_length : (q : Pattern) (p : Place) (v : Value) → matches millimetres (gauge (pos 100) true (gauge (pos 150) false q)) p v ≡ None
no_length q p (built c vs) = refl
no_length q p (measured s a) = nothing (millimetres.passes s (pos 100) a) (millimetres.passes s (pos 150) a) (matches millimetres q p (measured s a)) (within s a)

pub no_length_turned : (q : Pattern) (p : Place) (v : Value) → matches millimetres (gauge (pos 150) false (gauge (pos 100) true q)) p v ≡ None
no_length_turned q p (built c vs) = refl
no_length_turned q p (measured s a) = nothing_turned (millimetres.passes s (pos 100) a) (millimetres.passes s (pos 150) a) (matches millimetres q p (measured s a)) (within s a)

-- an answer and the same answer below it
twice : (stand yes' : Bool) (y n n' o : Answer) → cond stand (cond yes' (cond stand (cond yes' y n) lost) o) lost ≡ cond stand (cond yes' (cond stand (cond yes' y n') lost) o) lost
twice true true y n n' o = refl
twice true false y n n' o = refl
twice false yes' y n n' o = refl

pub asked_twice : (m : Measure) (guard : ℕ) (ps : List Place) (y n n' o : Tree) (v : Value) (rule : Rule)
    → tree_answer m (ask guard ps (ask guard ps y n) o) v rule ≡ tree_answer m (ask guard ps (ask guard ps y n') o) v rule
asked_twice m guard ps y n n' o v rule =
    twice (all_stand v ps) (rule (question guard (all_steps ps))) (tree_answer m y v rule) (tree_answer m n v rule) (tree_answer m n' v rule) (tree_answer m o v rule)

-- a lost answer is the same as nothing
pub lost_apart : (a : Answer) → (Same lost a → ⊥) × (Same a lost → ⊥)
lost_apart (acts action ps) = (λ h. h, λ h. h)
lost_apart none = (λ h. h, λ h. h)
lost_apart lost = (λ h. h, λ h. h)
