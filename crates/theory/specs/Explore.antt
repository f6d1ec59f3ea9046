-- Exploration: following two runs as far as knowledge decides, and learning each open look both ways.
use Rattle.std.specs.Prelude.{◌≡◌, Bool, true, false, cond, ◌&&◌, Some, None, Option, ◌==◌}
use Rattle.measure.specs.Measure.{Measure}
use Rattle.guards.specs.Questions.{same_question}
use Rattle.rules.specs.Book.{Schema}
use Rattle.rules.specs.Sheets.{Answer, acts, none, lost, question}
use Rattle.theory.specs.Runs.{Look, Run, done, look}
use Rattle.theory.specs.Knowledge.{Knowledge, learn, tells, Askable}

-- whether two answers are the same
abbrev pub same : Answer → Answer → Bool
same (acts a ps) (acts b qs) = a == b && same_question (question 0 ps) (question 0 qs)
same (acts a ps) none = false
same (acts a ps) lost = false
same none (acts b qs) = false
same none none = true
same none lost = false
same lost b = false

-- alike, or differing: the knowledge at last, and the two answers
pub data Verdict : Type 0 where
  alike : Verdict
  differs : Knowledge → Answer → Answer → Verdict

-- the first difference of two branches
abbrev pub or_next : Verdict → Verdict → Verdict
or_next alike v = v
or_next (differs k a b) v = differs k a b

-- go on by what is known, or both ways
abbrev pub by_answer : {A : Type 0} → Option Bool → A → A → A → A
by_answer None if_yes if_no if_open = if_open
by_answer (Some true) if_yes if_no if_open = if_yes
by_answer (Some false) if_yes if_no if_open = if_no

abbrev pub explore_second : Measure → Schema → Knowledge → Answer → Run → Verdict
explore_second m d k a (done b) = cond (same a b) alike (differs k a b)
explore_second m d k a (look l y n) =
    by_answer (tells m d k l) (explore_second m d k a y) (explore_second m d k a n)
    (or_next (explore_second m d (learn k l true) a y) (explore_second m d (learn k l false) a n))

-- the first run to its end, then the second
abbrev pub explore : Measure → Schema → Knowledge → Run → Run → Verdict
explore m d k (done a) second = explore_second m d k a second
explore m d k (look l y n) second =
    by_answer (tells m d k l) (explore m d k y second) (explore m d k n second)
    (or_next (explore m d (learn k l true) y second) (explore m d (learn k l false) n second))

-- all that is told by one knowledge is told by the other
abbrev pub More : Measure → Schema → Knowledge → Knowledge → Type 0
More m d k j = (l : Look) (b : Bool) → tells m d k l ≡ Some b → tells m d j l ≡ Some b

-- a run that takes only looks which may be taken with what its earlier looks have told
abbrev pub Proper : Measure → Schema → Knowledge → Run → Type 0
Proper m d k (done a) = Unit {0}
Proper m d k (look l y n) =
    Askable m d k l
    × (((j : Knowledge) → More m d k j → tells m d j l ≡ Some true → Proper m d j y)
    × ((j : Knowledge) → More m d k j → tells m d j l ≡ Some false → Proper m d j n))
