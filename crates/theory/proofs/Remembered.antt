-- What is found of two runs depends only on what is known of their looks.
use Rattle.std.proofs.Common.{◌≡◌, Bool, true, false, cond, ◌||◌, [], ◌∷◌, ◌++◌, Some, None, filter, Option, sym, refl, ap, ◌∙◌}
use Rattle.std.specs.List.{All, Contains}
use Rattle.std.proofs.lemmas.Bool.{or_parts}
use Rattle.std.proofs.lemmas.List.Elements.{filter-append}
use Rattle.std.proofs.lemmas.List.Elements.{All-nil, All-cons, All-head, All-tail, All-contains}
use Rattle.measure.specs.Measure.{Measure}
use Rattle.rules.specs.Book.{Schema}
use Rattle.rules.specs.Sheets.{Answer}
use Rattle.theory.specs.Runs.{Look, Run, done, look, World, world_of}
use Rattle.theory.specs.Inhabited.{inhabited}
use Rattle.theory.specs.Knowledge.{Fact, Knowledge, learn, Holds, tells, Good}
use Rattle.theory.specs.Explore.{same, Verdict, alike, differs, or_next, by_answer, explore_second, explore, Proper}
use Rattle.theory.specs.Quick.{bears, relevant, relevant_to, SameOfAll, difference, Remembering}
use Rattle.theory.specs.Verdicts.{Knowing}
use Rattle.theory.proofs.Careful.{careful}
use Rattle.theory.proofs.Explored.{alike_shows}
use Rattle.theory.proofs.Judging.{alike_found}
use Rattle.theory.proofs.Relevance.{tells_same, same_learnt, kept_same}
use Rattle.std.proofs.lemmas.Option.{none-some}

end_difference : (t : Bool) (k j : Knowledge) (a b : Answer) → difference (cond t alike (differs k a b)) ≡ difference (cond t alike (differs j a b))
end_difference true k j a b = refl
end_difference false k j a b = refl

next_difference : (x y u v : Verdict) → difference x ≡ difference u → difference y ≡ difference v → difference (or_next x y) ≡ difference (or_next u v)
next_difference alike y alike v e f = f
next_difference alike y (differs k a b) v e f = absurd (none-some (a, b) e)
next_difference (differs k a b) y alike v e f = absurd (none-some (a, b) (sym e))
next_difference (differs k a b) y (differs j c z) v e f = e

branch_difference : (o : Option Bool) (a b c z a' b' c' z' : Verdict) → difference a ≡ difference a' → difference b ≡ difference b' → difference c ≡ difference c' → difference z ≡ difference z'
    → difference (by_answer o a b (or_next c z)) ≡ difference (by_answer o a' b' (or_next c' z'))
branch_difference (Some true) a b c z a' b' c' z' p q r s = p
branch_difference (Some false) a b c z a' b' c' z' p q r s = q
branch_difference None a b c z a' b' c' z' p q r s = next_difference c z c' z' r s

all_learnt : (m : Measure) (k j : Knowledge) (f : Look) (b : Bool) (r : Run) → SameOfAll m k j r → SameOfAll m (learn k f b) (learn j f b) r
all_learnt m k j f b (done a) h = tt
all_learnt m k j f b (look l y n) h = (same_learnt m k j f b l h.0, (all_learnt m k j f b y h.1.0, all_learnt m k j f b n h.1.1))

module _ (m : Measure) (d : Schema) where
  second-difference : (a : Answer) (second : Run) (k j : Knowledge) → SameOfAll m k j second → difference (explore_second m d k a second) ≡ difference (explore_second m d j a second)
  second-difference a (done b) k j h = end_difference (same a b) k j a b
  second-difference a (look l y n) k j h =
      branch_difference (tells m d k l) (explore_second m d k a y) (explore_second m d k a n) (explore_second m d (learn k l true) a y) (explore_second m d (learn k l false) a n)
      (explore_second m d j a y) (explore_second m d j a n) (explore_second m d (learn j l true) a y) (explore_second m d (learn j l false) a n)
      (second-difference a y k j h.1.0) (second-difference a n k j h.1.1)
      (second-difference a y (learn k l true) (learn j l true) (all_learnt m k j l true y h.1.0)) (second-difference a n (learn k l false) (learn j l false) (all_learnt m k j l false n h.1.1))
      ∙ ap (λ (o : Option Bool). difference (by_answer o (explore_second m d j a y) (explore_second m d j a n) (or_next (explore_second m d (learn j l true) a y) (explore_second m d (learn j l false) a n))))
      (tells_same m d k j l h.0)

  pub same_difference : (first second : Run) (k j : Knowledge) → SameOfAll m k j first → SameOfAll m k j second → difference (explore m d k first second) ≡ difference (explore m d j first second)
  same_difference (done a) second k j h i = second-difference a second k j i
  same_difference (look l y n) second k j h i =
      branch_difference (tells m d k l) (explore m d k y second) (explore m d k n second) (explore m d (learn k l true) y second) (explore m d (learn k l false) n second)
      (explore m d j y second) (explore m d j n second) (explore m d (learn j l true) y second) (explore m d (learn j l false) n second)
      (same_difference y second k j h.1.0 i) (same_difference n second k j h.1.1 i)
      (same_difference y second (learn k l true) (learn j l true) (all_learnt m k j l true y h.1.0) (all_learnt m k j l true second i))
      (same_difference n second (learn k l false) (learn j l false) (all_learnt m k j l false n h.1.1) (all_learnt m k j l false second i))
      ∙ ap (λ (o : Option Bool). difference (by_answer o (explore m d j y second) (explore m d j n second) (or_next (explore m d (learn j l true) y second) (explore m d (learn j l false) n second))))
      (tells_same m d k j l h.0)

-- ── equal relevant facts ──

all_kept : (m : Measure) (test : Fact → Bool) (k j : Knowledge) → filter test k ≡ filter test j → (r : Run) → ((f : Fact) → test f ≡ false → relevant r f ≡ false) → SameOfAll m k j r
all_kept m test k j equal (done a) silent = tt
all_kept m test k j equal (look l y n) silent =
    let parts : (f : Fact) → test f ≡ false → (bears f.asked l ≡ false) × ((relevant y f || relevant n f) ≡ false) = λ f z. or_parts (bears f.asked l) (relevant y f || relevant n f) (silent f z) in (
      kept_same test m k j equal l (λ f z. (parts f z).0),
      (
        all_kept m test k j equal y (λ f z. (or_parts (relevant y f) (relevant n f) (parts f z).1).0),
        all_kept m test k j equal n (λ f z. (or_parts (relevant y f) (relevant n f) (parts f z).1).1),
      ),
    )

pub by_relevant : (m : Measure) (d : Schema) (k j : Knowledge) (first second : Run) → filter (relevant_to first second) k ≡ filter (relevant_to first second) j
    → difference (explore m d k first second) ≡ difference (explore m d j first second)
by_relevant m d k j first second equal =
    same_difference m d first second k j
    (all_kept m (relevant_to first second) k j equal first (λ f z. (or_parts (relevant first f) (relevant second f) z).0))
    (all_kept m (relevant_to first second) k j equal second (λ f z. (or_parts (relevant first f) (relevant second f) z).1))

no_difference : (v : Verdict) → difference v ≡ None → v ≡ alike
no_difference alike e = refl
no_difference (differs k a b) e = absurd (none-some (a, b) (sym e))

left_out : (test : Fact → Bool) (newer older : Knowledge) (f : Fact) → test f ≡ false → filter test (newer ++ f ∷ older) ≡ filter test (newer ++ older)
left_out test newer older f e =
    filter-append test newer (f ∷ older)
    ∙ ap (λ (t : Bool). filter test newer ++ cond t (f ∷ filter test older) (filter test older)) e
    ∙ sym (filter-append test newer older)

again : (m : Measure) (d : Schema) (k j : Knowledge) (first second : Run) → filter (relevant_to first second) k ≡ filter (relevant_to first second) j
    → explore m d k first second ≡ alike → explore m d j first second ≡ alike
again m d k j first second equal e = no_difference (explore m d j first second) (sym (by_relevant m d k j first second equal) ∙ ap difference e)

-- ── more relevant facts ──

kept_twice : (test : Fact → Bool) (k : Knowledge) → filter test k ≡ filter test (filter test k)
kept_twice test [] = refl
kept_twice test (f ∷ k) = go (test f) refl (kept_twice test k)
  where
    go : (t : Bool) → test f ≡ t → filter test k ≡ filter test (filter test k)
        → cond t (f ∷ filter test k) (filter test k) ≡ filter test (cond t (f ∷ filter test k) (filter test k))
    go true e h = ap (λ (l : Knowledge). f ∷ l) h ∙ sym (ap (λ (t : Bool). cond t (f ∷ filter test (filter test k)) (filter test (filter test k))) e)
    go false e h = h

Holds-All : (w : World) (k : Knowledge) → Holds w k → All (λ f. w f.asked ≡ f.answer) k
Holds-All w [] h = All-nil (λ f. w f.asked ≡ f.answer)
Holds-All w (f ∷ k) h = All-cons (λ f. w f.asked ≡ f.answer) f k h.0 (Holds-All w k h.1)

Holds-among : (w : World) (j k : Knowledge) → Holds w j → All (Contains j) k → Holds w k
Holds-among w j [] h a = tt
Holds-among w j (f ∷ k) h a = (All-contains (λ g. w g.asked ≡ g.answer) j f (Holds-All w j h) (All-head (Contains j) f k a), Holds-among w j k h (All-tail (Contains j) f k a))

module _ (m : Measure) (d : Schema) (know : Knowing m d) (k j : Knowledge) (first second : Run) where
  with_more : inhabited m d 0 ≡ true → Good m d j → Proper m d j first → Proper m d j second → All (Contains j) (filter (relevant_to first second) k)
      → explore m d k first second ≡ alike → explore m d j first second ≡ alike
  with_more some ok p q facts e =
      let core = filter (relevant_to first second) k in
      let on_core = again m d k core first second (kept_twice (relevant_to first second) k) e in
      alike_found m d know first second j some ok (careful m d first j p) (careful m d second j q)
      (λ v rule f. alike_shows m d know v rule first second core (record { typed = f.typed; holds = Holds-among (world_of m v rule) j core f.holds facts }) on_core)

pub Remembering-holds : (m : Measure) (d : Schema) → Knowing m d → Remembering m d
Remembering-holds m d know = record {
  by_what_is_left = λ k j first second. same_difference m d first second k j;
  by_facts = by_relevant m d;
  alike_again = again m d;
  alike_with_more = with_more m d know;
  irrelevant = λ newer older f first second e. by_relevant m d (newer ++ f ∷ older) (newer ++ older) first second (left_out (relevant_to first second) newer older f e);
}
