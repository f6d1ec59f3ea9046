-- Lemmas on verdicts, on answers that are the same, and on going on by what is known.
use Rattle.std.proofs.Common.{◌≡◌, Bool, true, false, cond, eqb, ◌⊎◌, sym, refl, ap, inl, inr}
use Rattle.std.proofs.lemmas.Bool.{true≢false, false≢true, both_ways, and_parts, and_from, eqb-true, eq-eqb}
use Rattle.guards.specs.Questions.{Question, same_question}
use Rattle.guards.proofs.Listing.{same_decides}
use Rattle.rules.specs.Sheets.{Answer, acts, none, lost, question}
use Rattle.rules.specs.Trees.{Same}
use Rattle.theory.specs.Knowledge.{Knowledge}
use Rattle.theory.specs.Runs.{Look, Run, look, World, execute}
use Rattle.theory.specs.Explore.{same, Verdict, alike, differs, or_next}

-- ── answers that are the same ──

pub same_right : (a b : Answer) → same a b ≡ true → Same a b
same_right (acts a ps) (acts b qs) e =
    let parts = and_parts (eqb a b) (same_question (question 0 ps) (question 0 qs)) e in
    (eqb-true a b parts.0, ap (λ (q : Question). q.places) ((same_decides (question 0 ps) (question 0 qs)).0 parts.1))
same_right (acts a ps) none e = absurd (false≢true e)
same_right (acts a ps) lost e = absurd (false≢true e)
same_right none (acts b qs) e = absurd (false≢true e)
same_right none none e = tt
same_right none lost e = absurd (false≢true e)
same_right lost b e = absurd (false≢true e)

pub same_found : (a b : Answer) → Same a b → same a b ≡ true
same_found (acts a ps) (acts b qs) s =
    and_from (eqb a b) (same_question (question 0 ps) (question 0 qs)) (eq-eqb a b s.0) ((same_decides (question 0 ps) (question 0 qs)).1 (ap (question 0) s.1))
same_found (acts a ps) none s = absurd s
same_found (acts a ps) lost s = absurd s
same_found none (acts b qs) s = absurd s
same_found none none s = refl
same_found none lost s = absurd s
same_found lost b s = absurd s

pub same_refuted : (a b : Answer) → same a b ≡ false → Same a b → ⊥
same_refuted a b e s = both_ways (same a b) e (same_found a b s)

-- ── verdicts ──

abbrev is_alike : Verdict → Bool
is_alike alike = true
is_alike (differs k a b) = false

pub alike≢differs : (k : Knowledge) (a b : Answer) → alike ≡ differs k a b → ⊥
alike≢differs k a b e = true≢false (ap is_alike e)

pub both_alike : (x y : Verdict) → or_next x y ≡ alike → (x ≡ alike) × (y ≡ alike)
both_alike alike y e = (refl, e)
both_alike (differs k a b) y e = absurd (alike≢differs k a b (sym e))

pub one_differs : (x y : Verdict) (k : Knowledge) (a b : Answer) → or_next x y ≡ differs k a b → (x ≡ differs k a b) ⊎ (y ≡ differs k a b)
one_differs alike y k a b e = inr e
one_differs (differs g c d) y k a b e = inl e

pub end_alike : (t : Bool) (k : Knowledge) (a b : Answer) → cond t alike (differs k a b) ≡ alike → t ≡ true
end_alike true k a b e = refl
end_alike false k a b e = absurd (alike≢differs k a b (sym e))

pub end_differs : (t : Bool) (k : Knowledge) (a b : Answer) (g : Knowledge) (c d : Answer)
    → cond t alike (differs k a b) ≡ differs g c d → (t ≡ false) × (k ≡ g) × (a ≡ c) × (b ≡ d)
end_differs true k a b g c d e = absurd (alike≢differs g c d e)
end_differs false k a b g c d e = (refl, cc, cc, cc)

-- ── branches ──

-- a run goes on by the world's answer
pub takes_branch : (w : World) (l : Look) (y n : Run) (b : Bool) → w l ≡ b → execute (look l y n) w ≡ execute (cond b y n) w
takes_branch w l y n true e = ap (λ (t : Bool). cond t (execute y w) (execute n w)) e
takes_branch w l y n false e = ap (λ (t : Bool). cond t (execute y w) (execute n w)) e
