-- What settling a run keeps: its answer, where it stops, how it is explored, and that it is proper.
use Rattle.std.proofs.Common.{◌≡◌, Bool, true, false, cond, Some, None, Option, sym, refl, ap, ◌∙◌, subst}
use Rattle.measure.specs.Measure.{Measure}
use Rattle.rules.specs.Book.{Schema}
use Rattle.rules.specs.Sheets.{Answer}
use Rattle.theory.specs.Runs.{Look, Run, done, look, World, execute}
use Rattle.theory.specs.Knowledge.{Knowledge, tells, Askable}
use Rattle.theory.specs.Explore.{by_answer, Proper}
use Rattle.theory.specs.Settle.{Known, settle, WaitsFor, Grows, Agrees, Settling}
use Rattle.theory.proofs.Kept.{More-self}
use Rattle.theory.proofs.LooksLeft.{stops_open}
use Rattle.theory.proofs.Resumed.{resume_first, resume_second}

-- ── one look by its answer ──

module _ (known : Known) (l : Look) (y n : Run) where
  look_by : (o : Option Bool) → known l ≡ o → settle known (look l y n) ≡ by_answer o (settle known y) (settle known n) (look l y n)
  look_by o e = ap (λ z. by_answer z (settle known y) (settle known n) (look l y n)) e

  pub look_yes : known l ≡ Some true → settle known (look l y n) ≡ settle known y
  look_yes e = look_by (Some true) e

  pub look_no : known l ≡ Some false → settle known (look l y n) ≡ settle known n
  look_no e = look_by (Some false) e

  pub look_open : known l ≡ None → settle known (look l y n) ≡ look l y n
  look_open e = look_by None e

-- ── answers ──

by_cond : (b : Bool) (y n o : Run) (a c : Answer) → y ≡ done a → n ≡ done c → by_answer (Some b) y n o ≡ done (cond b a c)
by_cond true y n o a c h g = h
by_cond false y n o a c h g = g

total : (known : Known) (w : World) (r : Run) → ((l : Look) → known l ≡ Some (w l)) → settle known r ≡ done (execute r w)
total known w (done a) h = refl
total known w (look l y n) h =
    look_by known l y n (Some (w l)) (h l) ∙ by_cond (w l) (settle known y) (settle known n) (look l y n) (execute y w) (execute n w) (total known w y h) (total known w n h)

answers : (known : Known) (w : World) (r : Run) → Agrees known w → execute (settle known r) w ≡ execute r w
answers known w (done a) h = refl
answers known w (look l y n) h = go (known l) refl (answers known w y h) (answers known w n h)
  where
    go : (o : Option Bool) → known l ≡ o → execute (settle known y) w ≡ execute y w → execute (settle known n) w ≡ execute n w
        → execute (by_answer o (settle known y) (settle known n) (look l y n)) w ≡ cond (w l) (execute y w) (execute n w)
    go None e f g = refl
    go (Some true) e f g = f ∙ sym (ap (λ b. cond b (execute y w) (execute n w)) (h l true e))
    go (Some false) e f g = g ∙ sym (ap (λ b. cond b (execute y w) (execute n w)) (h l false e))

-- ── where it stops ──

goes_on : (known later : Known) (r : Run) → Grows known later → settle later (settle known r) ≡ settle later r
goes_on known later (done a) h = refl
goes_on known later (look l y n) h = go (known l) refl (goes_on known later y h) (goes_on known later n h)
  where
    go : (o : Option Bool) → known l ≡ o → settle later (settle known y) ≡ settle later y → settle later (settle known n) ≡ settle later n
        → settle later (by_answer o (settle known y) (settle known n) (look l y n)) ≡ settle later (look l y n)
    go None e f g = refl
    go (Some true) e f g = f ∙ sym (look_yes later l y n (h l true e))
    go (Some false) e f g = g ∙ sym (look_no later l y n (h l false e))

-- ── exploring and proper runs ──

module _ (m : Measure) (d : Schema) (k : Knowledge) where
  stays_Proper : (r : Run) → Proper m d k r → Proper m d k (settle (tells m d k) r)
  stays_Proper (done a) h = tt
  stays_Proper (look l y n) h = go (tells m d k l) refl (stays_Proper y) (stays_Proper n)
    where
      go : (o : Option Bool) → tells m d k l ≡ o → (Proper m d k y → Proper m d k (settle (tells m d k) y)) → (Proper m d k n → Proper m d k (settle (tells m d k) n))
          → Proper m d k (by_answer o (settle (tells m d k) y) (settle (tells m d k) n) (look l y n))
      go None e f g = h
      go (Some true) e f g = f (h.1.0 k (More-self m d k) e)
      go (Some false) e f g = g (h.1.1 k (More-self m d k) e)

  stops_Askable : (r : Run) (l : Look) → Proper m d k r → WaitsFor (tells m d k) r l → Askable m d k l
  stops_Askable r l h w = (subst (λ z. Proper m d k z) w.2 (stays_Proper r h)).0

pub settling : Settling
settling = record {
  total = total;
  answers = answers;
  stops_open = λ known r l w. stops_open known r l w.0 w.1 w.2;
  goes_on = goes_on;
  explores = resume_first;
  explores_second = λ m d k. resume_second m d k k (More-self m d k);
  stays_Proper = stays_Proper;
  stops_Askable = stops_Askable;
}
