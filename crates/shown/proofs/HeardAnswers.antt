-- The answers that are shown mean what was heard, and are few.
use Rattle.std.proofs.Common.{◌≡◌, ◌+◌, ◌*◌, ◌≤◌, Bool, true, false, cond, List, [], ◌∷◌, length, Some, Option, unwrap_or, refl, ap, ◌∙◌, arith}
use Rattle.std.proofs.lemmas.List.{length-append}
use Rattle.std.specs.List.{AllByRecursion, All}
use Rattle.measure.specs.Measure.{Measure}
use Rattle.guards.proofs.Pairs.{length_written}
use Rattle.guards.specs.Questions.{Question, Rule, Steps, Within, same_question, written, written_steps, written_places}
use Rattle.guards.specs.Hosts.{Asked}
use Rattle.guards.specs.Listed.{listed_rule, written_answers, first_answer, bit}
use Rattle.guards.proofs.Listing.{list_back}
use Rattle.rules.specs.Garments.{Value}
use Rattle.theory.specs.Runs.{Look, is_built, passes, says, world_of}
use Rattle.theory.specs.Knowledge.{Knowledge, Holds, heard, hearing, Heard, AllHeard}
use Rattle.shown.specs.Budgets.{learnt, questions}
use Rattle.shown.specs.ShownAnswers.{as_heard, heard_list, AllWithin, shown_answers, AnswersShown}
use Rattle.shown.proofs.AskedWithin.{sheet_asks, tree_asks, learnt_within}
use Rattle.std.proofs.lemmas.List.Elements.{All-head, All-tail, recursion_from_All}

-- ── the rule ──

or_no : (t b : Bool) (o : Option Bool) → cond t b (unwrap_or o false) ≡ unwrap_or (cond t (Some b) o) false
or_no true b o = refl
or_no false b o = refl

first_step : (l : Look) (b : Bool) (q : Question) (rest : List Asked) (o : Option Bool) → first_answer rest q ≡ unwrap_or o false → first_answer (as_heard l b rest) q ≡ unwrap_or (hearing l b q o) false
first_step (is_built p c) b q rest o e = e
first_step (passes p t) b q rest o e = e
first_step (says r) b q rest o e = ap (λ z. cond (same_question r q) b z) e ∙ or_no (same_question r q) b o

first_heard : (k : Knowledge) (q : Question) → first_answer (heard_list k) q ≡ unwrap_or (heard k q) false
first_heard [] q = refl
first_heard (f ∷ k) q = first_step f.asked f.answer q (heard_list k) (heard k q) (first_heard k q)

means : (k : Knowledge) (q : Question) → AllWithin k → listed_rule (shown_answers k) q ≡ unwrap_or (heard k q) false
means k q h = ap (λ (l : List Asked). first_answer l q) (list_back (heard_list k) (recursion_from_All (λ a. Within 16 a.0) (heard_list k) h)) ∙ first_heard k q

-- ── what fits ──

module _ (m : Measure) (v : Value) (rule : Rule) (k : Knowledge) (within : AllWithin k) where
  abbrev listed : Rule
  listed = listed_rule (shown_answers k)

  look_holds : (l : Look) (b : Bool) → Heard k l b → world_of m v rule l ≡ b → world_of m v listed l ≡ b
  look_holds (is_built p c) b h e = e
  look_holds (passes p t) b h e = e
  look_holds (says q) b h e = means k q within ∙ ap (λ o. unwrap_or o false) h

  all_hold : (fs : Knowledge) → AllHeard k fs → Holds (world_of m v rule) fs → Holds (world_of m v listed) fs
  all_hold [] h e = tt
  all_hold (f ∷ fs) h e = (look_holds f.asked f.answer h.0 e.0, all_hold fs h.1 e.1)

-- ── how many numbers ──

places_length : (ps : List Steps) → AllByRecursion (λ p. length p ≤ 16) ps → length (written_places ps) ≤ 33 * length ps
places_length [] h = omega arith
places_length (p ∷ ps) h = omega (arith, h.0, length-append (written_steps p) (written_places ps), length_written p, places_length ps h.1)

question_length : (q : Question) → Within 16 q → length (written q) ≤ 134
question_length q h = omega (arith, h.0, places_length q.places h.1)

answers_length : (l : List Asked) → All (λ a. Within 16 a.0) l → length (written_answers l) ≤ 135 * length l
answers_length [] h = omega arith
answers_length (a ∷ l) h = omega (arith, length-append (written a.0) (bit a.1 ∷ written_answers l), question_length a.0 (All-head (λ a. Within 16 a.0) a l h), answers_length l (All-tail (λ a. Within 16 a.0) a l h))

one_more : (l : Look) (b : Bool) (rest : List Asked) → length (as_heard l b rest) ≡ questions l + length rest
one_more (is_built p c) b rest = omega arith
one_more (passes p t) b rest = omega arith
one_more (says q) b rest = omega arith

as_many : (k : Knowledge) → length (heard_list k) ≡ learnt questions k
as_many [] = refl
as_many (f ∷ k) = omega (arith, one_more f.asked f.answer (heard_list k), as_many k)

pub answers_shown : AnswersShown
answers_shown = record {
  means = means;
  fits = λ m d k v rule good within f. record { typed = f.typed; holds = all_hold m v rule k within k good.heard_all f.holds };
  as_many = as_many;
  few = λ k h. omega (arith, answers_length (heard_list k) h, as_many k);
  enough = λ k h l. omega (arith, answers_length (heard_list k) h, as_many k);
  sheet_asks = sheet_asks;
  tree_asks = tree_asks;
  learnt_within = learnt_within;
}
