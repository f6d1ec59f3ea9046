-- An alternation under a guard: the other side is never tried.
use Rattle.std.proofs.Common.{◌≡◌, ℕ, zero, suc, Bool, true, false, cond, List, [], ◌∷◌, pos, Some, refl, ap, ◌∙◌, arith}
use Rattle.guards.specs.Questions.{Rule, same_question}
use Rattle.measure.specs.Measure.{Measure}
use Rattle.millimetres.specs.Millimetres.{millimetres}
use Rattle.rules.specs.declared.rows.GarmentEntry.{GarmentEntry}
use Rattle.rules.specs.Book.{Schema, schema_of}
use Rattle.rules.specs.Garments.{Value, built, measured, no_values, with_value, whole, OfType, garment_value, well_typed}
use Rattle.rules.specs.Sheets.{Pattern, either, matches, or_else, Binding, Bound, list_of, question, tried, Clause, Answer, acts, clauses_of, sheet_answer}
use Rattle.rules.specs.Trees.{Same, start_of}
use Rattle.rules.specs.Law.{sheet_says, start_answer, Alike}
use Rattle.rules.specs.Samples.{book_of, no_children, pair_sheet, asks_once, asks_again}
use Rattle.rules.specs.Examples.{OnlySecond, first_field, second_field}
use Rattle.rules.proofs.WellTyped.{garments_are_values, Alike-by_values}
use Rattle.std.proofs.lemmas.Option.{none-some}
use Rattle.rules.proofs.Facts.{choice≢measured}

pub never_other_side : (m : Measure) (left right : Pattern) (guard action : ℕ) (ks : List Clause) (v : Value) (rule : Rule) (bs : List Binding)
    → matches m left whole v ≡ Some bs → rule (question guard (list_of bs)) ≡ false
    → sheet_answer m (record { pattern = either left right; guard = Some guard; action = action } ∷ ks) v rule ≡ sheet_answer m ks v rule
never_other_side m left right guard action ks v rule bs e n =
    let k : Clause = record { pattern = either left right; guard = Some guard; action = action } in
    let next : Answer = sheet_answer m ks v rule in
    ap (λ (o : Bound). tried rule k (or_else o (matches m right whole v)) next) e ∙ ap (λ b. cond b (acts action (list_of bs)) next) n

-- the values: pairs
abbrev pair_schema : Schema
pair_schema = schema_of (book_of millimetres pair_sheet)

by_pair : (P : Value → Type 0) → ((v w : Value) → P (built 0 (with_value v (with_value w no_values)))) → (v : Value) → OfType millimetres pair_schema 0 v → P v
by_pair P p (built zero no_values) h = absurd h.2
by_pair P p (built zero (with_value v no_values)) h = absurd h.2.1
by_pair P p (built zero (with_value v (with_value w no_values))) h = p v w
by_pair P p (built zero (with_value v (with_value w (with_value x vs)))) h = absurd h.2.1.1
by_pair P p (built (suc c) vs) h = absurd (none-some 0 h.1)
by_pair P p (measured s a) h = absurd (choice≢measured s h.0)

pub next_clause : (es : List GarmentEntry) (rule : Rule) → well_typed millimetres pair_schema es ≡ true → OnlySecond rule → sheet_says millimetres (book_of millimetres pair_sheet) es rule ≡ acts 8 []
next_clause es rule h only =
    by_pair (λ v. sheet_answer millimetres (clauses_of (book_of millimetres pair_sheet)) v rule ≡ acts 8 [])
    (λ v w. ap (λ b. cond b (acts 7 (first_field ∷ [])) (acts 8 [])) only.no_first)
    (garment_value pair_schema es) (garments_are_values millimetres pair_schema es h)

-- asking once is alike
Same-by_answer : (b : Bool) → Same (cond b (acts 7 (first_field ∷ [])) (acts 8 [])) (cond b (acts 7 (first_field ∷ [])) (acts 8 []))
Same-by_answer true = (refl, refl)
Same-by_answer false = (refl, refl)

pub once_Alike : Alike millimetres (book_of millimetres asks_once)
once_Alike = Alike-by_values millimetres (book_of millimetres asks_once) (λ v rule h.
    by_pair (λ v. Same (sheet_answer millimetres (clauses_of (book_of millimetres asks_once)) v rule) (start_answer millimetres (start_of (book_of millimetres asks_once)) v rule))
    (λ v w. Same-by_answer (rule (question 3 (first_field ∷ [])))) v h)

-- asking again differs, on a pair of lengths under the rule that says yes to the second only
abbrev pair_entries : List GarmentEntry
pair_entries =
    record { ty = 1; mark = 1; head = pos 0; count = 0; children = no_children }
    ∷ record { ty = 0; mark = 0; head = pos 0; count = 2; children = no_children }
    ∷ []

abbrev only_second : Rule
only_second q = same_question q (question 3 (second_field ∷ []))

pub again_differs : Alike millimetres (book_of millimetres asks_again) → ⊥
again_differs alike =
    let z : ◌≡◌ {A = ℕ} 8 7 = (alike pair_entries only_second refl).0 in
    omega arith
