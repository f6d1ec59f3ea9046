-- The sample: its sheet and tree differ on the length 200 only.
use Rattle.std.proofs.Common.{◌≡◌, ℕ, zero, suc, Bool, true, false, cond, ◌&&◌, List, [], ℤ, pos, sym, refl, ap, subst, arith}
use Rattle.std.specs.Int.Signed.{le_z}
use Rattle.std.proofs.lemmas.Int.{ints}
use Rattle.guards.specs.Questions.{Rule}
use Rattle.millimetres.specs.Millimetres.{measurable}
use Rattle.rules.specs.declared.rows.GarmentEntry.{GarmentEntry}
use Rattle.rules.specs.Book.{Schema, schema_of}
use Rattle.rules.specs.Garments.{Value, built, measured, no_values, with_value, OfType, well_typed}
use Rattle.rules.specs.Sheets.{Answer, acts, clauses_of, sheet_answer}
use Rattle.rules.specs.Trees.{Same, start_of}
use Rattle.rules.specs.Law.{sheet_says, tree_says, start_answer, Alike}
use Rattle.rules.specs.Samples.{shop_measure, sample_book, with_length}
use Rattle.rules.specs.Examples.{sample_value}
use Rattle.rules.proofs.WellTyped.{garments_are_values, Alike-by_values}
use Rattle.std.proofs.lemmas.Option.{none-some}
use Rattle.rules.proofs.Facts.{choice≢measured}

abbrev sample_schema : Schema
sample_schema = schema_of (sample_book (pos 199))

-- the values of the sample: without a length, or with one
by_length : (P : Value → Type 0) → P (built 0 no_values) → ((a : ℤ) → measurable 0 a ≡ true → P (with_length a)) → (v : Value) → OfType shop_measure sample_schema 0 v → P v
by_length P p q (built zero no_values) h = p
by_length P p q (built zero (with_value v vs)) h = absurd h.2
by_length P p q (built (suc zero) no_values) h = absurd h.2
by_length P p q (built (suc zero) (with_value (built c ws) no_values)) h = absurd (choice≢measured 0 (sym h.2.0.0))
by_length P p q (built (suc zero) (with_value (measured s a) no_values)) h =
    let e : s ≡ 0 = cc h.2.0.0 in
    let k : shop_measure.atom 0 a ≡ true = subst (λ z. shop_measure.atom z a ≡ true) e h.2.0.1 in
    subst (λ z. P (built 1 (with_value (measured z a) no_values))) (sym e) (q a k)
by_length P p q (built (suc zero) (with_value v (with_value w ws))) h = absurd h.2.1
by_length P p q (built (suc (suc c)) vs) h = absurd (none-some 0 h.1)
by_length P p q (measured s a) h = absurd (choice≢measured s h.0)

-- what is answered to a length, by whether it is at most the limit
abbrev by_limit : Bool → Answer
by_limit b = cond b (acts 7 []) (acts 8 [])

Same-as_itself : (b : Bool) → Same (by_limit b) (by_limit b)
Same-as_itself true = (refl, refl)
Same-as_itself false = (refl, refl)

sheet_by : (a : ℤ) (rule : Rule) (b : Bool) → (measurable 0 a && le_z a (pos 200)) ≡ b → sheet_answer shop_measure (clauses_of (sample_book (pos 199))) (with_length a) rule ≡ by_limit b
sheet_by a rule true e = rw e
sheet_by a rule false e = rw e

tree_by : (a : ℤ) (rule : Rule) (b : Bool) → (measurable 0 a && le_z a (pos 199)) ≡ b → start_answer shop_measure (start_of (sample_book (pos 199))) (with_length a) rule ≡ by_limit b
tree_by a rule true e = rw e
tree_by a rule false e = rw e

mended_by : (a : ℤ) (rule : Rule) (b : Bool) → (measurable 0 a && le_z a (pos 200)) ≡ b → start_answer shop_measure (start_of (sample_book (pos 200))) (with_length a) rule ≡ by_limit b
mended_by a rule true e = rw e
mended_by a rule false e = rw e

same_limit : (a : ℤ) → (a ≡ pos 200 → ⊥) → le_z a (pos 199) ≡ le_z a (pos 200)
same_limit a n = grind (arith, ints)

same_by : (x y : Answer) (b : Bool) → x ≡ by_limit b → y ≡ by_limit b → Same x y
same_by x y b p q = rw (p, q) (Same-as_itself b)

pub sample_same : (es : List GarmentEntry) (rule : Rule) → well_typed shop_measure sample_schema es ≡ true → (sample_value es ≡ with_length (pos 200) → ⊥)
    → Same (sheet_says shop_measure (sample_book (pos 199)) es rule) (tree_says shop_measure (sample_book (pos 199)) es rule)
sample_same es rule h n = by_length P (λ k. (refl, refl)) with_length_lem (sample_value es) (garments_are_values shop_measure sample_schema es h) n
  where
    P : Value → Type 0
    P v = (v ≡ with_length (pos 200) → ⊥) → Same (sheet_answer shop_measure (clauses_of (sample_book (pos 199))) v rule) (start_answer shop_measure (start_of (sample_book (pos 199))) v rule)

    with_length_lem : (a : ℤ) → measurable 0 a ≡ true → P (with_length a)
    with_length_lem a k no200 =
        let e = same_limit a (λ q. no200 (ap with_length q)) in
        same_by (sheet_answer shop_measure (clauses_of (sample_book (pos 199))) (with_length a) rule) (start_answer shop_measure (start_of (sample_book (pos 199))) (with_length a) rule)
        (measurable 0 a && le_z a (pos 200)) (sheet_by a rule (measurable 0 a && le_z a (pos 200)) refl) (tree_by a rule (measurable 0 a && le_z a (pos 200)) (ap (λ z. measurable 0 a && z) e))

pub sample_apart : (es : List GarmentEntry) (rule : Rule) → sample_value es ≡ with_length (pos 200)
    → (sheet_says shop_measure (sample_book (pos 199)) es rule ≡ acts 7 []) × (tree_says shop_measure (sample_book (pos 199)) es rule ≡ acts 8 [])
    × (Same (sheet_says shop_measure (sample_book (pos 199)) es rule) (tree_says shop_measure (sample_book (pos 199)) es rule) → ⊥)
sample_apart es rule e =
    let P : Value → Type 0 = λ v.
    (sheet_answer shop_measure (clauses_of (sample_book (pos 199))) v rule ≡ acts 7 []) × (start_answer shop_measure (start_of (sample_book (pos 199))) v rule ≡ acts 8 [])
    × (Same (sheet_answer shop_measure (clauses_of (sample_book (pos 199))) v rule) (start_answer shop_measure (start_of (sample_book (pos 199))) v rule) → ⊥) in
    subst P (sym e) (refl, refl, λ h. (let z : ◌≡◌ {A = ℕ} 7 8 = h.0 in omega arith))

pub mended_Alike : Alike shop_measure (sample_book (pos 200))
mended_Alike = Alike-by_values shop_measure (sample_book (pos 200)) (λ v rule h. by_length (P rule) (refl, refl) (with_length_lem rule) v h)
  where
    P : Rule → Value → Type 0
    P rule v = Same (sheet_answer shop_measure (clauses_of (sample_book (pos 200))) v rule) (start_answer shop_measure (start_of (sample_book (pos 200))) v rule)

    with_length_lem : (rule : Rule) (a : ℤ) → measurable 0 a ≡ true → P rule (with_length a)
    with_length_lem rule a k =
        same_by (sheet_answer shop_measure (clauses_of (sample_book (pos 200))) (with_length a) rule) (start_answer shop_measure (start_of (sample_book (pos 200))) (with_length a) rule)
        (measurable 0 a && le_z a (pos 200)) (sheet_by a rule (measurable 0 a && le_z a (pos 200)) refl) (mended_by a rule (measurable 0 a && le_z a (pos 200)) refl)
