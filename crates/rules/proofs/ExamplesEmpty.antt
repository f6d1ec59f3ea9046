-- Types without values: no garment, so no difference.
use Rattle.std.proofs.Common.{◌≡◌, ℕ, zero, suc, List, [], ◌∷◌, Some, sym, refl, ◌∙◌, arith}
use Rattle.std.specs.List.{slice_get}
use Rattle.guards.specs.Questions.{Rule}
use Rattle.measure.specs.Measure.{Measure}
use Rattle.rules.specs.declared.rows.TypeRow.TheVariants.{Choice}
use Rattle.rules.specs.Book.{Book, Schema, schema_of, fields_of, owner_of}
use Rattle.rules.specs.Garments.{Value, Values, built, measured, no_values, with_value, OfType, OfTypes}
use Rattle.rules.specs.Sheets.{clauses_of, sheet_answer}
use Rattle.rules.specs.Trees.{Same, start_of}
use Rattle.rules.specs.Law.{start_answer, Alike}
use Rattle.rules.specs.Samples.{book_of, missing_branch}
use Rattle.rules.proofs.WellTyped.{Alike-by_values}
use Rattle.std.proofs.lemmas.Option.{none-some}
use Rattle.rules.proofs.Facts.{choice≢measured}

-- every constructor of a type has a field of that type
abbrev OnlyItself : Schema → ℕ → Type 0
OnlyItself d t = (c : ℕ) → owner_of d c ≡ Some t → (i : ℕ) × (slice_get (fields_of d c) i ≡ Some t)

-- such a choice has no value
module _ (m : Measure) (d : Schema) (t : ℕ) (choice : slice_get d.types t ≡ Some Choice) (only : OnlyItself d t) where
  mutual
    no_value : (v : Value) → OfType m d t v → ⊥
    no_value (built c vs) h = let f = only c h.1 in no_field vs (fields_of d c) f.0 h.2 f.1
    no_value (measured s a) h = choice≢measured s (sym choice ∙ h.0)

    no_field : (vs : Values) (ts : List ℕ) (i : ℕ) → OfTypes m d ts vs → slice_get ts i ≡ Some t → ⊥
    no_field no_values [] i h e = none-some t e
    no_field no_values (k ∷ ts) i h e = h
    no_field (with_value v vs) [] i h e = h
    no_field (with_value v vs) (k ∷ ts) zero h e =
        let q : k ≡ t = cc in
        no_value v (rw q at h.0)
    no_field (with_value v vs) (k ∷ ts) (suc i) h e = no_field vs ts i h.1 e

pub only_itself : (m : Measure) (b : Book) → slice_get b.types 0 ≡ Some Choice → OnlyItself (schema_of b) 0 → Alike m b
only_itself m b choice only = Alike-by_values m b (λ v rule h. absurd (no_value m (schema_of b) 0 choice only v h))

pub no_constructor : (m : Measure) (b : Book) → slice_get b.types 0 ≡ Some Choice → ((c : ℕ) → owner_of (schema_of b) c ≡ Some 0 → ⊥) → Alike m b
no_constructor m b choice no_owner = only_itself m b choice (λ c e. absurd (no_owner c e))

-- the missing branch: type 1 only leads to itself
some_injective : (a b : ℕ) → Some a ≡ Some b → a ≡ b
some_injective a b e = cc

module _ (m : Measure) where
  abbrev branch_book : Book
  branch_book = book_of m missing_branch

  only_one : OnlyItself (schema_of branch_book) 1
  only_one zero e = let z : ◌≡◌ {A = ℕ} 0 1 = some_injective 0 1 e in absurd (let q : ⊥ = omega arith in q)
  only_one (suc zero) e = let z : ◌≡◌ {A = ℕ} 0 1 = some_injective 0 1 e in absurd (let q : ⊥ = omega arith in q)
  only_one (suc (suc zero)) e = (0, refl)
  only_one (suc (suc (suc c))) e = absurd (none-some 1 e)

  same_branch : (v : Value) (rule : Rule) → OfType m (schema_of branch_book) 0 v → Same (sheet_answer m (clauses_of branch_book) v rule) (start_answer m (start_of branch_book) v rule)
  same_branch (built zero vs) rule h = (refl, refl)
  same_branch (built (suc zero) no_values) rule h = absurd h.2
  same_branch (built (suc zero) (with_value v vs)) rule h = absurd (no_value m (schema_of branch_book) 1 refl only_one v h.2.0)
  same_branch (built (suc (suc zero)) vs) rule h = let z : ◌≡◌ {A = ℕ} 1 0 = some_injective 1 0 h.1 in absurd (let q : ⊥ = omega arith in q)
  same_branch (built (suc (suc (suc c))) vs) rule h = absurd (none-some 0 h.1)
  same_branch (measured s a) rule h = absurd (choice≢measured s h.0)

pub branch_Alike : (m : Measure) → Alike m (book_of m missing_branch)
branch_Alike m = Alike-by_values m (book_of m missing_branch) (same_branch m)
