-- Garments: values, the places in them, and lists of entries that unfold to a value.
use Rattle.std.specs.Prelude.{◌≡◌, ℕ, zero, suc, Bool, true, false, cond, ◌&&◌, List, [], ◌∷◌, ◌++◌, take, drop, ℤ, pos, negsuc, Some, None, Option, ◌==◌, nat_le, slice_index_or}
use Rattle.std.specs.List.{slice_get}
use Rattle.measure.specs.Measure.{Measure}
use Rattle.guards.specs.declared.step.Step.{Step}
use Rattle.guards.specs.Questions.{Steps}
use Rattle.rules.specs.declared.rows.TypeRow.TheVariants.{Choice, Measured}
use Rattle.rules.specs.declared.rows.GarmentEntry.{GarmentEntry}
use Rattle.rules.specs.Tables.{unfolded, natural}
use Rattle.rules.specs.Book.{Schema, fields_of, owner_of, sort_of, is_choice}

-- A value is built by a constructor from the values of its fields, or measured: an atom of a sort.
mutual
  pub data Value : Type 0 where
    built : ℕ → Values → Value
    measured : ℕ → ℤ → Value

  pub data Values : Type 0 where
    no_values : Values
    with_value : Value → Values → Values

-- A place is the whole garment, or one step below a place.
pub data Place : Type 0 where
  whole : Place
  below : Place → Step → Place

-- ── what stands at a place ──

-- the value of a field, counted from 0
abbrev pub field_at : Values → ℕ → Option Value
field_at no_values i = None
field_at (with_value v vs) zero = Some v
field_at (with_value v vs) (suc i) = field_at vs i

-- one step down: into a field of the constructor that the step names
abbrev pub step_into : Step → Option Value → Option Value
step_into s None = None
step_into s (Some (measured k a)) = None
step_into s (Some (built c vs)) = cond (c == s.constructor) (field_at vs s.field) None

-- the part of a value at a place
abbrev pub part_at : Value → Place → Option Value
part_at v whole = Some v
part_at v (below p s) = step_into s (part_at v p)

-- whether a part is built by the constructor c
abbrev pub built_by : ℕ → Option Value → Bool
built_by c None = false
built_by c (Some (measured k a)) = false
built_by c (Some (built d vs)) = d == c

-- a place stands in a value where each step names the constructor found there
abbrev pub stands : Value → Place → Bool
stands v whole = true
stands v (below p s) = stands v p && built_by s.constructor (part_at v p)

abbrev pub all_stand : Value → List Place → Bool
all_stand v [] = true
all_stand v (p ∷ ps) = stands v p && all_stand v ps

-- the steps of a place from the whole garment down: places with equal steps are the same place
abbrev pub steps_of : Place → Steps
steps_of whole = []
steps_of (below p s) = steps_of p ++ s ∷ []

abbrev pub all_steps : List Place → List Steps
all_steps [] = []
all_steps (p ∷ ps) = steps_of p ∷ all_steps ps

-- the part of a value that steps lead to
abbrev pub walk : Option Value → Steps → Option Value
walk o [] = o
walk o (s ∷ ss) = walk (step_into s o) ss

-- the type of what stands at a place, by the constructor of its last step
abbrev pub place_type : Schema → Place → Option ℕ
place_type d whole = Some 0
place_type d (below p s) = slice_get (fields_of d s.constructor) s.field

-- ── values of a type ──

abbrev mutual
  -- a value of a type: built by one of its constructors from values of the field types, or an atom of its sort
  pub OfType : Measure → Schema → ℕ → Value → Type 0
  OfType m d t (built c vs) = (slice_get d.types t ≡ Some Choice) × (owner_of d c ≡ Some t) × OfTypes m d (fields_of d c) vs
  OfType m d t (measured s a) = (slice_get d.types t ≡ Some (Measured s)) × (m.atom s a ≡ true)

  pub OfTypes : Measure → Schema → List ℕ → Values → Type 0
  OfTypes m d [] no_values = Unit {0}
  OfTypes m d [] (with_value v vs) = ⊥
  OfTypes m d (t ∷ ts) no_values = ⊥
  OfTypes m d (t ∷ ts) (with_value v vs) = OfType m d t v × OfTypes m d ts vs

-- ── garments as entries ──

-- the values of the entries that child numbers name
abbrev pub children : List Value → List ℕ → Values
children before [] = no_values
children before (n ∷ ns) = with_value (slice_index_or before n (built 0 no_values)) (children before ns)

abbrev pub measured_by : Option ℕ → ℤ → Value
measured_by None a = built 0 no_values
measured_by (Some s) a = measured s a

-- the value of an entry, from the values of the entries before it
abbrev pub entry_value : Schema → List Value → GarmentEntry → Value
entry_value d before e =
    cond (e.mark == 0) (built (natural e.head) (children before (take e.count e.children)))
    (measured_by (sort_of d e.ty) e.head)

abbrev pub entry_values : Schema → List GarmentEntry → List Value
entry_values d es = unfolded (entry_value d) [] es

-- the last of a list
abbrev pub last : {A : Type 0} → List A → Option A
last [] = None
last (x ∷ []) = Some x
last (x ∷ (y ∷ ys)) = last (y ∷ ys)

abbrev pub or_nothing : Option Value → Value
or_nothing None = built 0 no_values
or_nothing (Some v) = v

-- the value that a list of entries unfolds to: that of the last one (which a well-typed list has)
abbrev pub garment_value : Schema → List GarmentEntry → Value
garment_value d es = or_nothing (last (entry_values d es))

abbrev pub is_some_number : Option ℕ → ℕ → Bool
is_some_number None n = false
is_some_number (Some k) n = k == n

abbrev pub all_zero : List ℕ → Bool
all_zero [] = true
all_zero (n ∷ ns) = n == 0 && all_zero ns

abbrev pub type_number_in : Option GarmentEntry → Option ℕ
type_number_in None = None
type_number_in (Some e) = Some e.ty

-- whether child numbers name entries before, of the field types in order
abbrev pub children_fit : List GarmentEntry → List ℕ → List ℕ → Bool
children_fit before [] [] = true
children_fit before [] (t ∷ ts) = false
children_fit before (n ∷ ns) [] = false
children_fit before (n ∷ ns) (t ∷ ts) = is_some_number (type_number_in (slice_get before n)) t && children_fit before ns ts

-- a built entry: its head is a constructor of its type; its children are of the field types, unused child numbers are 0
abbrev pub built_fits : Schema → List GarmentEntry → GarmentEntry → ℤ → Bool
built_fits d before e (negsuc c) = false
built_fits d before e (pos c) =
    is_choice (slice_get d.types e.ty) && (is_some_number (owner_of d c) e.ty
    && (children_fit before (take e.count e.children) (fields_of d c) && (nat_le e.count 4 && all_zero (drop e.count e.children))))

abbrev pub is_atom : Measure → Option ℕ → ℤ → Bool
is_atom m None a = false
is_atom m (Some s) a = m.atom s a

-- a measured entry: its head is an atom of its type's sort, and it has no children
abbrev pub measured_fits : Measure → Schema → GarmentEntry → Bool
measured_fits m d e = is_atom m (sort_of d e.ty) e.head && (e.count == 0 && all_zero e.children)

abbrev pub entry_fits : Measure → Schema → List GarmentEntry → GarmentEntry → Bool
entry_fits m d before e = cond (e.mark == 0) (built_fits d before e e.head) (e.mark == 1 && measured_fits m d e)

-- every entry fits those before it, used or not
abbrev pub entries_fit : Measure → Schema → List GarmentEntry → List GarmentEntry → Bool
entries_fit m d before [] = true
entries_fit m d before (e ∷ es) = entry_fits m d before e && entries_fit m d (before ++ e ∷ []) es

-- a garment is well typed when it has a last entry, of type 0, and every entry fits
abbrev pub well_typed : Measure → Schema → List GarmentEntry → Bool
well_typed m d es = is_some_number (type_number_in (last es)) 0 && entries_fit m d [] es
