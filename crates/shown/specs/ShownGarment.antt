-- The garment that is shown, as entries: a default garment of each inhabited type, then an entry for each listed place, from the last to the first.
use Rattle.std.specs.Prelude.{◌≡◌, ℕ, zero, suc, ◌+◌, ◌≤◌, Bool, true, false, cond, List, [], ◌∷◌, ◌++◌, map, length, ℤ, pos, Some, None, Option, ◌==◌, slice_index}
use Rattle.std.specs.Option.{unwrap_or}
use Rattle.std.specs.List.{slice_get}
use Rattle.measure.specs.Measure.{Measure}
use Rattle.guards.specs.Questions.{Question, Rule}
use Rattle.rules.specs.declared.rows.TypeRow.{TypeRow}
use Rattle.rules.specs.declared.rows.TypeRow.TheVariants.{Choice, Measured}
use Rattle.rules.specs.declared.rows.GarmentEntry.{GarmentEntry}
use Rattle.rules.specs.Book.{Schema, fields_of, owner_of}
use Rattle.rules.specs.Garments.{Place, whole, place_type, garment_value, well_typed}
use Rattle.rules.specs.Sheets.{field}
use Rattle.rules.specs.Calls.{shown_entries}
use Rattle.theory.specs.Inhabited.{first_below, inhabited_by, makers, inhabited}
use Rattle.theory.specs.Knowledge.{Knowledge, Fits, same_place, candidate, allowed, heard, Good}
use Rattle.shown.specs.Interned.{among, known_among, Interned}

-- ── entries ──

-- up to four child numbers, unused ones 0
abbrev pub four_of : List ℕ → List ℕ
four_of l = slice_index l 0 ∷ (slice_index l 1 ∷ (slice_index l 2 ∷ (slice_index l 3 ∷ [])))

abbrev pub built_entry : ℕ → ℕ → List ℕ → GarmentEntry
built_entry t c ns = record { ty = t; mark = 0; head = pos c; count = length ns; children = four_of ns }

abbrev pub measured_entry : ℕ → ℤ → GarmentEntry
measured_entry t a = record { ty = t; mark = 1; head = a; count = 0; children = four_of [] }

-- ── a default garment of each inhabited type ──

-- entries, and which is the default of a type
pub record Stock : Type 0 where
  pub entries : List GarmentEntry
  pub default_of : ℕ → ℕ

-- one more entry, the default of the type t
abbrev pub stocked_with : Stock → ℕ → GarmentEntry → Stock
stocked_with st t e = record { entries = st.entries ++ e ∷ []; default_of = λ u. cond (t == u) (length st.entries) (st.default_of u) }

abbrev pub stock_measured : Measure → (ℕ → ℤ) → ℕ → Option TypeRow → Stock → Stock
stock_measured m usual t None st = st
stock_measured m usual t (Some Choice) st = st
stock_measured m usual t (Some (Measured s)) st = cond (inhabited_by m false (Some (Measured s))) (stocked_with st t (measured_entry t (usual s))) st

-- the inhabited measured types below n, each with its sort's usual atom
abbrev pub measured_stock : Measure → Schema → (ℕ → ℤ) → ℕ → Stock
measured_stock m d usual zero = record { entries = []; default_of = λ u. 0 }
measured_stock m d usual (suc t) = stock_measured m usual t (slice_get d.types t) (measured_stock m d usual t)

abbrev pub stock_made : Schema → ℕ → Option ℕ → Stock → Stock
stock_made d c None st = st
stock_made d c (Some t) st = stocked_with st t (built_entry t c (map st.default_of (fields_of d c)))

-- the measured types, then what constructors make of earlier defaults, the oldest (last) first
abbrev pub stock_of : Measure → Schema → (ℕ → ℤ) → List ℕ → Stock
stock_of m d usual [] = measured_stock m d usual (length d.types)
stock_of m d usual (c ∷ cs) = stock_made d c (owner_of d c) (stock_of m d usual cs)

abbrev pub defaults : Measure → Schema → (ℕ → ℤ) → Stock
defaults m d usual = stock_of m d usual (makers m d)

-- ── an entry for each listed place of an inhabited type ──

-- entries, and which is that of a place
pub record ShownSoFar : Type 0 where
  pub entries : List GarmentEntry
  pub entry_of : Place → Option ℕ

-- one more entry, that of the place p
abbrev pub shown_with : ShownSoFar → Place → GarmentEntry → ShownSoFar
shown_with sh p e = record { entries = sh.entries ++ e ∷ []; entry_of = λ q. cond (same_place p q) (Some (length sh.entries)) (sh.entry_of q) }

-- the entries of the fields from i on: that of the field's place, else the default of its type
abbrev pub field_entries : (Place → Option ℕ) → (ℕ → ℕ) → Place → ℕ → ℕ → List ℕ → List ℕ
field_entries entry_of default_of p c i [] = []
field_entries entry_of default_of p c i (t ∷ ts) = unwrap_or (entry_of (field p c i)) (default_of t) ∷ field_entries entry_of default_of p c (suc i) ts

abbrev pub show_built : Schema → (ℕ → ℕ) → Place → ℕ → Option ℕ → ShownSoFar → ShownSoFar
show_built d default_of p t None sh = sh
show_built d default_of p t (Some c) sh = shown_with sh p (built_entry t c (field_entries sh.entry_of default_of p c 0 (fields_of d c)))

-- at a choice the first candidate, at a measured type the atom picked there
abbrev pub show_row : Measure → Schema → Knowledge → (Place → ℕ → ℤ) → (ℕ → ℕ) → Place → ℕ → Option TypeRow → ShownSoFar → ShownSoFar
show_row m d k pick default_of p t None sh = sh
show_row m d k pick default_of p t (Some Choice) sh = show_built d default_of p t (first_below (length d.constructors) (candidate m d k p)) sh
show_row m d k pick default_of p t (Some (Measured s)) sh = shown_with sh p (measured_entry t (pick p s))

abbrev pub show_place : Measure → Schema → Knowledge → (Place → ℕ → ℤ) → (ℕ → ℕ) → Place → Option ℕ → ShownSoFar → ShownSoFar
show_place m d k pick default_of p None sh = sh
show_place m d k pick default_of p (Some t) sh = cond (inhabited m d t) (show_row m d k pick default_of p t (slice_get d.types t) sh) sh

-- from the last place to the first, on a stock of defaults
abbrev pub shown_places : Measure → Schema → Knowledge → (Place → ℕ → ℤ) → Stock → List Place → ShownSoFar
shown_places m d k pick st [] = record { entries = st.entries; entry_of = λ q. None }
shown_places m d k pick st (p ∷ ps) = show_place m d k pick st.default_of p (place_type d p) (shown_places m d k pick st ps)

-- the garment: the whole and the places ps
abbrev pub shown_garment : Measure → Schema → Knowledge → (Place → ℕ → ℤ) → (ℕ → ℤ) → List Place → List GarmentEntry
shown_garment m d k pick usual ps = (shown_places m d k pick (defaults m d usual) (whole ∷ ps)).entries

-- ── what is proved ──

-- every constructor has at most four fields
abbrev pub FourFields : Schema → Type 0
FourFields d = (c : ℕ) → length (fields_of d c) ≤ 4

-- the choice of atoms is free: any allowed one at each listed place, any atom of a sort as its usual one
pub record Picks (m : Measure) (d : Schema) (k : Knowledge) (ps : List Place) (pick : Place → ℕ → ℤ) (usual : ℕ → ℤ) : Type 0 where
  pub allowed_there : (p : Place) (t s : ℕ) → among (whole ∷ ps) p ≡ true → place_type d p ≡ Some t → inhabited m d t ≡ true → slice_get d.types t ≡ Some (Measured s) → allowed m k p s (pick p s) ≡ true
  pub usual_atom : (t s : ℕ) → inhabited m d t ≡ true → slice_get d.types t ≡ Some (Measured s) → m.atom s (usual s) ≡ true

-- a rule that answers as heard
abbrev pub Hears : Knowledge → Rule → Type 0
Hears k rule = (q : Question) (b : Bool) → heard k q ≡ Some b → rule q ≡ b

pub record GarmentFits (m : Measure) (d : Schema) (k : Knowledge) (ps : List Place) (es : List GarmentEntry) : Type 0 where
  pub typed : well_typed m d es ≡ true
  pub fits : (rule : Rule) → Hears k rule → Fits m d k (garment_value d es) rule
  pub few : length es ≤ length d.types + suc (length ps)

pub record GarmentShown : Type 0 where
  -- the entries are well typed, mean a garment that fits, and are few
  pub shown : (m : Measure) (d : Schema) (k : Knowledge) (ps : List Place) (pick : Place → ℕ → ℤ) (usual : ℕ → ℤ)
      → FourFields d → inhabited m d 0 ≡ true → Good m d k → Interned ps → known_among (whole ∷ ps) k ≡ true → Picks m d k ps pick usual
      → GarmentFits m d k ps (shown_garment m d k pick usual ps)
  pub enough : (m : Measure) (d : Schema) (k : Knowledge) (ps : List Place) (es : List GarmentEntry) → GarmentFits m d k ps es → length d.types ≤ 32 → length (whole ∷ ps) ≤ 320 → length es ≤ shown_entries
  -- places are listed one by one, each below a listed one
  pub none_listed : Interned []
  pub one_more : (ps : List Place) (p : Place) (c i : ℕ) → Interned ps → among (whole ∷ ps) p ≡ true → among (whole ∷ ps) (field p c i) ≡ false → Interned (ps ++ field p c i ∷ [])
