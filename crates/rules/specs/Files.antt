-- Files: what a release writes, and what reading a file makes of a workbook.
use Rattle.std.specs.Prelude.{ℕ, ◌+◌, List, [], ◌∷◌, ◌++◌, map, take, drop, ℤ, pos, negsuc, Some, None, Ok, Err, Option, Result}
use Rattle.std.specs.List.{flat_map}
use Rattle.measure.specs.Measure.{Measure}
use Rattle.pattern_file.specs.declared.entries.Entry.{Entry}
use Rattle.pattern_file.specs.declared.faults.FormatFault.{FormatFault}
use Rattle.pattern_file.specs.declared.names.CallName.{CallName}
use Rattle.pattern_file.specs.declared.names.CallName.TheVariants as call
use Rattle.pattern_file.specs.declared.placed.Placed.{Placed}
use Rattle.pattern_file.specs.Names.{tag_of}
use Rattle.pattern_file.specs.Contents.{CallAt, Contents, calls_of, contents, encode}
use Rattle.rules.specs.declared.refusal.Refusal.{Refusal}
use Rattle.rules.specs.declared.refusal.Refusal.TheVariants.{BadFile}
use Rattle.rules.specs.declared.rows.TypeRow.{TypeRow}
use Rattle.rules.specs.declared.rows.TypeRow.TheVariants.{Choice, Measured}
use Rattle.rules.specs.declared.rows.ConstructorRow.{ConstructorRow}
use Rattle.rules.specs.declared.rows.PlaceRow.{PlaceRow}
use Rattle.rules.specs.declared.rows.PairRow.{PairRow}
use Rattle.rules.specs.declared.rows.NodeRow.{NodeRow}
use Rattle.rules.specs.declared.rows.NodeRow.TheVariants.{Leaf, Fail, Never, Switch, Test, Ask}
use Rattle.rules.specs.Book.{Book}
use Rattle.rules.specs.Calls.{Order, make, refusal_of, made}

-- ── what a release writes ──

abbrev pub order : CallName → List ℤ → ℤ → Order
order name put own = record { name = name; put = put; own = own }

abbrev pub or_minus_one : Option ℕ → ℤ
or_minus_one None = negsuc 0
or_minus_one (Some n) = pos n

-- the call that makes each row
abbrev pub type_order : TypeRow → Order
type_order Choice = order call.«Type» [] (negsuc 0)
type_order (Measured s) = order call.«Type» [] (pos s)

abbrev pub constructor_order : ConstructorRow → Order
constructor_order r = order call.Constructor (map pos r.fields) (pos r.owner)

abbrev pub place_order : PlaceRow → Order
place_order r = order call.Place (pos r.parent ∷ (pos r.step.constructor ∷ [])) (pos r.step.field)

abbrev pub pair_numbers : List PairRow → List ℤ
pair_numbers [] = []
pair_numbers (r ∷ rs) = pos r.constructor ∷ (pos r.node ∷ pair_numbers rs)

abbrev pub node_order : List PairRow → NodeRow → Order
node_order pairs (Leaf a ps) = order call.Leaf (map pos ps) (pos a)
node_order pairs Fail = order call.Fail [] (pos 0)
node_order pairs Never = order call.Never [] (pos 0)
node_order pairs (Switch p o first count) = order call.Switch (or_minus_one o ∷ pair_numbers (take count (drop first pairs))) (pos p)
node_order pairs (Test p t y n) = order call.Test (t ∷ (pos y ∷ (pos n ∷ []))) (pos p)
node_order pairs (Ask g ps y n) = order call.Ask (pos y ∷ (pos n ∷ map pos ps)) (pos g)

-- types, constructors, places from 1, then nodes, in order
abbrev pub release_orders : Book → List Order
release_orders b = map type_order b.types ++ (map constructor_order b.constructors ++ (map place_order b.places ++ map (node_order b.pairs) b.nodes))

-- a call as entries: its put numbers under tag 0, then its own number under its tag
abbrev pub order_entries : Order → List Entry
order_entries o = map (λ z. record { tag = 0; number = z }) o.put ++ record { tag = tag_of o.name; number = o.own } ∷ []

abbrev pub release_entries : Book → List Entry
release_entries b = flat_map order_entries (release_orders b)

-- the bytes of a release
abbrev pub file_of : Book → List ℕ
file_of b = encode (release_entries b)

-- ── reading ──

-- the workbook after reading, and the number of calls or the first fault
pub record Read : Type 0 where
  pub book : Book
  pub result : Result ℕ (Placed Refusal)

abbrev pub order_of : CallAt → Order
order_of c = order c.name c.put c.own

abbrev pub stopped_at : ℕ → Refusal → Result ℕ (Placed Refusal)
stopped_at n r = Err (record { entry = n; item = r })

-- calls are carried out one by one; reading stops at the first that is refused, and earlier calls stand
abbrev pub read_calls : Measure → ℕ → Book → List CallAt → Option (Placed FormatFault) → Read
read_calls m n b [] None = record { book = b; result = Ok n }
read_calls m n b [] (Some f) = record { book = b; result = stopped_at f.entry BadFile }
read_calls m n b (c ∷ cs) stop =
    elim (refusal_of m b (make (order_of c))) [
      | None ↦ read_calls m (n + 1) (made b (order_of c)) cs stop
      | Some r ↦ record { book = b; result = stopped_at c.entry r }
    ]

abbrev pub read_contents : Measure → Book → Contents → Read
read_contents m b c = read_calls m 0 b c.calls c.stop

-- reading entries, and reading the bytes of a file
abbrev pub read_entries : Measure → Book → List Entry → Read
read_entries m b es = read_contents m b (calls_of es)

abbrev pub read_into : Measure → Book → List ℕ → Read
read_into m b bytes = read_contents m b (contents bytes)
