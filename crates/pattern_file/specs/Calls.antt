-- What the calls that the reader hands out mean.
use Rattle.std.specs.Prelude.{ℕ, List, ◌++◌, ℤ, codes}
use Rattle.std.specs.List.{flat_map}
use Rattle.std.specs.Fmt.{signed_decimal}
use Rattle.pattern_file.specs.declared.names.CallName.{CallName}
use Rattle.pattern_file.specs.declared.names.CallName.TheVariants as name
use Rattle.pattern_file.specs.declared.numbers.PutNumbers.{PutNumbers}
use Rattle.pattern_file.specs.declared.numbers.Numbers.{Numbers}
use Rattle.pattern_file.specs.declared.calls.Parts.{Parts}
use Rattle.pattern_file.specs.declared.calls.Call.{Call}
use Rattle.pattern_file.specs.declared.calls.Call.TheVariants.{«Type», Constructor, Any, Bind, Build, Either, Gauge, Clause, Place, Leaf, Fail, Never, Switch, Test, Ask}
use Rattle.pattern_file.specs.Bytes.{signed_numbers}
use Rattle.pattern_file.specs.Names.{text_of}

-- the numbers put before a call
abbrev pub numbers_put : PutNumbers → List ℤ
numbers_put p = signed_numbers p.numbers.now

-- the numbers that are still to come
abbrev pub numbers_left : Numbers → List ℤ
numbers_left n = signed_numbers n.numbers.now

-- the call of a name
abbrev pub named : Parts → CallName → Call
named p name.«Type» = «Type» p
named p name.Constructor = Constructor p
named p name.Any = Any p
named p name.Bind = Bind p
named p name.Build = Build p
named p name.Either = Either p
named p name.Gauge = Gauge p
named p name.Clause = Clause p
named p name.Place = Place p
named p name.Leaf = Leaf p
named p name.Fail = Fail p
named p name.Never = Never p
named p name.Switch = Switch p
named p name.Test = Test p
named p name.Ask = Ask p

-- which call it is
abbrev pub name_of_call : Call → CallName
name_of_call («Type» p) = name.«Type»
name_of_call (Constructor p) = name.Constructor
name_of_call (Any p) = name.Any
name_of_call (Bind p) = name.Bind
name_of_call (Build p) = name.Build
name_of_call (Either p) = name.Either
name_of_call (Gauge p) = name.Gauge
name_of_call (Clause p) = name.Clause
name_of_call (Place p) = name.Place
name_of_call (Leaf p) = name.Leaf
name_of_call (Fail p) = name.Fail
name_of_call (Never p) = name.Never
name_of_call (Switch p) = name.Switch
name_of_call (Test p) = name.Test
name_of_call (Ask p) = name.Ask

-- what it holds
abbrev pub parts_of_call : Call → Parts
parts_of_call («Type» p) = p
parts_of_call (Constructor p) = p
parts_of_call (Any p) = p
parts_of_call (Bind p) = p
parts_of_call (Build p) = p
parts_of_call (Either p) = p
parts_of_call (Gauge p) = p
parts_of_call (Clause p) = p
parts_of_call (Place p) = p
parts_of_call (Leaf p) = p
parts_of_call (Fail p) = p
parts_of_call (Never p) = p
parts_of_call (Switch p) = p
parts_of_call (Test p) = p
parts_of_call (Ask p) = p

-- a number after a space
abbrev pub spaced : ℤ → List ℕ
spaced z = codes " " ++ signed_decimal z

-- `NAME OWN PUT PUT ..`, the put numbers in order
abbrev pub text_of_parts : List ℕ → ℤ → List ℤ → List ℕ
text_of_parts name own put = name ++ (spaced own ++ flat_map spaced put)

-- a call as text
abbrev pub text_of_call : Call → List ℕ
text_of_call c = text_of_parts (text_of (name_of_call c)) (parts_of_call c).own (numbers_put (parts_of_call c).put)
