-- The number of each refusal.
use Rattle.std.specs.Prelude.{ℕ}
use Rattle.rules.specs.declared.refusal.Refusal.{Refusal}
use Rattle.rules.specs.declared.refusal.Refusal.TheVariants.{PassOut, ShortMemory, WrongParts, Unknown, WrongType, RepeatedConstructor, BadVariable, NoTest, TooDeep, BadFile, BadGarment, NoPass, TableFull, TooHeavy, NoClause, NoNode}

abbrev pub refusal_number : Refusal → ℕ
refusal_number PassOut = 1
refusal_number ShortMemory = 2
refusal_number WrongParts = 3
refusal_number Unknown = 4
refusal_number WrongType = 5
refusal_number RepeatedConstructor = 6
refusal_number BadVariable = 7
refusal_number NoTest = 8
refusal_number TooDeep = 9
refusal_number BadFile = 10
refusal_number BadGarment = 11
refusal_number NoPass = 12
refusal_number TableFull = 13
refusal_number TooHeavy = 14
refusal_number NoClause = 15
refusal_number NoNode = 16
