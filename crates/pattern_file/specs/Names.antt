-- The fifteen calls of a file: their tags and their texts.
use Rattle.std.specs.Prelude.{ℕ, cond, List, Some, None, Ok, Err, codes, Option, Result, ◌==◌}
use Rattle.pattern_file.specs.declared.faults.FormatFault.{FormatFault}
use Rattle.pattern_file.specs.declared.faults.FormatFault.TheVariants.{UnknownTag}
use Rattle.pattern_file.specs.declared.names.CallName.{CallName}
use Rattle.pattern_file.specs.declared.names.CallName.TheVariants.{«Type», Constructor, Any, Bind, Build, Either, Gauge, Clause, Place, Leaf, Fail, Never, Switch, Test, Ask}

-- the call that a tag makes: none at 0, which puts a number, and none above 15
abbrev pub name_of : ℕ → Option CallName
name_of t =
    cond (t == 1) (Some «Type»)
    (cond (t == 2) (Some Constructor)
    (cond (t == 3) (Some Any)
    (cond (t == 4) (Some Bind)
    (cond (t == 5) (Some Build)
    (cond (t == 6) (Some Either)
    (cond (t == 7) (Some Gauge)
    (cond (t == 8) (Some Clause)
    (cond (t == 9) (Some Place)
    (cond (t == 10) (Some Leaf)
    (cond (t == 11) (Some Fail)
    (cond (t == 12) (Some Never)
    (cond (t == 13) (Some Switch)
    (cond (t == 14) (Some Test)
    (cond (t == 15) (Some Ask)
    None))))))))))))))

-- the name, or what is wrong where there is none
abbrev pub known : Option CallName → Result CallName FormatFault
known (Some n) = Ok n
known None = Err UnknownTag

-- the tag of a call
abbrev pub tag_of : CallName → ℕ
tag_of «Type» = 1
tag_of Constructor = 2
tag_of Any = 3
tag_of Bind = 4
tag_of Build = 5
tag_of Either = 6
tag_of Gauge = 7
tag_of Clause = 8
tag_of Place = 9
tag_of Leaf = 10
tag_of Fail = 11
tag_of Never = 12
tag_of Switch = 13
tag_of Test = 14
tag_of Ask = 15

-- the name of a call as text
abbrev pub text_of : CallName → List ℕ
text_of «Type» = codes "type"
text_of Constructor = codes "constructor"
text_of Any = codes "any"
text_of Bind = codes "bind"
text_of Build = codes "build"
text_of Either = codes "either"
text_of Gauge = codes "gauge"
text_of Clause = codes "clause"
text_of Place = codes "place"
text_of Leaf = codes "leaf"
text_of Fail = codes "fail"
text_of Never = codes "never"
text_of Switch = codes "switch"
text_of Test = codes "test"
text_of Ask = codes "ask"
