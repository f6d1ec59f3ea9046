-- What a reader has still to hand out, and what its results mean.
use Rattle.std.specs.Prelude.{ℕ, ◌-◌, List, [], ◌∷◌, get_or, take, drop, ℤ, Some, None, Ok, Err, Option, Result}
use Rattle.pattern_file.specs.declared.faults.FormatFault.{FormatFault}
use Rattle.pattern_file.specs.declared.placed.Placed.{Placed}
use Rattle.pattern_file.specs.declared.entries.Entry.{Entry}
use Rattle.pattern_file.specs.declared.names.CallName.{CallName}
use Rattle.pattern_file.specs.declared.calls.Call.{Call}
use Rattle.pattern_file.specs.declared.unread.Unread.{Unread}
use Rattle.pattern_file.specs.Bytes.{signed_number, signed_numbers}
use Rattle.pattern_file.specs.Calls.{numbers_put, name_of_call, parts_of_call}
use Rattle.pattern_file.specs.declared.faults.FormatFault.TheVariants.{UnknownTag}
use Rattle.pattern_file.specs.Contents.{CallAt, Contents, stopped, then, by_name, calls_from}

-- entries from their tags and from the eight bytes of each number
abbrev pub entries_with : List ℕ → List (List ℕ) → List Entry
entries_with [] ns = []
entries_with (t ∷ ts) [] = []
entries_with (t ∷ ts) (n ∷ ns) = record { tag = t; number = signed_number n } ∷ entries_with ts ns

-- what comes from entry i on, with nothing on the list
unfoldable pub rest_at : List ℕ → List (List ℕ) → ℕ → Contents
rest_at tags numbers i = calls_from i [] (drop i (entries_with tags numbers))

-- what comes from entry e on, with the numbers from entry i to e on the list
unfoldable pub run_at : List ℕ → List (List ℕ) → ℕ → ℕ → Contents
run_at tags numbers i e = calls_from e (signed_numbers (take (e - i) (drop i numbers))) (drop e (entries_with tags numbers))

-- the call that an entry makes, and then the others; a tag that names no call is unknown
abbrev pub call_or : Option CallName → ℕ → ℤ → List ℤ → Contents → Contents
call_or o n own put more = by_name o (λ x. then (record { entry = n; name = x; own = own; put = put }) more) (stopped n UnknownTag)

-- what comes from the entry on from which a file is still to be read
abbrev pub rest_of : Unread → Contents
rest_of u = rest_at u.tags.now u.numbers.now u.at

-- what a reader has still to hand out: a fault of the file's length stands before all else
abbrev pub pending : Result Unread FormatFault → Contents
pending (Ok u) = rest_of u
pending (Err f) = stopped 0 f

-- the meaning of a call at entry n
abbrev pub call_at : ℕ → Call → CallAt
call_at n c = record { entry = n; name = name_of_call c; own = (parts_of_call c).own; put = numbers_put (parts_of_call c).put }

-- the call of a name at entry e that takes the numbers from entry i on
abbrev pub taken_at : List (List ℕ) → ℕ → ℕ → CallName → CallAt
taken_at numbers i e n = record { entry = e; name = n; own = signed_number (get_or numbers e []); put = signed_numbers (take (e - i) (drop i numbers)) }

-- the meaning of what the reader hands out
abbrev pub handed : Result (Option (Placed Call)) (Placed FormatFault) → Result (Option CallAt) (Placed FormatFault)
handed (Ok o) = Ok (elim o [ Some p ↦ Some (call_at p.entry p.item) | None ↦ None ])
handed (Err f) = Err f
