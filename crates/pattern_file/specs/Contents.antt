-- What a file says: its entries, and the calls that they make.
use Rattle.std.specs.Prelude.{◌≡◌, ℕ, ◌+◌, ◌*◌, ◌<◌, ◌≤◌, IfSome, Bool, cond, ◌&&◌, List, [], ◌∷◌, ◌++◌, map, length, take, drop, ℤ, Some, None, Ok, Err, Option, Result, ◌==◌, nat_le}
use Rattle.std.specs.List.{All, flat_map}
use Rattle.pattern_file.specs.declared.faults.FormatFault.{FormatFault}
use Rattle.pattern_file.specs.declared.faults.FormatFault.TheVariants.{Length, UnknownTag, NumbersLeft}
use Rattle.pattern_file.specs.declared.placed.Placed.{Placed}
use Rattle.pattern_file.specs.declared.names.CallName.{CallName}
use Rattle.pattern_file.specs.declared.entries.Entry.{Entry}
use Rattle.pattern_file.specs.Bytes.{value_of, bytes_of, signed_at, signed_bytes}
use Rattle.pattern_file.specs.Faults.{fault_at}
use Rattle.pattern_file.specs.Names.{name_of}

-- a call of a file: its entry, which call it is, its own number, and the numbers put before it
pub record CallAt : Type 0 where
  pub entry : ℕ
  pub name : CallName
  pub own : ℤ
  pub put : List ℤ

-- the calls of a file, in order, up to its end or up to the fault that stopped them
pub record Contents : Type 0 where
  pub calls : List CallAt
  pub stop : Option (Placed FormatFault)

abbrev pub finished : Contents
finished = record { calls = []; stop = None }

abbrev pub stopped : ℕ → FormatFault → Contents
stopped n f = record { calls = []; stop = Some (fault_at n f) }

-- a call, and then the others
abbrev pub then : CallAt → Contents → Contents
then x c = record { calls = x ∷ c.calls; stop = c.stop }

-- by the call that a tag names, if it names one
abbrev pub by_name : Option CallName → (CallName → Contents) → Contents → Contents
by_name (Some x) named unknown = named x
by_name None named unknown = unknown

-- at the end no number may be left on the list
abbrev pub ending : ℕ → List ℤ → Contents
ending n [] = finished
ending n (z ∷ zs) = stopped n NumbersLeft

-- the calls of entries that count from n, with these numbers on the list
abbrev pub calls_from : ℕ → List ℤ → List Entry → Contents
calls_from n put [] = ending n put
calls_from n put (e ∷ es) =
    cond (e.tag == 0) (calls_from (n + 1) (put ++ (e.number ∷ [])) es)
    (by_name (name_of e.tag) (λ x. then (record { entry = n; name = x; own = e.number; put = put }) (calls_from (n + 1) [] es)) (stopped n UnknownTag))

-- the calls of a file's entries
abbrev pub calls_of : List Entry → Contents
calls_of es = calls_from 0 [] es

-- the most entries that a file may have
abbrev pub max_entries : ℕ
max_entries = 5000

-- the length of a file of n entries
abbrev pub file_length : ℕ → ℕ
file_length n = 4 + 9 * n

abbrev pub tag_of_entry : Entry → ℕ
tag_of_entry e = e.tag

abbrev pub number_of_entry : Entry → List ℕ
number_of_entry e = signed_bytes e.number

-- the bytes of a file: the number of entries, their tags, their numbers
unfoldable pub encode : List Entry → List ℕ
encode es = bytes_of 4 (length es) ++ (map tag_of_entry es ++ flat_map number_of_entry es)

-- entries from their tags and from the bytes of their numbers
abbrev pub entries_in : List ℕ → List ℕ → List Entry
entries_in [] b = []
entries_in (t ∷ ts) b = record { tag = t; number = signed_at b 0 } ∷ entries_in ts (drop 8 b)

-- the number of entries that a file announces
abbrev pub announced : List ℕ → ℕ
announced b = value_of (take 4 b)

-- a file has at most 5,000 entries, and the length that they make (so at least four bytes)
abbrev pub well_sized : List ℕ → Bool
well_sized b = nat_le (announced b) max_entries && length b == file_length (announced b)

-- the entries of a file, if its length is right
unfoldable pub entries_of : List ℕ → Option (List Entry)
entries_of b = cond (well_sized b) (Some (entries_in (take (announced b) (drop 4 b)) (drop (4 + announced b) b))) None

-- the calls of entries, or the fault of a file that has none
abbrev pub calls_in : Option (List Entry) → Contents
calls_in (Some es) = calls_of es
calls_in None = stopped 0 Length

-- what a file says
abbrev pub contents : List ℕ → Contents
contents b = calls_in (entries_of b)

-- what is handed out first: a call, nothing at the end, or the fault
abbrev pub first : Contents → Result (Option CallAt) (Placed FormatFault)
first c = elim c.calls [ [] ↦ elim c.stop [ Some f ↦ Err f | None ↦ Ok None ] | x ∷ xs ↦ Ok (Some x) ]

-- what is then still to come: the calls after it; the end and a fault stay
abbrev pub after : Contents → Contents
after c = elim c.calls [ [] ↦ c | x ∷ xs ↦ record { calls = xs; stop = c.stop } ]

-- how many calls there are, or the fault
abbrev pub counted : Contents → Result ℕ (Placed FormatFault)
counted c = elim c.stop [ Some f ↦ Err f | None ↦ Ok (length c.calls) ]

-- a call that one of n entries makes, with numbers that others before it put
abbrev pub CallWithin : ℕ → CallAt → Type 0
CallWithin n k = (k.entry < n) × (length k.put < n)

-- calls that entries from e on make, before entry n: each takes an entry for every number put for it, and then its own
abbrev pub CallsFrom : ℕ → ℕ → List CallAt → Type 0
CallsFrom n e [] = e ≤ n
CallsFrom n e (k ∷ ks) = (k.entry ≡ e + length k.put) × CallsFrom n (k.entry + 1) ks

-- what n entries can say at most: so many calls, each made by one of them, one after another, and a fault past the last at the latest
pub record WithinEntries (n : ℕ) (c : Contents) : Type 0 where
  pub few : length c.calls ≤ n
  pub calls : All (CallWithin n) c.calls
  pub walked : (e : ℕ) × CallsFrom n e c.calls
  pub stop : IfSome c.stop (λ f. f.entry ≤ n)
