-- There are no more calls than entries, and each is made by one of them.
use Rattle.std.proofs.Common.{◌≡◌, ℕ, suc, ◌+◌, ◌-◌, ◌<◌, ◌≤◌, Bool, true, false, cond, eqb, leb, List, [], ◌∷◌, ◌++◌, length, take, drop, ℤ, Some, None, Option, refl, ap, arith}
use Rattle.std.proofs.lemmas.Bool.{and_parts, leb-true}
use Rattle.std.proofs.lemmas.List.{length-append, length-drop, length-take}
use Rattle.std.proofs.lemmas.List.Elements.{All-cons, All-nil}
use Rattle.std.specs.Prelude.{IfSome}
use Rattle.std.specs.List.{All}
use Rattle.pattern_file.specs.declared.names.CallName.{CallName}
use Rattle.pattern_file.specs.declared.entries.Entry.{Entry}
use Rattle.pattern_file.specs.Readers.{call_or, entries_with, rest_at}
use Rattle.pattern_file.specs.Contents.{Contents, CallWithin, CallsFrom, WithinEntries, ending, calls_from, calls_in, entries_in, entries_of, announced, well_sized, contents}
use Rattle.pattern_file.specs.Names.{name_of}
use Rattle.pattern_file.proofs.Walking.{length-entries_with}

pub length-entries_in : (t b : List ℕ) → length (entries_in t b) ≡ length t
length-entries_in [] b = refl
length-entries_in (x ∷ t) b = ap suc (length-entries_in t (drop 8 b))

few_named : (o : Option CallName) (n : ℕ) (z : ℤ) (put : List ℤ) (c : Contents) (m : ℕ) → length c.calls ≤ m → length (call_or o n z put c).calls ≤ suc m
few_named (Some x) n z put c m h = omega arith
few_named None n z put c m h = omega arith

few_ending : (n : ℕ) (put : List ℤ) → length (ending n put).calls ≤ 0
few_ending n [] = omega arith
few_ending n (z ∷ zs) = omega arith

few_ways : (q : Bool) (c d : Contents) (m : ℕ) → length c.calls ≤ m → length d.calls ≤ m → length (cond q c d).calls ≤ m
few_ways true c d m h k = h
few_ways false c d m h k = k

few_from : (n : ℕ) (put : List ℤ) (es : List Entry) → length (calls_from n put es).calls ≤ length es
few_from n put [] = few_ending n put
few_from n put (e ∷ es) =
    let one = few_from (n + 1) (put ++ (e.number ∷ [])) es in
    few_ways (eqb e.tag 0) _ _ (suc (length es)) (omega arith) (few_named (name_of e.tag) n e.number put _ (length es) (few_from (n + 1) [] es))

-- of m entries, of which entry e is the first that is left: calls one after another, each within the m
abbrev Said : ℕ → ℕ → Contents → Type 0
Said m e c = All (CallWithin m) c.calls × CallsFrom m e c.calls × IfSome c.stop (λ f. f.entry ≤ m)

said_named : (o : Option CallName) (m n e : ℕ) (z : ℤ) (put : List ℤ) (c : Contents) → n ≡ e + length put → n < m → Said m (n + 1) c → Said m e (call_or o n z put c)
said_named (Some x) m n e z put c h l s = (All-cons (CallWithin m) _ c.calls (l, omega arith) s.0, (h, s.1), s.2)
said_named None m n e z put c h l s = (All-nil (CallWithin m), omega arith, omega arith)

said_ending : (m n e : ℕ) (put : List ℤ) → n ≡ e + length put → n ≤ m → Said m e (ending n put)
said_ending m n e [] h l = (All-nil (CallWithin m), omega arith, tt)
said_ending m n e (z ∷ zs) h l = (All-nil (CallWithin m), omega arith, l)

said_ways : (q : Bool) (m e : ℕ) (c d : Contents) → Said m e c → Said m e d → Said m e (cond q c d)
said_ways true m e c d h l = h
said_ways false m e c d h l = l

said_from : (m n e : ℕ) (put : List ℤ) (es : List Entry) → n ≡ e + length put → n + length es ≤ m → Said m e (calls_from n put es)
said_from m n e put [] h l = said_ending m n e put h (omega arith)
said_from m n e put (x ∷ es) h l =
    said_ways (eqb x.tag 0) m e _ _ (said_from m (n + 1) e (put ++ (x.number ∷ [])) es (omega (arith, length-append put (x.number ∷ []))) (omega arith))
    (said_named (name_of x.tag) m n e x.number put _ h (omega arith) (said_from m (n + 1) (n + 1) [] es (omega arith) (omega arith)))

-- what is left from one of at most m entries on
pub rest_within : (m i : ℕ) (t : List ℕ) (b : List (List ℕ)) → length b ≡ length t → i ≤ length t → length t ≤ m → WithinEntries m (rest_at t b i)
unfolding rest_at
rest_within m i t b same h l =
    let es = drop i (entries_with t b) in
    let count : length es ≡ length t - i = omega (arith, length-drop i (entries_with t b), length-entries_with t b same) in
    let s = said_from m i i [] es (omega arith) (omega (arith, count)) in
    record { few = omega (arith, few_from i [] es, count); calls = s.0; walked = (i, s.1); stop = s.2 }

few_sized : (q : Bool) (es : List Entry) → (q ≡ true → length es ≤ 5000) → length (calls_in (cond q (Some es) None)).calls ≤ 5000
few_sized true es h = let k = h refl in omega (arith, few_from 0 [] es)
few_sized false es h = omega arith

pub few_calls : (b : List ℕ) → length (contents b).calls ≤ 5000
unfolding entries_of
few_calls b =
    let n = announced b in
    let t = take n (drop 4 b) in
    few_sized (well_sized b) (entries_in t (drop (4 + n) b))
    (λ q. let low : n ≤ 5000 = leb-true n 5000 (and_parts (leb n 5000) _ q).0 in omega (arith, length-entries_in t (drop (4 + n) b), length-take n (drop 4 b)))
