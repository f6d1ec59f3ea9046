-- Orders carried out one by one, and reading as carrying out the orders that were written.
use Rattle.std.proofs.Common.{◌≡◌, ℕ, ◌+◌, false, cond, eqb, List, [], ◌∷◌, ◌++◌, map, length, ℤ, Some, None, Ok, Option, sym, refl, ap, ◌∙◌, subst, append_assoc, arith}
use Rattle.std.specs.List.{flat_map}
use Rattle.std.proofs.lemmas.List.{append-nil}
use Rattle.measure.specs.Measure.{Measure}
use Rattle.pattern_file.specs.declared.entries.Entry.{Entry}
use Rattle.pattern_file.specs.declared.names.CallName.{CallName}
use Rattle.pattern_file.specs.declared.names.CallName.TheVariants as call
use Rattle.pattern_file.specs.Names.{name_of, tag_of}
use Rattle.pattern_file.specs.Contents.{Contents, CallAt, calls_from, stopped, then, by_name}
use Rattle.pattern_file.specs.declared.faults.FormatFault.TheVariants.{UnknownTag}
use Rattle.rules.specs.declared.refusal.Refusal.{Refusal}
use Rattle.rules.specs.Book.{Book}
use Rattle.rules.specs.Calls.{Order, make, refusal_of, made}
use Rattle.rules.specs.Files.{Read, order_entries, order_of, read_calls, stopped_at}

-- the orders are carried out one by one from the first workbook on, none is refused, and they end in the last one
abbrev pub Chain : Measure → Book → List Order → Book → Type 0
Chain m b [] end = b ≡ end
Chain m b (o ∷ os) end = (refusal_of m b (make o) ≡ None) × Chain m (made b o) os end

pub Chain-push : (m : Measure) (b : Book) (os : List Order) (end : Book) (o : Order) → Chain m b os end → refusal_of m end (make o) ≡ None → Chain m b (os ++ o ∷ []) (made end o)
Chain-push m b [] end o c h = (subst (λ x. refusal_of m x (make o) ≡ None) (sym c) h, ap (λ x. made x o) c)
Chain-push m b (p ∷ os) end o c h = (c.0, Chain-push m (made b p) os end o c.1 h)

pub Chain-append : (m : Measure) (b : Book) (os : List Order) (mid : Book) (ps : List Order) (end : Book) → Chain m b os mid → Chain m mid ps end → Chain m b (os ++ ps) end
Chain-append m b [] mid ps end c d = subst (λ x. Chain m x ps end) (sym c) d
Chain-append m b (o ∷ os) mid ps end c d = (c.0, Chain-append m (made b o) os mid ps end c.1 d)

-- ── what entries say ──

named_back : (x : CallName) → (eqb (tag_of x) 0 ≡ false) × (name_of (tag_of x) ≡ Some x)
named_back call.«Type» = (refl, refl)
named_back call.Constructor = (refl, refl)
named_back call.Any = (refl, refl)
named_back call.Bind = (refl, refl)
named_back call.Build = (refl, refl)
named_back call.Either = (refl, refl)
named_back call.Gauge = (refl, refl)
named_back call.Clause = (refl, refl)
named_back call.Place = (refl, refl)
named_back call.Leaf = (refl, refl)
named_back call.Fail = (refl, refl)
named_back call.Never = (refl, refl)
named_back call.Switch = (refl, refl)
named_back call.Test = (refl, refl)
named_back call.Ask = (refl, refl)

-- the call of an order, at an entry
abbrev call_at : ℕ → Order → CallAt
call_at n o = record { entry = n; name = o.name; own = o.own; put = o.put }

says_call : (n : ℕ) (put : List ℤ) (x : CallName) (own : ℤ) (es : List Entry)
    → calls_from n put (record { tag = tag_of x; number = own } ∷ es) ≡ then (record { entry = n; name = x; own = own; put = put }) (calls_from (n + 1) [] es)
says_call n put x own es =
    let named : CallName → Contents = λ y. then (record { entry = n; name = y; own = own; put = put }) (calls_from (n + 1) [] es) in
    ap (λ t. cond t (calls_from (n + 1) (put ++ own ∷ []) es) (by_name (name_of (tag_of x)) named (stopped n UnknownTag))) (named_back x).0
    ∙ ap (λ (o : Option CallName). by_name o named (stopped n UnknownTag)) (named_back x).1

says_put : (n : ℕ) (put zs : List ℤ) (es : List Entry) → calls_from n put (map (λ z. record { tag = 0; number = z }) zs ++ es) ≡ calls_from (n + length zs) (put ++ zs) es
says_put n put [] es = let e : n ≡ n + 0 = omega arith in ap (λ k. calls_from k put es) e ∙ ap (λ p. calls_from (n + 0) p es) (sym (append-nil put))
says_put n put (z ∷ zs) es =
    let e : (n + 1) + length zs ≡ n + length (z ∷ zs) = omega arith in
    says_put (n + 1) (put ++ z ∷ []) zs es ∙ ap (λ k. calls_from k ((put ++ z ∷ []) ++ zs) es) e ∙ ap (λ p. calls_from (n + length (z ∷ zs)) p es) (append_assoc put (z ∷ []) zs)

says_order : (n : ℕ) (o : Order) (es : List Entry) → calls_from n [] (order_entries o ++ es) ≡ then (call_at (n + length o.put) o) (calls_from (n + length o.put + 1) [] es)
says_order n o es =
    ap (calls_from n []) (append_assoc (map (λ z. record { tag = 0; number = z }) o.put) (record { tag = tag_of o.name; number = o.own } ∷ []) es)
    ∙ says_put n [] o.put (record { tag = tag_of o.name; number = o.own } ∷ es)
    ∙ says_call (n + length o.put) o.put o.name o.own es

-- ── reading them ──

carried : (m : Measure) (k : ℕ) (b : Book) (x : CallAt) (c : Contents) → refusal_of m b (make (order_of x)) ≡ None
    → read_calls m k b (x ∷ c.calls) c.stop ≡ read_calls m (k + 1) (made b (order_of x)) c.calls c.stop
carried m k b x c h =
    ap (λ (o : Option Refusal). elim o as (λ _. Read) [ None ↦ read_calls m (k + 1) (made b (order_of x)) c.calls c.stop | Some r ↦ record { book = b; result = stopped_at x.entry r } ]) h

pub reads_Chain : (m : Measure) (k n : ℕ) (b : Book) (os : List Order) (end : Book) → Chain m b os end
    → (λ (c : Contents). read_calls m k b c.calls c.stop) (calls_from n [] (flat_map order_entries os)) ≡ record { book = end; result = Ok (k + length os) }
reads_Chain m k n b [] end c = let e : k ≡ k + 0 = omega arith in ap (λ x. record { book = x; result = Ok k }) c ∙ ap (λ j. record { book = end; result = Ok j }) e
reads_Chain m k n b (o ∷ os) end c =
    let e : (k + 1) + length os ≡ k + length (o ∷ os) = omega arith in
    ap (λ (x : Contents). read_calls m k b x.calls x.stop) (says_order n o (flat_map order_entries os))
    ∙ carried m k b (call_at (n + length o.put) o) (calls_from (n + length o.put + 1) [] (flat_map order_entries os)) c.0
    ∙ reads_Chain m (k + 1) (n + length o.put + 1) (made b o) os end c.1
    ∙ ap (λ j. record { book = end; result = Ok j }) e
