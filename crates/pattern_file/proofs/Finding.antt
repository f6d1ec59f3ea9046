-- What the reader finds at an entry is what comes first there.
use Rattle.std.proofs.Common.{◌≡◌, ℕ, ◌+◌, ◌-◌, ◌<◌, ◌≤◌, List, [], length, get_or, take, drop, ℤ, Some, None, Ok, Err, Option, sym, refl, ap, ◌∙◌, arith}
use Rattle.std.specs.List.{AllWithin}
use Rattle.pattern_file.specs.declared.faults.FormatFault.{FormatFault}
use Rattle.pattern_file.specs.declared.faults.FormatFault.TheVariants.{UnknownTag, NumbersLeft}
use Rattle.pattern_file.specs.declared.placed.Placed.{Placed}
use Rattle.pattern_file.specs.declared.names.CallName.{CallName}
use Rattle.pattern_file.specs.declared.names.CallName.TheVariants as name
use Rattle.pattern_file.specs.declared.calls.Parts.{Parts}
use Rattle.pattern_file.specs.declared.calls.Call.{Call}
use Rattle.pattern_file.specs.Bytes.{signed_number, signed_numbers}
use Rattle.pattern_file.specs.Calls.{numbers_put, named}
use Rattle.pattern_file.specs.Contents.{Contents, finished, stopped, first, after}
use Rattle.pattern_file.specs.Faults.{fault_at, placed}
use Rattle.pattern_file.specs.Names.{name_of, known}
use Rattle.pattern_file.specs.Readers.{call_or, rest_at, run_at, call_at, taken_at}
use Rattle.pattern_file.proofs.Walking.{run_put, run_left, run_done, run_call}

call_at_named : (p : Parts) (e : ℕ) (n : CallName) → call_at e (named p n) ≡ record { entry = e; name = n; own = p.own; put = numbers_put p.put }
call_at_named p e name.«Type» = refl
call_at_named p e name.Constructor = refl
call_at_named p e name.Any = refl
call_at_named p e name.Bind = refl
call_at_named p e name.Build = refl
call_at_named p e name.Either = refl
call_at_named p e name.Gauge = refl
call_at_named p e name.Clause = refl
call_at_named p e name.Place = refl
call_at_named p e name.Leaf = refl
call_at_named p e name.Fail = refl
call_at_named p e name.Never = refl
call_at_named p e name.Switch = refl
call_at_named p e name.Test = refl
call_at_named p e name.Ask = refl

-- what a call that was made means
pub taken : (p : Parts) (b : List (List ℕ)) (i e : ℕ) (n : CallName) (x : Call) → x ≡ named p n → p.own ≡ signed_number (get_or b e []) → numbers_put p.put ≡ signed_numbers (take (e - i) (drop i b))
    → call_at e x ≡ taken_at b i e n
taken p b i e n x q own put =
    ap (call_at e) q ∙ call_at_named p e n
    ∙ ap (λ (z : ℤ). record { entry = e; name = n; own = z; put = numbers_put p.put }) own
    ∙ ap (λ (zs : List ℤ). record { entry = e; name = n; own = signed_number (get_or b e []); put = zs }) put

-- whether a tag is known
pub known_name : (o : Option CallName) (e : ℕ) (n : CallName) → Ok n ≡ placed (known o) e → o ≡ Some n
known_name (Some m) e n q = cc
known_name None e n q = cc

known_fault : (o : Option CallName) (e : ℕ) (f : Placed FormatFault) → Err f ≡ placed (known o) e → (o ≡ None) × (f ≡ fault_at e UnknownTag)
known_fault (Some m) e f q = cc
known_fault None e f q = (refl, cc)

-- one turn of the reader, past the numbers that are put from entry i to entry e: what it hands out first, and what is then to come
module _ (t : List ℕ) (b : List (List ℕ)) (same : length b ≡ length t) (i e : ℕ) (l : i ≤ e) (m : e ≤ length t) (put : AllWithin (λ x. x ≡ 0) (drop i t) 0 (e - i)) where
  run : run_at t b i e ≡ rest_at t b i
  run = run_put t b same (e - i) i e (omega arith) m put

  stays : (c : Contents) → run_at t b i e ≡ c → after c ≡ c → (first c ≡ first (rest_at t b i)) × (rest_at t b i ≡ after (rest_at t b i))
  stays c q s = let coming : c ≡ rest_at t b i = sym q ∙ run in (ap first coming, sym coming ∙ sym s ∙ ap after coming)

  -- the end, with numbers left over
  pub left_over : length t ≤ e → i < e → (Err (fault_at e NumbersLeft) ≡ first (rest_at t b i)) × (rest_at t b i ≡ after (rest_at t b i))
  left_over h n = stays (stopped e NumbersLeft) (run_left t b same i e h n m) refl

  -- the end, with none
  pub done : length t ≤ e → e ≤ i → (Ok None ≡ first (rest_at t b i)) × (rest_at t b i ≡ after (rest_at t b i))
  done h n = stays finished (run_done t b same i e h n) refl

  module _ (h : e < length t) (ne : get_or t e 0 ≡ 0 → ⊥) where
    named_is : (o : Option CallName) → name_of (get_or t e 0) ≡ o → run_at t b i e ≡ call_or o e (signed_number (get_or b e [])) (signed_numbers (take (e - i) (drop i b))) (rest_at t b (e + 1))
    named_is o q = run_call t b same i e h ne ∙ ap (λ (m : Option CallName). call_or m e (signed_number (get_or b e [])) (signed_numbers (take (e - i) (drop i b))) (rest_at t b (e + 1))) q

    -- a call
    pub called : (n : CallName) → Ok n ≡ placed (known (name_of (get_or t e 0))) e → (Ok (Some (taken_at b i e n)) ≡ first (rest_at t b i)) × (rest_at t b (e + 1) ≡ after (rest_at t b i))
    called n q = let coming = sym (named_is (Some n) (known_name _ e n q)) ∙ run in (ap first coming, ap after coming)

    -- an unknown tag
    pub unknown : (x : Placed FormatFault) → Err x ≡ placed (known (name_of (get_or t e 0))) e → (Err x ≡ first (rest_at t b i)) × (rest_at t b i ≡ after (rest_at t b i))
    unknown x q = let k = known_fault _ e x q in let turn = stays _ (named_is None k.0) refl in (ap Err k.1 ∙ turn.0, turn.1)
