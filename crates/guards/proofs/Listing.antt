-- Listed answers, entry by entry.
use Rattle.std.proofs.Common.{◌≡◌, ℕ, zero, suc, ◌-◌, ◌<◌, ◌≤◌, Bool, true, false, cond, eqb, ◌⊎◌, List, [], ◌∷◌, ◌++◌, length, drop, Some, None, Decides, Option, sym, refl, ap, ◌∙◌, inl, inr, ⊎_elim, arith}
use Rattle.std.proofs.lemmas.Grind.{common_steps}
use Rattle.std.proofs.lemmas.Slice.Eq.{bytes_eq-Decides}
use Rattle.std.proofs.lemmas.List.{append_assoc, length-append, drop_at}
use Rattle.std.proofs.lemmas.Option.{none-some}
use Rattle.std.specs.List.{AllByRecursion, find}
use Rattle.std.specs.Option.{MatchOption, option_map, option_map_or}
use Rattle.guards.specs.Questions.{Question, written, written_places, Within, same_question, read_question, reading, question_in}
use Rattle.guards.specs.Hosts.{Asked}
use Rattle.guards.specs.Laws.{ListedForm, WrittenForm}
use Rattle.guards.specs.Listed.{read_answer, read_entry, answers_after, answers_in, first_answer, bit, written_answers}
use Rattle.guards.proofs.Found.{then_some}
use Rattle.guards.proofs.Reading.{question_inv, question_written, reading_inv, reading-written, in_within, written_apart}

-- one entry
bit-eqb : (n : ℕ) → n ≤ 1 → n ≡ bit (eqb n 1)
bit-eqb zero h = refl
bit-eqb (suc zero) h = refl
bit-eqb (suc (suc n)) h = absurd (omega arith)

answer_inv : (q : Question) (l : List ℕ) (a : Asked) (rest : List ℕ) → read_answer q l ≡ Some (a, rest) → (q ≡ a.0) × (l ≡ bit a.1 ∷ rest)
answer_inv q [] a rest e = absurd (none-some _ e)
answer_inv q (n ∷ l) a rest e = grind (arith, common_steps, bit-eqb)

pub entry_inv : (l : List ℕ) (a : Asked) (rest : List ℕ) → read_entry l ≡ Some (a, rest) → l ≡ written a.0 ++ (bit a.1 ∷ rest)
entry_inv l a rest e =
    let b = then_some (read_question 16 l) _ _ e in
    let c = answer_inv b.0.0 b.0.1 a rest b.2 in
    grind (arith, common_steps, (question_inv 16 l b.0.0 b.0.1 b.1).0, c.0, c.1)

answer_bit : (q : Question) (b : Bool) (rest : List ℕ) → read_answer q (bit b ∷ rest) ≡ Some ((q, b), rest)
answer_bit q true rest = refl
answer_bit q false rest = refl

entry_written : (a : Asked) (rest : List ℕ) → Within 16 a.0 → read_entry (written a.0 ++ (bit a.1 ∷ rest)) ≡ Some (a, rest)
entry_written a rest h = grind (arith, common_steps, question_written 16 a.0 (bit a.1 ∷ rest) h, answer_bit)

pub entry_shorter : (l : List ℕ) (a : Asked) (rest : List ℕ) → read_entry l ≡ Some (a, rest) → length rest < length l
entry_shorter l a rest e = omega (arith, ap length (entry_inv l a rest e), length-append (written a.0) (bit a.1 ∷ rest))

-- the whole list
skip : (n : ℕ) (l rest : List ℕ) → drop n l ≡ rest → answers_after n l ≡ answers_in rest
skip zero l rest e = ap answers_in e
skip (suc n) [] rest e = ap answers_in e
skip (suc n) (x ∷ l) rest e = skip n l rest e

pub list_ends : (l : List ℕ) → read_entry l ≡ None → answers_in l ≡ []
list_ends [] e = refl
list_ends (x ∷ l) e = grind (arith, common_steps)

pub list_goes : (l : List ℕ) (a : Asked) (rest : List ℕ) → read_entry l ≡ Some (a, rest) → answers_in l ≡ a ∷ answers_in rest
list_goes [] a rest e = absurd (none-some _ e)
list_goes (x ∷ l) a rest e =
    let own = length a.0.places ∷ (written_places a.0.places ++ (bit a.1 ∷ [])) in
    let whole = entry_inv (x ∷ l) a rest e in
    let tail : l ≡ length a.0.places ∷ (written_places a.0.places ++ (bit a.1 ∷ rest)) = cc in
    let cut : l ≡ own ++ rest = tail ∙ ap (λ (t : List ℕ). length a.0.places ∷ t) (sym (append_assoc (written_places a.0.places) (bit a.1 ∷ []) rest)) in
    let size : length own ≡ length l - length rest = omega (arith, ap length cut, length-append own rest) in
    grind (arith, common_steps, e, skip (length l - length rest) l rest (ap (drop (length l - length rest)) cut ∙ drop_at own rest (length l - length rest) size))

-- an entry that was read is the first answer of the list
pub entry_first : (l rest tail : List ℕ) (q : Question) (n : ℕ) → Some (q, rest) ≡ read_question 16 l → rest ≡ n ∷ tail → n ≤ 1 → answers_in l ≡ (q, eqb n 1) ∷ answers_in tail
entry_first l rest tail q n read next h = grind (arith, common_steps, list_goes l (q, eqb n 1) tail)

pub list_back : (l : List Asked) → AllByRecursion (λ a. Within 16 a.0) l → answers_in (written_answers l) ≡ l
list_back [] h = refl
list_back (a ∷ l) h = grind (arith, common_steps, list_goes (written_answers (a ∷ l)) a (written_answers l) (entry_written a (written_answers l) h.0), list_back l h.1)

cases_read : (o : Option (Asked × List ℕ)) → (o ≡ None) ⊎ ((e : Asked × List ℕ) × (o ≡ Some e))
cases_read None = inl refl
cases_read (Some e) = inr (e, refl)

fronts : (n : ℕ) (l : List ℕ) → length l ≤ n → (rest : List ℕ) × (l ≡ written_answers (answers_in l) ++ rest) × (read_entry rest ≡ None)
fronts zero [] h = ([], refl, refl)
fronts zero (x ∷ l) h = absurd (omega arith)
fronts (suc n) l h =
    ⊎_elim (λ e. (l, ap (λ (t : List Asked). written_answers t ++ l) (sym (list_ends l e)), e))
    (λ p.
    let a = p.0.0 in
    let rest = p.0.1 in
    let more = fronts n rest (omega (arith, entry_shorter l a rest p.1)) in
    (more.0, grind (arith, common_steps, entry_inv l a rest p.1, list_goes l a rest p.1, more.1, append_assoc), more.2))
    (cases_read (read_entry l))

pub listed_form : ListedForm
listed_form = record { front = λ l. fronts (length l) l (omega arith); back = list_back }

-- the rule
pub same_decides : (a b : Question) → Decides (same_question a b) (a ≡ b)
same_decides a b = (grind (arith, common_steps, written_apart a b, bytes_eq-Decides (written a) (written b)), grind (arith, common_steps, bytes_eq-Decides (written a) (written b)))

-- the first answer is that of the entry that is found
pub answer_found : {X : Type 0} (v : X → Asked) (q : Question) (l : List Asked) (o : Option X) (r : Bool) (Q : X → Type 0) → option_map v o ≡ find (λ a. same_question a.0 q) l → MatchOption o (r ≡ false) Q → ((x : X) → Q x → r ≡ (v x).1) → r ≡ first_answer l q
answer_found {X} v q l o r Q e h says = told o h ∙ ap (λ (p : Option Asked). option_map_or (λ a. a.1) p false) e ∙ decided l
  where
    told : (p : Option X) → MatchOption p (r ≡ false) Q → r ≡ option_map_or (λ a. a.1) (option_map v p) false
    told None h = h
    told (Some x) h = says x h

    decided : (m : List Asked) → option_map_or (λ a. a.1) (find (λ a. same_question a.0 q) m) false ≡ first_answer m q
    decided [] = refl
    decided (a ∷ m) = elim (same_question a.0 q) as (λ t. option_map_or (λ (b : Asked). b.1) (cond t (Some a) (find (λ b. same_question b.0 q) m)) false ≡ cond t a.1 (first_answer m q)) [
      | true ↦ refl
      | false ↦ decided m
    ]

pub written_form : WrittenForm
written_form = record { back = reading-written; only = λ l q e. let i = reading_inv l q e in (i.1, i.2); apart = written_apart; same = same_decides }

-- a question that is written reads as itself
pub reads_same : (l m : List ℕ) → m ≡ written (question_in l) → reading m ≡ Some (question_in l)
reads_same l m e = ap reading e ∙ reading-written (question_in l) (in_within l)
