-- One more question to a host, and a run up to the first yes.
use Rattle.std.proofs.Common.{◌≡◌, ℕ, ◌+◌, ◌<◌, Bool, true, false, cond, List, [], ◌∷◌, ◌++◌, map, length, get_or, drop, Some, None, Option, sym, refl, ap, ◌∙◌, subst, arith}
use Rattle.std.proofs.lemmas.Grind.{common_steps}
use Rattle.std.proofs.lemmas.List.{append_assoc, append-nil, drop_more, drop-map}
use Rattle.std.specs.Option.{option_map}
use Rattle.guards.specs.Questions.{Question, Rule}
use Rattle.guards.specs.Hosts.{Asked, Moves, answered}
use Rattle.guards.specs.Runs.{first_yes, until_yes}

answered-++ : (f : Rule) (ps qs : List Question) → answered f (ps ++ qs) ≡ answered f ps ++ answered f qs
answered-++ f [] qs = refl
answered-++ f (p ∷ ps) qs = ap (λ (l : List Asked). (p, f p) ∷ l) (answered-++ f ps qs)

later : (i : ℕ) (o : Option ℕ) → option_map (λ k. k + i) (option_map (λ k. k + 1) o) ≡ option_map (λ k. k + (i + 1)) o
later i None = refl
later i (Some k) = ap Some (omega arith)

-- what is left of a list of views begins with the next one
pub next_is : {X : Type 0} (f : X → Question) (xs : List X) (i : ℕ) (x : X) → i < length xs → x ≡ get_or xs i x → drop i (map f xs) ≡ f x ∷ drop (i + 1) (map f xs)
next_is {X} f xs i x h e = grind (arith, common_steps, drop-map, drop_more)

module _ {S : Type 0} (rule : S → Rule) (moved : S → List Asked → S → Type 0) where
  -- a run over qs from a has put the questions before index i, with no yes, and come to b
  pub record Running (a b : S) (qs : List Question) (i : ℕ) : Type 0 where
    pub same : rule b ≡ rule a
    pub found : first_yes (rule a) qs ≡ option_map (λ k. k + i) (first_yes (rule a) (drop i qs))
    pub done : List Question
    pub put : until_yes (rule a) qs ≡ done ++ until_yes (rule a) (drop i qs)
    pub noted : moved a (answered (rule a) done) b

module _ {S : Type 0} (rule : S → Rule) (moved : S → List Asked → S → Type 0) (laws : Moves moved) where
  -- one more question after ps
  pub ask_more : (a b c : S) (ps : List Question) (q : Question) (r : Bool) → moved a (answered (rule a) ps) b → rule b ≡ rule a → r ≡ rule b q → moved b ((q, r) ∷ []) c → moved a (answered (rule a) (ps ++ q ∷ [])) c
  ask_more a b c ps q r before same answer after =
      let value : r ≡ rule a q = answer ∙ ap (λ (f : Rule). f q) same in
      let last : moved b (answered (rule a) (q ∷ [])) c = subst (λ (x : Bool). moved b ((q, x) ∷ []) c) value after in
      subst (λ (l : List Asked). moved a l c) (sym (answered-++ (rule a) ps (q ∷ []))) (laws.further a b c _ _ before last)

  module _ (a b c : S) (qs : List Question) (i : ℕ) (q : Question) (r : Bool) (cut : drop i qs ≡ q ∷ drop (i + 1) qs) (run : Running rule moved a b qs i) (answer : r ≡ rule b q) (same : rule c ≡ rule b) (after : moved b ((q, r) ∷ []) c) where
    value : (s : Bool) → r ≡ s → rule a q ≡ s
    value s e = sym (answer ∙ ap (λ (f : Rule). f q) run.same) ∙ e

    one : moved a (answered (rule a) (run.done ++ q ∷ [])) c
    one = ask_more a b c run.done q r run.noted run.same answer after

    on : (s : Bool) → r ≡ s → until_yes (rule a) qs ≡ (run.done ++ q ∷ []) ++ cond s [] (until_yes (rule a) (drop (i + 1) qs))
    on s e = grind (arith, common_steps, run.put, value s e, cut, append_assoc)

    look : (s : Bool) → r ≡ s → first_yes (rule a) qs ≡ option_map (λ k. k + i) (cond s (Some 0) (option_map (λ k. k + 1) (first_yes (rule a) (drop (i + 1) qs))))
    look s e = grind (arith, common_steps, run.found, value s e, cut)

    pub run_goes : r ≡ false → Running rule moved a c qs (i + 1)
    run_goes e = record { same = same ∙ run.same; found = look false e ∙ later i _; done = run.done ++ q ∷ []; put = on false e; noted = one }

    pub run_found : r ≡ true → (Some i ≡ first_yes (rule a) qs) × (rule c ≡ rule a) × moved a (answered (rule a) (until_yes (rule a) qs)) c
    run_found e = (
      sym (look true e ∙ ap Some (omega arith)),
      same ∙ run.same,
      subst (λ (t : List Question). moved a (answered (rule a) t) c) (sym (on true e ∙ append-nil _)) one,
    )
