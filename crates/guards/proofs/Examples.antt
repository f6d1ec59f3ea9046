-- Small examples that compute.
use Rattle.std.proofs.Common.{◌≡◌, ℕ, true, false, List, [], ◌∷◌, Some, None, refl}
use Rattle.guards.specs.Questions.{Question, written, reading}
use Rattle.guards.specs.Listed.{answers_in, listed_rule}

-- guard 7 asks about the root, and about field 2 of constructor 1
asks : Question
asks = record { guard = 7; places = [] ∷ ((record { constructor = 1; field = 2 } ∷ []) ∷ []) }

numbers : List ℕ
numbers = 7 ∷ (2 ∷ (0 ∷ (1 ∷ (1 ∷ (2 ∷ [])))))

writes : written asks ≡ numbers
unfolding asks numbers
writes = refl

reads : reading numbers ≡ Some asks
unfolding asks numbers
reads = refl

cut : reading (7 ∷ (2 ∷ (0 ∷ (1 ∷ (1 ∷ []))))) ≡ None
cut = refl

-- yes to guard 3, then no to guard 3, then yes to the question above, and what ends the list
list : List ℕ
list = 3 ∷ (0 ∷ (1 ∷ (3 ∷ (0 ∷ (0 ∷ (7 ∷ (2 ∷ (0 ∷ (1 ∷ (1 ∷ (2 ∷ (1 ∷ (5 ∷ (0 ∷ (2 ∷ (4 ∷ (0 ∷ (1 ∷ []))))))))))))))))))

lists : answers_in list ≡ (record { guard = 3; places = [] }, true) ∷ ((record { guard = 3; places = [] }, false) ∷ ((asks, true) ∷ []))
unfolding asks list
lists = refl

says : listed_rule list asks ≡ true
unfolding asks list
says = refl

first_says : listed_rule list (record { guard = 3; places = [] }) ≡ true
unfolding list
first_says = refl

ended : listed_rule list (record { guard = 4; places = [] }) ≡ false
unfolding list
ended = refl
