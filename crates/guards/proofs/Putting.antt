-- Numbers written one after another into a slice.
use Rattle.std.proofs.Common.{◌≡◌, ℕ, ◌+◌, ◌*◌, ◌<◌, ◌≤◌, Bool, true, false, List, [], ◌∷◌, ◌++◌, length, get_or, take, drop, set, Some, None, refl, ap, ◌∙◌, arith}
use mir.Val.{bool_byte}
use Rattle.std.proofs.lemmas.Grind.{common_steps}
use Rattle.std.proofs.lemmas.List.{append_assoc, append-nil, length-append, length-drop, length-take-le, drop-drop, drop_more, drop-set-lt, take_all, take_more, set_at}
use Rattle.guards.specs.declared.step.Step.{Step}
use Rattle.guards.specs.Questions.{Steps, Question, written, written_steps}
use Rattle.guards.specs.Listed.{bit}
use Rattle.guards.specs.Writing.{put_place, put_answer}
use Rattle.guards.proofs.Pairs.{length_written}

pub head_set : (out : List ℕ) (n : ℕ) → 0 < length out → set out 0 n ≡ n ∷ drop 1 (set out 0 n)
head_set [] n h = absurd (omega arith)
head_set (x ∷ out) n h = refl

two_more : (front rest : List ℕ) (k m : ℕ) (a b : ℕ) → length front ≡ k → m ≡ k + 1 → 2 ≤ length rest → set (set (front ++ rest) k a) m b ≡ front ++ (a ∷ (b ∷ drop 2 rest))
two_more front [] k m a b size e h = absurd (omega arith)
two_more front (x ∷ []) k m a b size e h = absurd (omega arith)
two_more front (x ∷ (y ∷ rest)) k m a b size e h =
    grind (arith, common_steps, set_at front x (y ∷ rest) a k size, set_at (front ++ a ∷ []) y rest b m (omega (arith, length-append front (a ∷ []))), append_assoc)

written_++ : (p q : Steps) → written_steps (p ++ q) ≡ written_steps p ++ written_steps q
written_++ [] q = refl
written_++ (s ∷ p) q = ap (λ (t : List ℕ). s.constructor ∷ (s.field ∷ t)) (written_++ p q)

-- one step more of a place
pub place_more : (p : Steps) (o out : List ℕ) (i : ℕ) (d : Step) → i < length p → 1 + 2 * length p ≤ length o → out ≡ (length p ∷ written_steps (take i p)) ++ drop (2 * i + 1) o → set (set out (2 * i + 1) (get_or p i d).constructor) (2 * i + 2) (get_or p i d).field ≡ (length p ∷ written_steps (take (i + 1) p)) ++ drop (2 * (i + 1) + 1) o
place_more p o out i d h room e =
    let s = get_or p i d in
    let done = written_steps (take i p) in
    let rest = drop (2 * i + 1) o in
    let long : length (length p ∷ done) ≡ 2 * i + 1 = omega (arith, length_written (take i p), length-take-le i p (omega arith)) in
    let left : 2 ≤ length rest = omega (arith, length-drop (2 * i + 1) o) in
    let next : drop 2 rest ≡ drop (2 * (i + 1) + 1) o = drop-drop 2 (2 * i + 1) o ∙ ap (λ (k : ℕ). drop k o) (omega arith) in
    let more : written_steps (take (i + 1) p) ≡ done ++ (s.constructor ∷ (s.field ∷ [])) = ap written_steps (take_more p i d h) ∙ written_++ (take i p) (s ∷ []) in
    grind (arith, common_steps, two_more (length p ∷ done) rest (2 * i + 1) (2 * i + 2) s.constructor s.field long (omega arith) left, append_assoc, next, more)

pub place_done : (p : Steps) (o out : List ℕ) (i n : ℕ) → length p ≤ 65535 → 1 + 2 * length p ≤ length o → length p ≤ i → i ≤ length p → out ≡ (length p ∷ written_steps (take i p)) ++ drop (2 * i + 1) (set o 0 n) → (Some (1 + 2 * length p), out) ≡ put_place p o
place_done p o out i n few room low high e = grind (arith, common_steps, length-append, length_written, take_all, append-nil, drop-set-lt)

pub place_full : (p : Steps) (o : List ℕ) → length p ≤ 65535 → length o < 1 + 2 * length p → (None, o) ≡ put_place p o
place_full p o few h = grind (arith, common_steps, length-append, length_written)

-- a question with its answer
byte_bit : (b : Bool) → bool_byte b ≡ bit b
byte_bit true = refl
byte_bit false = refl

pub answer_put : (q : Question) (b : Bool) (o ns ys : List ℕ) (n k r : ℕ) → ns ≡ written q → ys ≡ ns → r ≡ bool_byte b → n ≡ length ns → k ≡ n → n < length o → (Some (n + 1), set (ys ++ drop k o) n r) ≡ put_answer (q, b) o
answer_put q b o ns ys n k r e copy byte size cut room =
    let long : length (written q) ≡ n = omega (arith, ap length e) in
    grind (arith, common_steps, byte_bit b, drop_more o n 0 room, set_at (written q) (get_or o n 0) (drop (n + 1) o) r n long, append_assoc (written q) (bit b ∷ []) (drop (n + 1) o), length-append (written q) (bit b ∷ []))
