-- The depth of a tree does not depend on the places that it names.
use Rattle.std.proofs.Common.{◌≡◌, ℕ, zero, suc, ◌+◌, max, List, [], ◌∷◌, ◌++◌, map, get_or, take, drop, Some, None, Option, sym, refl, ap, ◌∙◌, ap₂}
use Rattle.std.proofs.lemmas.List.{map_push}
use Rattle.rules.specs.declared.rows.PairRow.{PairRow}
use Rattle.rules.specs.declared.rows.NodeRow.{NodeRow}
use Rattle.rules.specs.declared.rows.NodeRow.TheVariants.{Leaf, Fail, Never, Switch, Test, Ask}
use Rattle.rules.specs.Tables.{unfolded}
use Rattle.rules.specs.Garments.{Place}
use Rattle.rules.specs.Trees.{Tree, fail, branches_from, node_from, depth, depth_below}

depth_at : (ts : List Tree) (n : ℕ) → depth (get_or ts n fail) ≡ get_or (map depth ts) n 1
depth_at [] n = refl
depth_at (t ∷ ts) zero = refl
depth_at (t ∷ ts) (suc n) = depth_at ts n

same_at : (ts us : List Tree) (n : ℕ) → map depth ts ≡ map depth us → depth (get_or ts n fail) ≡ depth (get_or us n fail)
same_at ts us n e = depth_at ts n ∙ ap (λ l. get_or l n 1) e ∙ sym (depth_at us n)

same_below : (ts us : List Tree) (rows : List PairRow) (other : Option ℕ) → map depth ts ≡ map depth us → depth_below (branches_from ts rows other) ≡ depth_below (branches_from us rows other)
same_below ts us [] None e = refl
same_below ts us [] (Some n) e = same_at ts us n e
same_below ts us (r ∷ rows) other e = ap₂ max (same_at ts us r.node e) (same_below ts us rows other e)

pub same_depth : (ps qs : List Place) (pairs : List PairRow) (ts us : List Tree) (r : NodeRow) → map depth ts ≡ map depth us → depth (node_from ps pairs ts r) ≡ depth (node_from qs pairs us r)
same_depth ps qs pairs ts us (Leaf a ns) e = refl
same_depth ps qs pairs ts us Fail e = refl
same_depth ps qs pairs ts us Never e = refl
same_depth ps qs pairs ts us (Switch p o first count) e = ap (λ n. 1 + n) (same_below ts us (take count (drop first pairs)) o e)
same_depth ps qs pairs ts us (Test p t y n) e = ap₂ (λ i j. 1 + max i j) (same_at ts us y e) (same_at ts us n e)
same_depth ps qs pairs ts us (Ask g ns y n) e = ap₂ (λ i j. 1 + max i j) (same_at ts us y e) (same_at ts us n e)

pub same_depths : (ps qs : List Place) (pairs : List PairRow) (ts us : List Tree) (rows : List NodeRow) → map depth ts ≡ map depth us → map depth (unfolded (node_from ps pairs) ts rows) ≡ map depth (unfolded (node_from qs pairs) us rows)
same_depths ps qs pairs ts us [] e = e
same_depths ps qs pairs ts us (r ∷ rows) e =
    same_depths ps qs pairs (ts ++ node_from ps pairs ts r ∷ []) (us ++ node_from qs pairs us r ∷ []) rows
    (map_push depth ts (node_from ps pairs ts r) ∙ ap₂ (λ l d. l ++ d ∷ []) e (same_depth ps qs pairs ts us r e) ∙ sym (map_push depth us (node_from qs pairs us r)))
