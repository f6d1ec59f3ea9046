-- Each call leaves a workbook that can be made again from its rows.
use Rattle.std.proofs.Common.{◌≡◌, ℕ, Bool, true, false, List, [], ◌∷◌, ◌++◌, map, length, drop, ℤ, pos, Some, None, Option, sym, refl, ap, ◌∙◌, subst, ap₂, arith}
use Rattle.std.specs.List.{AllByRecursion}
use Rattle.std.proofs.lemmas.List.{map_push, length-append}
use Rattle.measure.specs.Measure.{Measure}
use Rattle.pattern_file.specs.declared.names.CallName.{CallName}
use Rattle.pattern_file.specs.declared.names.CallName.TheVariants as call
use Rattle.rules.specs.declared.refusal.Refusal.{Refusal}
use Rattle.rules.specs.declared.rows.TypeRow.{TypeRow}
use Rattle.rules.specs.declared.rows.ConstructorRow.{ConstructorRow}
use Rattle.rules.specs.declared.rows.PlaceRow.{PlaceRow}
use Rattle.rules.specs.declared.rows.PairRow.{PairRow}
use Rattle.rules.specs.declared.rows.NodeRow.{NodeRow}
use Rattle.rules.specs.declared.rows.NodeRow.TheVariants.{Leaf, Fail, Never, Switch, Test, Ask}
use Rattle.rules.specs.Book.{Book, empty_book}
use Rattle.rules.specs.Garments.{whole}
use Rattle.rules.specs.Rows.{type_row, constructor_row, place_row, leaf_row, pair_rows, switch_row, test_row, ask_row}
use Rattle.rules.specs.Trees.{place_from, places_from}
use Rattle.rules.specs.Grounds.{building_grounds}
use Rattle.rules.specs.Calls.{Order, Call, make, clear_sheet, clear_tree, judge, release, withdraw, Outcome, returned, refused, alike, differs, released, grounds, refusal_of, made, made_by, after, if_returned, if_alike, without_sheet, without_tree, with_pass}
use Rattle.rules.specs.Files.{order, or_minus_one, pair_numbers, type_order, constructor_order, place_order, node_order}
use Rattle.rules.specs.RoundTrip.{Reached, start, next}
use Rattle.rules.proofs.Chains.{Chain, Chain-push}
use Rattle.rules.proofs.Lists.{Clear, Clear-from_none, none_from_Clear, Begins, Begins-itself, Begins-append, unfolded-push, AllByRecursion-push, AllByRecursion-weaker, take-drop-append}
use Rattle.rules.proofs.WrittenBack.{type_back, constructor_back, place_back, leaf_back, fail_back, never_back, switch_back, test_back, ask_back}
use Rattle.rules.proofs.Wider.{tables, TypeKnown, places_begin}
use Rattle.rules.proofs.Sound.{Held, Sound, FieldsKnown, fields_known, whole_typed, places_typed, constructors_wider, places_wider, nodes_wider}

-- a chain of orders for rows, with one row more
pushed : {R : Type 0} (m : Measure) (b end : Book) (f : R → Order) (rows : List R) (r : R) (o : Order) → Chain m b (map f rows) end → refusal_of m end (make o) ≡ None → f r ≡ o
    → Chain m b (map f (rows ++ r ∷ [])) (made end o)
pushed m b end f rows r o c h e =
    subst (λ os. Chain m b os (made end o)) (sym (map_push f rows r ∙ ap (λ x. map f rows ++ x ∷ []) e)) (Chain-push m b (map f rows) end o c h)

Begins-push : (ts : List TypeRow) (ps : List PlaceRow) (r : PlaceRow) → Begins (places_from ts ps) (places_from ts (ps ++ r ∷ []))
Begins-push [] ps r = tt
Begins-push (t ∷ ts) ps r =
    subst (Begins (places_from (t ∷ ts) ps)) (sym (unfolded-push place_from (whole ∷ []) ps r)) (Begins-append (places_from (t ∷ ts) ps) (place_from (places_from (t ∷ ts) ps) r ∷ []))

-- the pairs of the switches stay where they are
pub held_more : (qs new : List PairRow) (r : NodeRow) → Held qs r → Held (qs ++ new) r
held_more qs new (Leaf a ps) h = tt
held_more qs new Fail h = tt
held_more qs new Never h = tt
held_more qs new (Switch p o first count) h = let e = length-append qs new in omega arith
held_more qs new (Test p t y n) h = tt
held_more qs new (Ask g ps y n) h = tt

same_order : (qs new : List PairRow) (r : NodeRow) → Held qs r → node_order qs r ≡ node_order (qs ++ new) r
same_order qs new (Leaf a ps) h = refl
same_order qs new Fail h = refl
same_order qs new Never h = refl
same_order qs new (Switch p o first count) h = ap (λ x. order call.Switch (or_minus_one o ∷ pair_numbers x) (pos p)) (sym (take-drop-append qs new first count h))
same_order qs new (Test p t y n) h = refl
same_order qs new (Ask g ps y n) h = refl

same_orders : (qs new : List PairRow) (rows : List NodeRow) → AllByRecursion (Held qs) rows → map (node_order qs) rows ≡ map (node_order (qs ++ new)) rows
same_orders qs new [] a = refl
same_orders qs new (r ∷ rows) a = ap₂ (λ x xs. x ∷ xs) (same_order qs new r a.0) (same_orders qs new rows a.1)

module _ (m : Measure) (ts : List TypeRow) (cs : List ConstructorRow) (ps : List PlaceRow) (ns : List NodeRow) (qs : List PairRow) (s : Sound m ts cs ps ns qs) where
  fields : AllByRecursion (FieldsKnown ts) cs
  fields = fields_known m ts [] cs (tables ts cs [] [] []) s.constructors

  typed : AllByRecursion (TypeKnown ts cs) (places_from ts ps)
  typed = places_typed m ts cs [] ps ps fields (whole_typed ts cs) s.places

  pub type_kept : (put : List ℤ) (own : ℤ) → Clear (building_grounds m (tables ts cs ps ns qs) call.«Type» put own) → Sound m (ts ++ type_row own ∷ []) cs ps ns qs
  type_kept put own c =
      let us : List TypeRow = ts ++ type_row own ∷ [] in
      let more : Begins ts us = Begins-append ts (type_row own ∷ []) in
      record {
        types = pushed m empty_book (tables ts [] [] [] []) type_order ts (type_row own) (order call.«Type» put own) s.types
            (none_from_Clear (building_grounds m (tables ts [] [] [] []) call.«Type» put own) c) (type_back m (tables ts [] [] [] []) put own c);
        constructors = constructors_wider m ts us more [] cs cs s.constructors;
        places = places_wider m ts us cs cs more (Begins-itself cs) [] ps ps fields (whole_typed ts cs) s.places;
        nodes = nodes_wider m ts us cs cs more (Begins-itself cs) ps ps (places_begin ts us ps more) typed qs ns [] ns [] qs s.nodes;
        pairs = s.pairs;
      }

  pub constructor_kept : (put : List ℤ) (own : ℤ) → Clear (building_grounds m (tables ts cs ps ns qs) call.Constructor put own) → Sound m ts (cs ++ constructor_row put own ∷ []) ps ns qs
  constructor_kept put own c =
      let ds : List ConstructorRow = cs ++ constructor_row put own ∷ [] in
      let more : Begins cs ds = Begins-append cs (constructor_row put own ∷ []) in
      record {
        types = s.types;
        constructors = pushed m (tables ts [] [] [] []) (tables ts cs [] [] []) constructor_order cs (constructor_row put own) (order call.Constructor put own) s.constructors
            (none_from_Clear (building_grounds m (tables ts cs [] [] []) call.Constructor put own) c) (constructor_back m (tables ts cs [] [] []) put own c);
        places = places_wider m ts ts cs ds (Begins-itself ts) more [] ps ps fields (whole_typed ts cs) s.places;
        nodes = nodes_wider m ts ts cs ds (Begins-itself ts) more ps ps (Begins-itself (places_from ts ps)) typed qs ns [] ns [] qs s.nodes;
        pairs = s.pairs;
      }

  pub place_kept : (put : List ℤ) (own : ℤ) → Clear (building_grounds m (tables ts cs ps ns qs) call.Place put own) → Sound m ts cs (ps ++ place_row put own ∷ []) ns qs
  place_kept put own c = record {
    types = s.types;
    constructors = s.constructors;
    places = pushed m (tables ts cs [] [] []) (tables ts cs ps [] []) place_order ps (place_row put own) (order call.Place put own) s.places
        (none_from_Clear (building_grounds m (tables ts cs ps [] []) call.Place put own) c) (place_back m (tables ts cs ps [] []) put own c);
    nodes = nodes_wider m ts ts cs cs (Begins-itself ts) (Begins-itself cs) ps (ps ++ place_row put own ∷ []) (Begins-push ts ps (place_row put own)) typed qs ns [] ns [] qs s.nodes;
    pairs = s.pairs;
  }

  -- a node and its pairs, if the release writes its order
  node_kept : (new : List PairRow) (r : NodeRow) (o : Order) → refusal_of m (tables ts cs ps ns qs) (make o) ≡ None → node_order (qs ++ new) r ≡ o → Held (qs ++ new) r
      → made (tables ts cs ps ns qs) o ≡ tables ts cs ps (ns ++ r ∷ []) (qs ++ new) → Sound m ts cs ps (ns ++ r ∷ []) (qs ++ new)
  node_kept new r o h e k made_is = record {
    types = s.types;
    constructors = s.constructors;
    places = s.places;
    nodes = subst (Chain m (tables ts cs ps [] []) (map (node_order (qs ++ new)) (ns ++ r ∷ []))) made_is
        (pushed m (tables ts cs ps [] []) (tables ts cs ps ns qs) (node_order (qs ++ new)) ns r o
        (subst (λ os. Chain m (tables ts cs ps [] []) os (tables ts cs ps ns qs)) (same_orders qs new ns s.pairs) s.nodes) h e);
    pairs = AllByRecursion-push (Held (qs ++ new)) ns r (AllByRecursion-weaker (Held qs) (Held (qs ++ new)) (held_more qs new) ns s.pairs) k;
  }

  pub node_call_kept : (x : CallName) (new : List PairRow) (r : NodeRow) (put : List ℤ) (own : ℤ) → Clear (building_grounds m (tables ts cs ps ns qs) x put own)
      → node_order (qs ++ new) r ≡ order x put own → Held (qs ++ new) r → made_by (tables ts cs ps ns qs) x put own ≡ tables ts cs ps (ns ++ r ∷ []) (qs ++ new)
      → Sound m ts cs ps (ns ++ r ∷ []) (qs ++ new)
  node_call_kept x new r put own c e k made_is = node_kept new r (order x put own) (none_from_Clear (building_grounds m (tables ts cs ps ns qs) x put own) c) e k made_is

-- the tables of a workbook can be made again
abbrev pub SoundBook : Measure → Book → Type 0
SoundBook m b = Sound m b.types b.constructors b.places b.nodes b.pairs

made_kept : (m : Measure) (b : Book) (x : CallName) (put : List ℤ) (own : ℤ) → SoundBook m b → Clear (building_grounds m b x put own) → SoundBook m (made_by b x put own)
made_kept m b call.«Type» put own s c = type_kept m b.types b.constructors b.places b.nodes b.pairs s put own c
made_kept m b call.Constructor put own s c = constructor_kept m b.types b.constructors b.places b.nodes b.pairs s put own c
made_kept m b call.Any put own s c = s
made_kept m b call.Bind put own s c = s
made_kept m b call.Build put own s c = s
made_kept m b call.Either put own s c = s
made_kept m b call.Gauge put own s c = s
made_kept m b call.Clause put own s c = s
made_kept m b call.Place put own s c = place_kept m b.types b.constructors b.places b.nodes b.pairs s put own c
made_kept m b call.Leaf put own s c =
    node_call_kept m b.types b.constructors b.places b.nodes b.pairs s call.Leaf [] (leaf_row put own) put own c (leaf_back m b (b.pairs ++ []) put own c) tt refl
made_kept m b call.Fail put own s c =
    node_call_kept m b.types b.constructors b.places b.nodes b.pairs s call.Fail [] Fail put own c (fail_back m b (b.pairs ++ []) put own c) tt refl
made_kept m b call.Never put own s c =
    node_call_kept m b.types b.constructors b.places b.nodes b.pairs s call.Never [] Never put own c (never_back m b (b.pairs ++ []) put own c) tt refl
made_kept m b call.Switch put own s c =
    let l = length-append b.pairs (pair_rows (drop 1 put)) in
    node_call_kept m b.types b.constructors b.places b.nodes b.pairs s call.Switch (pair_rows (drop 1 put)) (switch_row (length b.pairs) put own) put own c
    (switch_back m b put own c) (omega arith) refl
made_kept m b call.Test put own s c =
    node_call_kept m b.types b.constructors b.places b.nodes b.pairs s call.Test [] (test_row put own) put own c (test_back m b (b.pairs ++ []) put own c) tt refl
made_kept m b call.Ask put own s c =
    node_call_kept m b.types b.constructors b.places b.nodes b.pairs s call.Ask [] (ask_row put own) put own c (ask_back m b (b.pairs ++ []) put own c) tt refl

-- ── any call, by its outcome ──

if_returned_lem : (P : Book → Type 0) (o : Outcome) (new old : Book) → ((n : ℕ) → o ≡ returned n → P new) → P old → P (if_returned o new old)
if_returned_lem P (returned n) new old f p = f n refl
if_returned_lem P (refused r) new old f p = p
if_returned_lem P alike new old f p = p
if_returned_lem P (differs es ns) new old f p = p
if_returned_lem P (released bytes) new old f p = p

if_alike_lem : (P : Book → Type 0) (o : Outcome) (new old : Book) → P new → P old → P (if_alike o new old)
if_alike_lem P (returned n) new old q p = p
if_alike_lem P (refused r) new old q p = p
if_alike_lem P alike new old q p = q
if_alike_lem P (differs es ns) new old q p = p
if_alike_lem P (released bytes) new old q p = p

-- a call that returned a number had no ground
not_refused : (g : Option Refusal) (o : Outcome) (n : ℕ) → ((r : Refusal) → g ≡ Some r → o ≡ refused r) → o ≡ returned n → g ≡ None
not_refused None o n h e = refl
not_refused (Some r) o n h e = let k : o ≡ refused r = h r refl in cc

-- what an accepted building call keeps, and clearing the sheet, clearing the tree and passes keep, any call keeps
pub after_keeps : (P : Book → Type 0) (m : Measure) (b : Book) (c : Call) (o : Outcome) → ((r : Refusal) → refusal_of m b c ≡ Some r → o ≡ refused r)
    → P b → ((x : CallName) (put : List ℤ) (own : ℤ) → Clear (building_grounds m b x put own) → P (made_by b x put own))
    → P (without_sheet b) → P (without_tree b) → ((out : Bool) → P (with_pass b out)) → P (after b c o)
after_keeps P m b (make x) o h old new sheet tree pass =
    if_returned_lem P o (made b x) b (λ n e. new x.name x.put x.own (Clear-from_none (grounds m b (make x)) (not_refused (refusal_of m b (make x)) o n h e)).1) old
after_keeps P m b clear_sheet o h old new sheet tree pass = if_returned_lem P o (without_sheet b) b (λ n e. sheet) old
after_keeps P m b clear_tree o h old new sheet tree pass = if_returned_lem P o (without_tree b) b (λ n e. tree) old
after_keeps P m b (judge w e n) o h old new sheet tree pass = if_alike_lem P o (with_pass b true) b (pass true) old
after_keeps P m b (release n) o h old new sheet tree pass = pass false
after_keeps P m b withdraw o h old new sheet tree pass = pass false

tree_cleared : (m : Measure) (b : Book) → SoundBook m b → SoundBook m (without_tree b)
tree_cleared m b s = record { types = s.types; constructors = s.constructors; places = refl; nodes = refl; pairs = tt }

pub Reached-sound : (m : Measure) (b : Book) → Reached m b → SoundBook m b
Reached-sound m b start = record { types = refl; constructors = refl; places = refl; nodes = refl; pairs = tt }
Reached-sound m b (next old c o r h) =
    let s = Reached-sound m old r in
    after_keeps (SoundBook m) m old c o h s (λ x put own. made_kept m old x put own s) s (tree_cleared m old s) (λ out. s)
