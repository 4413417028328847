-- Lists of steps: what they give, and that they stay while numbers grow.
use Rattle.std.proofs.Common.{◌≡◌, ◌≢◌, ◌⊎◌, ◌∙◌, ℕ, suc, zero, ◌<◌, ◌≤◌, ◌+◌, ◌-◌, eqb, true, List, [], ◌∷◌, ◌++◌, length, drop, take, get_or, slice_get, slice_range, Option, Some, None, refl, sym, ap, ap₂, subst, inl, inr, arith}
use Rattle.std.proofs.Math.Seq.{take-suc}
use borrow.Author.Tests.{eqb-true}
use Rattle.std.proofs.lemmas.List.{drop-append-le, drop_at, length-append, length-drop, take-append-le, take_all}
use Rattle.component_table.specs.Tables.{IsTable}
use Rattle.fare_law.specs.declared.requests.Request.{Request}
use Rattle.fare_law.specs.Book.{Book}
use Rattle.fare_law.specs.Lists.{Each, Matched}
use Rattle.graph_walk.specs.declared.outcome.Outcome.{Outcome}
use Rattle.graph_walk.specs.Steps.{AreOutcomes, LeadToLive, outcome_of, outcomes_of}
use Rattle.open_unit.specs.declared.units.OpenUnit.{OpenUnit}
use Rattle.outlines.specs.declared.marks.Listed.{Listed}
use Rattle.outlines.specs.declared.outline.Outcome.{Outcome as Tried}
use Rattle.outlines.specs.declared.marks.Mark.{Mark}
use Rattle.outlines.specs.declared.outline.Entry.{Entry}
use Rattle.outlines.specs.Marks.{IsAlone, IsList, IsOfUnit, IsOpening, ListsAreOutcomes, mark_of}
use Rattle.outlines.specs.Outcomes.{AreOutcomes as TriedAre, Grows as Given}
use Rattle.outlines.proofs.Growing.{grows_like, grows_none, grows_then}
use Rattle.residual_keys.specs.Kept.{PartKept}
use Rattle.residual_keys.specs.Residuals.{State}
use Rattle.residual_table.specs.declared.key.ResidualKey.{ResidualKey}
use Rattle.residual_table.specs.Keys.{Grows, HasSlot, IsLive, IsSlot, KeepsNumbers, StandsFor, Tables as Numbers, residual_at}
use Rattle.residual_table.proofs.KeyFacts.{Slots, has_slots, slot_same, slots, stays, some_same}
use Rattle.residual_table.proofs.KeyFacts.Slots.{neither, one, both}
use Rattle.search_steps.specs.declared.keyed.Placed.{Placed}
use Rattle.search_steps.specs.declared.numbered.PositionSteps.{PositionSteps}
use Rattle.search_steps.specs.declared.numbered.Step.{Step}
use Rattle.search_steps.specs.declared.numbered.StepLists.{StepLists}
use Rattle.search_steps.specs.declared.numbered.UnitSlot.{UnitSlot}
use Rattle.search_steps.specs.declared.numbered.UnitSteps.{UnitSteps}
use Rattle.search_steps.specs.declared.tables.PositionTable.{PositionTable}
use Rattle.search_steps.specs.Giving.{GivenBy, OpenedBy, UnitBy, UnitGiven}
use Rattle.search_steps.specs.Leads.{leads_of}
use Rattle.search_steps.specs.Numbers.{AddsAll, AddsOne, AreBare, ArePositionSteps, AreStepLists, AreSteps, AreStepsOf, AreUnitSteps, IsBare, IsStep, IsUnitList, ListsAt, StandsIn, StepsAt, UnitStandsAt, UnitStepsAt, tried_in, tried_of}
use Rattle.search_steps.specs.Placed.{AddsFour, AddsOfUnit, ArePlaced, MayStand}
use Rattle.search_steps.specs.Tables.{AsTried, HasTable, IsOwnTable, outcome_tried}
use Rattle.search_steps.proofs.Given.{four_are, none_are, opening_not, unit_not}
use Rattle.search_steps.proofs.LeftByNumber.{at_most_two, no_room}
use Rattle.search_steps.proofs.TableFacts.{tried_are}
use Rattle.law_lemmas.proofs.EachOne.{each_got, each_more, each_weaker}
use Rattle.law_lemmas.proofs.Lists.{got_is, got_last, got_within}
use Rattle.law_lemmas.proofs.Members.{in_either, in_left, in_right}
use Rattle.law_lemmas.proofs.Options.{some_one}
use Rattle.law_lemmas.proofs.Pairs.{matched_more}

-- the last of a list, and what is matched with it
matched_last : {X Y : Type 0} (R : X → Y → Type 0) (xs : List X) (ys : List Y) (y : Y) → Matched R xs (ys ++ y ∷ []) → (zs : List X) × (z : X) × (xs ≡ zs ++ z ∷ []) × Matched R zs ys × R z y
matched_last R [] [] y h = absurd h
matched_last R (x ∷ []) [] y h = ([], x, refl, tt, h.0)
matched_last R (x ∷ w ∷ xs) [] y h = absurd h.1
matched_last R [] (v ∷ ys) y h = absurd h
matched_last R (x ∷ xs) (v ∷ ys) y h = let r = matched_last R xs ys y h.1 in (x ∷ r.0, r.1, ap (λ l. x ∷ l) r.2, (h.0, r.3), r.4)

matched_none : {X Y : Type 0} (R : X → Y → Type 0) (xs : List X) → Matched R xs [] → xs ≡ []
matched_none R [] h = refl
matched_none R (x ∷ xs) h = absurd h

matched_weaker : {X Y : Type 0} (R S : X → Y → Type 0) → ((x : X) (y : Y) → R x y → S x y) → (xs : List X) (ys : List Y) → Matched R xs ys → Matched S xs ys
matched_weaker R S f [] [] h = tt
matched_weaker R S f [] (y ∷ ys) h = absurd h
matched_weaker R S f (x ∷ xs) [] h = absurd h
matched_weaker R S f (x ∷ xs) (y ∷ ys) h = (f x y h.0, matched_weaker R S f xs ys h.1)

module _ (P : Listed → Tried → Type 0) where
  given_last : (list : List Listed) (x : Listed) (a b c : List Tried) → Given (GivenBy P list) a b → Given (P x) b c → Given (GivenBy P (list ++ x ∷ [])) a c
  given_last list x a b c h k = grows_like (λ o. GivenBy P list o ⊎ P x o) (GivenBy P (list ++ x ∷ [])) a c (grows_then (GivenBy P list) (P x) a b c h k) (λ o. (forth o, back o))
    where
      forth : (o : Tried) → GivenBy P list o ⊎ P x o → GivenBy P (list ++ x ∷ []) o
      forth o (inl t) = (t.0, in_left t.0 list (x ∷ []) t.1, t.2)
      forth o (inr l) = (x, in_right x list (x ∷ []) (inl refl), l)

      back : (o : Tried) → GivenBy P (list ++ x ∷ []) o → GivenBy P list o ⊎ P x o
      back o t = elim (in_either t.0 list (x ∷ []) t.1) [
        | inl l ↦ inl (t.0, l, t.2)
        | inr l ↦ elim l [ inl same ↦ inr (subst (λ y. P y o) same t.2) | inr n ↦ absurd n ]
      ]

module _ (P : State → Listed → Tried → Type 0) (k : ResidualKey) where
  pub adds_none : (old : List (Outcome ResidualKey)) → AddsAll P k [] old old
  adds_none old t r xs stands are = record {
    given = subst (λ l. Given (GivenBy (P r) l) (tried_in t old) (tried_in t old)) (sym (matched_none (IsStep t) xs are)) (grows_none (GivenBy (P r) []) (tried_in t old) (λ o h. h.1));
    live = λ l. l;
  }

  adds_last : (steps : List Step) (s : Step) (a b c : List (Outcome ResidualKey)) → AddsAll P k steps a b → AddsOne P k s b c → AddsAll P k (steps ++ s ∷ []) a c
  adds_last steps s a b c h g t r xs stands are =
      let m = matched_last (IsStep t) xs steps s are in
      let before = h t r m.0 stands m.3 in
      let last = g t r m.1 stands m.4 in
      record {
        given = subst (λ l. Given (GivenBy (P r) l) (tried_in t a) (tried_in t c)) (sym m.2) (given_last (P r) m.0 m.1 (tried_in t a) (tried_in t b) (tried_in t c) before.given last.given);
        live = λ l. last.live (before.live l);
      }

  pub adds_next : (steps : List Step) (i : ℕ) (d : Step) (a b c : List (Outcome ResidualKey)) → i < length steps → AddsAll P k (take i steps) a b → AddsOne P k (get_or steps i d) b c → AddsAll P k (take (i + 1) steps) a c
  adds_next steps i d a b c lt h g =
      let next : i + 1 ≡ suc i = omega arith in
      subst (λ l. AddsAll P k l a c) (sym (ap (λ (n : ℕ). take n steps) next ∙ take-suc steps i d lt)) (adds_last (take i steps) (get_or steps i d) a b c h g)

  pub adds_whole : (steps : List Step) (i : ℕ) (a b : List (Outcome ResidualKey)) → length steps ≤ i → AddsAll P k (take i steps) a b → AddsAll P k steps a b
  adds_whole steps i a b h adds = subst (λ l. AddsAll P k l a b) (take_all i steps h) adds

-- where there is no room for one more unit
pub no_opening : (k : ResidualKey) (steps : List Step) (old : List (Outcome ResidualKey)) → k.second ≢ 0 → AddsAll OpenedBy k steps old old
no_opening k steps old full t r xs stands are = record {
  given = opening_not r xs (tried_in t old) (no_room t.units k.first k.second r.units (slots t.units k.first k.second r.units stands.units) full);
  live = λ l. l;
}

-- what stays while numbers grow
pub slot_stays : {X : Type 0} (old new : List X) (n : ℕ) (o : Option X) → KeepsNumbers old new → IsSlot old n o → IsSlot new n o
slot_stays old new n None g i = i
slot_stays old new n (Some x) g i = (i.0, i.1, g i.0 x i.2)

pub step_stays : (t u : Numbers) → Grows t u → (x : Listed) (s : Step) → IsStep t x s → IsStep u x s
step_stays t u g x s h = record {
  after = slot_stays t.positions u.positions s.after x.mark.after g.positions h.after;
  unit = slot_stays t.units u.units s.unit x.mark.unit g.units h.unit;
  carrier = h.carrier;
  ends = h.ends;
  price = h.price;
}

pub steps_stay : (t u : Numbers) → Grows t u → (xs : List Listed) (ss : List Step) → AreSteps t xs ss → AreSteps u xs ss
steps_stay t u g xs ss h = matched_weaker (IsStep t) (IsStep u) (λ x s k. step_stays t u g x s k) xs ss h

pub bare_stay : (t u : Numbers) → Grows t u → (es : List Entry) (ss : List Step) → AreBare t es ss → AreBare u es ss
bare_stay t u g es ss h = matched_weaker (IsBare t) (IsBare u) (λ e s k. step_stays t u g (record { mark = mark_of e None; price = e.price }) s k) es ss h

matched_at : {X Y : Type 0} (R : X → Y → Type 0) (xs : List X) (ys : List Y) (n : ℕ) (x : X) (y : Y) → Matched R xs ys → n < length xs → R (get_or xs n x) (get_or ys n y)
matched_at R [] ys n x y h lt = absurd (omega (arith, lt))
matched_at R (z ∷ zs) [] n x y h lt = absurd h
matched_at R (z ∷ zs) (w ∷ ws) zero x y h lt = h.0
matched_at R (z ∷ zs) (w ∷ ws) (suc n) x y h lt = matched_at R zs ws n x y h.1 (omega (arith, lt))

-- what stands at one place of both
pub bare_at : (t : Numbers) (es : List Entry) (ss : List Step) (n : ℕ) (e d : Entry) (s : Step) → n < length es → e ≡ get_or es n d → AreBare t es ss → IsBare t e (get_or ss n s)
bare_at t es ss n e d s lt is h = subst (λ z. IsBare t z (get_or ss n s)) (sym is) (matched_at (IsBare t) es ss n d s h lt)

-- they go on to be a list of these marks
pub marks_stay : (t u : Numbers) (Is : Entry → Mark → Type 0) (table : List Entry) (ss : List Step) → Grows t u → AreStepsOf t Is table ss → AreStepsOf u Is table ss
marks_stay t u Is table ss g h = record { list = h.list; is = h.is; steps = steps_stay t u g h.list ss h.steps }

pub grows_same : (t : Numbers) → Grows t t
grows_same t = record { positions = λ n x h. h; units = λ n x h. h }

pub grows_on : (t u v : Numbers) → Grows t u → Grows u v → Grows t v
grows_on t u v g h = record { positions = λ n x e. h.positions n x (g.positions n x e); units = λ n x e. h.units n x (g.units n x e) }

pub position_stays : (q : Request) (t u : Numbers) (ts us : List PositionTable) → Grows t u → KeepsNumbers ts us → (s : PositionSteps) → ArePositionSteps q t ts s → ArePositionSteps q u us s
position_stays q t u ts us g keeps s h = record {
  table = h.table;
  stands = keeps s.place h.table h.stands;
  at = g.positions s.position h.table.at h.at;
  alone = marks_stay t u (IsAlone h.table.at.place q.sale) h.table.entries s.alone.items g h.alone;
  opening = marks_stay t u (IsOpening h.table.at.place q.sale) h.table.entries s.opening.items g h.opening;
  bare = bare_stay t u g h.table.entries s.bare.items h.bare;
  runs = h.runs;
}

pub list_stays : (q : Request) (t u : Numbers) (ts us : List PositionTable) → Grows t u → KeepsNumbers ts us → (k : UnitSlot) (steps : List Step) → IsUnitList q t ts k steps → IsUnitList q u us k steps
list_stays q t u ts us g keeps k steps h = record {
  table = h.table;
  stands = keeps k.place h.table h.stands;
  unit = h.unit;
  slot = slot_stays t.units u.units k.slot (Some h.unit) g.units h.slot;
  steps = marks_stay t u (IsOfUnit h.table.at.place q.sale h.unit) h.table.entries steps g h.steps;
}

pub unit_stays : (q : Request) (t u : Numbers) (ts us : List PositionTable) (all : List Step) → Grows t u → KeepsNumbers ts us → (s : UnitSteps) → AreUnitSteps q t ts all s → AreUnitSteps q u us all s
unit_stays q t u ts us all g keeps s h = record { within = h.within; list = list_stays q t u ts us g keeps (record { place = s.place; slot = s.slot }) (slice_range all s.begin s.end) h.list }

-- a part of a list is the same with more behind
part_of_more : {X : Type 0} (xs ys : List X) (a b : ℕ) → a ≤ b → b ≤ length xs → slice_range (xs ++ ys) a b ≡ slice_range xs a b
part_of_more xs ys a b g h =
    let from : a ≤ length xs = omega (arith, g, h) in
    let long : b - a ≤ length (drop a xs) = omega (arith, length-drop a xs, g, h) in
    ap (take (b - a)) (drop-append-le a xs ys from) ∙ take-append-le (b - a) (drop a xs) ys long

-- what comes behind is the part from where it begins
part_behind : {X : Type 0} (xs ys : List X) → slice_range (xs ++ ys) (length xs) (length (xs ++ ys)) ≡ ys
part_behind xs ys =
    let long : length ys ≤ length (xs ++ ys) - length xs = omega (arith, length-append xs ys) in
    ap (take (length (xs ++ ys) - length xs)) (drop_at xs ys (length xs) refl) ∙ take_all (length (xs ++ ys) - length xs) ys long

-- with more steps behind those of all
pub unit_beside : (q : Request) (t : Numbers) (ts : List PositionTable) (all more : List Step) (s : UnitSteps) → AreUnitSteps q t ts all s → AreUnitSteps q t ts (all ++ more) s
unit_beside q t ts all more s h = record {
  within = (h.within.0, omega (arith, length-append all more, h.within.1));
  list = subst (IsUnitList q t ts (record { place = s.place; slot = s.slot })) (sym (part_of_more all more s.begin s.end h.within.0 h.within.1)) h.list;
}

pub positions_stay : (q : Request) (t u : Numbers) (ts us : List PositionTable) (ss : List PositionSteps) → Grows t u → KeepsNumbers ts us → Each (ArePositionSteps q t ts) ss → Each (ArePositionSteps q u us) ss
positions_stay q t u ts us ss g keeps h = each_weaker (ArePositionSteps q t ts) (ArePositionSteps q u us) (position_stays q t u ts us g keeps) ss h

pub units_stay_by : (q : Request) (t u : Numbers) (ts us : List PositionTable) (all : List Step) (ss : List UnitSteps) → Grows t u → KeepsNumbers ts us → Each (AreUnitSteps q t ts all) ss → Each (AreUnitSteps q u us all) ss
units_stay_by q t u ts us all ss g keeps h = each_weaker (AreUnitSteps q t ts all) (AreUnitSteps q u us all) (unit_stays q t u ts us all g keeps) ss h

none_eq : (y : OpenUnit) → None ≡ Some y → ⊥
none_eq y e = cc

unit_is_first : (us : List OpenUnit) (m n : ℕ) (xs : List OpenUnit) (u v : OpenUnit) → Slots us m n xs → IsSlot us m (Some u) → slice_get xs 0 ≡ Some v → u ≡ v
unit_is_first us m n xs u v (neither e f g) i h = absurd (none_eq v (ap (λ (ys : List OpenUnit). slice_get ys 0) (sym e) ∙ h))
unit_is_first us m n xs u v (one a w e f g k) i h = slot_same us m a w u f k i ∙ some_same w v (ap (λ (ys : List OpenUnit). slice_get ys 0) (sym e) ∙ h)
unit_is_first us m n xs u v (both a b w y e f g k l) i h = slot_same us m a w u f k i ∙ some_same w v (ap (λ (ys : List OpenUnit). slice_get ys 0) (sym e) ∙ h)

unit_is_second : (us : List OpenUnit) (m n : ℕ) (xs : List OpenUnit) (u v : OpenUnit) → Slots us m n xs → IsSlot us n (Some u) → slice_get xs 1 ≡ Some v → u ≡ v
unit_is_second us m n xs u v (neither e f g) i h = absurd (none_eq v (ap (λ (ys : List OpenUnit). slice_get ys 1) (sym e) ∙ h))
unit_is_second us m n xs u v (one a w e f g k) i h = absurd (none_eq v (ap (λ (ys : List OpenUnit). slice_get ys 1) (sym e) ∙ h))
unit_is_second us m n xs u v (both a b w y e f g k l) i h = slot_same us n b y u g l i ∙ some_same y v (ap (λ (ys : List OpenUnit). slice_get ys 1) (sym e) ∙ h)

none_first : (us : List OpenUnit) (m n : ℕ) (xs : List OpenUnit) → Slots us m n xs → m ≡ 0 → slice_get xs 0 ≡ None
none_first us m n xs (neither e f g) z = ap (λ ys. slice_get ys 0) e
none_first us m n xs (one a u e f g h) z = absurd (omega (arith, z, f))
none_first us m n xs (both a b u v e f g h i) z = absurd (omega (arith, z, f))

none_second : (us : List OpenUnit) (m n : ℕ) (xs : List OpenUnit) → Slots us m n xs → n ≡ 0 → slice_get xs 1 ≡ None
none_second us m n xs (neither e f g) z = ap (λ ys. slice_get ys 1) e
none_second us m n xs (one a u e f g h) z = ap (λ ys. slice_get ys 1) e
none_second us m n xs (both a b u v e f g h i) z = absurd (omega (arith, z, g))

-- what the list of an open unit gives
module _ (q : Request) (t : Numbers) (ts : List PositionTable) (l : StepLists) (place : ℕ) (k : ResidualKey) (r : State) (stands : StandsFor t k r) (all : Each (AreUnitSteps q t ts l.unit_steps.items) l.units.items) (slot number : ℕ)
    (is_unit : (u v : OpenUnit) → IsSlot t.units number (Some u) → slice_get r.units slot ≡ Some v → u ≡ v) (is_none : number ≡ 0 → slice_get r.units slot ≡ None) where
  pub given_of_unit : (at : Option ℕ) (old new : List (Outcome ResidualKey)) → UnitStepsAt l.units.items place number at → AddsOfUnit (λ r. UnitBy r slot) k l at old new → UnitGiven q ts place r slot (tried_in t old) (tried_in t new) × (LeadToLive (IsLive t) old → LeadToLive (IsLive t) new)
  given_of_unit None old new e adds = (subst (λ z. UnitGiven q ts place r slot (tried_in t old) (tried_in t z)) (sym adds) (unit_not q ts place r slot (tried_in t old) (is_none e)), λ l. subst (LeadToLive (IsLive t)) (sym adds) l)
  given_of_unit (Some n) old new at adds =
      let h = (each_got (AreUnitSteps q t ts l.unit_steps.items) l.units.items n at.steps all at.stands).list in
      let a = adds at.steps at.stands t r h.steps.list stands h.steps.steps in (
        record {
          list = h.steps.list;
          is = λ v has table there.
              let unit : h.unit ≡ v = is_unit h.unit v (subst (λ z. IsSlot t.units z (Some h.unit)) at.of_slot h.slot) has in
              let same : h.table ≡ table = some_one (slice_get ts place) h.table table (ap (slice_get ts) (sym at.of_place) ∙ h.stands) there in
              subst (λ (y : PositionTable). IsList (IsOfUnit y.at.place q.sale v) y.entries h.steps.list) same (subst (λ (w : OpenUnit). IsList (IsOfUnit h.table.at.place q.sale w) h.table.entries h.steps.list) unit h.steps.is);
          grows = a.given;
        },
        a.live,
      )

next_state : (t : Numbers) (o : Outcome ResidualKey) → outcome_tried (tried_of t o) ≡ outcome_of (residual_at t) o
next_state t o = go o.next
  where
    go : (n : Option ResidualKey) → outcome_tried (tried_of t (record { next = n; price = o.price })) ≡ outcome_of (residual_at t) (record { next = n; price = o.price })
    go None = refl
    go (Some k) = refl

pub as_tried : (t : Numbers) (os : List (Outcome ResidualKey)) → AsTried (tried_in t os) (outcomes_of (residual_at t) os)
as_tried t [] = refl
as_tried t (o ∷ os) = let e = sym (next_state t o) in let f = as_tried t os in λ j. e j ∷ f j

-- the four lists that were added give the outcomes of the residual
module _ (b : Book) (q : Request) (ts : List PositionTable) (l : StepLists) (k : ResidualKey) (r : State) (p : Placed) (found : List (Outcome ResidualKey))
    (law : ListsAreOutcomes b q r) (tables : Each (IsOwnTable b q) ts) (lists : AreStepLists q ts l) (stands : StandsFor l.numbers k r) (placed : ArePlaced l k p) (adds : AddsFour l k p found) where
  four_by_number : TriedAre b q r (tried_in l.numbers found) × LeadToLive (IsLive l.numbers) found
  four_by_number =
      let t = l.numbers in
      let s = placed.steps in
      let h = each_got (ArePositionSteps q t ts) l.positions.items p.at s lists.positions placed.stands in
      let sl = slots t.units k.first k.second r.units stands.units in
      let at : h.table.at ≡ r.at = some_one (slice_get t.positions k.position) h.table.at r.at (ap (slice_get t.positions) (sym placed.of_position) ∙ h.at) stands.at in
      let by_alone = adds.alone s placed.stands t r h.alone.list stands h.alone.steps in
      let by_opening = adds.opening s placed.stands t r h.opening.list stands h.opening.steps in
      let by_first = given_of_unit q t ts l s.place k r stands lists.units 0 k.first (λ u v i e. unit_is_first t.units k.first k.second r.units u v sl i e) (λ z. none_first t.units k.first k.second r.units sl z) p.first adds.two adds.three placed.first adds.first in
      let by_second = given_of_unit q t ts l s.place k r stands lists.units 1 k.second (λ u v i e. unit_is_second t.units k.first k.second r.units u v sl i e) (λ z. none_second t.units k.first k.second r.units sl z) p.second adds.three found placed.second adds.second in (
        four_are b q r ts s.place h.table h.alone.list h.opening.list (tried_in t adds.one) (tried_in t adds.two) (tried_in t adds.three) (tried_in t found) law (at_most_two t.units k.first k.second r.units sl) h.stands at (each_got (IsOwnTable b q) ts s.place h.table tables h.stands) h.alone.is h.opening.is
            by_alone.given by_opening.given by_first.0 by_second.0,
        by_second.1 (by_first.1 (by_opening.live (by_alone.live tt))),
      )

  pub outcomes_by_number : AreOutcomes (leads_of b q) r (outcomes_of (residual_at l.numbers) found)
  outcomes_by_number = tried_are b q r (tried_in l.numbers found) (outcomes_of (residual_at l.numbers) found) four_by_number.0 (as_tried l.numbers found)

  pub live_by_number : LeadToLive (IsLive l.numbers) found
  live_by_number = four_by_number.1

pub none_bare : (ss : List Step) → eqb (length ss) 0 ≡ true → ss ≡ []
none_bare [] h = refl
none_bare (s ∷ ss) h = absurd (omega (arith, eqb-true (length (s ∷ ss)) 0 h))

-- where the table of its position is empty, a residual has none
pub no_outcomes : (b : Book) (q : Request) (ts : List PositionTable) (l : StepLists) (k : ResidualKey) (r : State) (at : ℕ) → ListsAreOutcomes b q r → Each (IsOwnTable b q) ts → AreStepLists q ts l → StandsFor l.numbers k r → (found : StepsAt l.positions.items k.position at) → found.steps.bare.items ≡ []
    → AreOutcomes (leads_of b q) r (outcomes_of (residual_at l.numbers) [])
no_outcomes b q ts l k r n law tables lists stands found empty =
    let t = l.numbers in
    let s = found.steps in
    let h = each_got (ArePositionSteps q t ts) l.positions.items n s lists.positions found.stands in
    let at : h.table.at ≡ r.at = some_one (slice_get t.positions k.position) h.table.at r.at (ap (slice_get t.positions) (sym found.of_position) ∙ h.at) stands.at in
    let own = each_got (IsOwnTable b q) ts s.place h.table tables h.stands in
    let none = matched_none (IsBare t) h.table.entries (subst (AreBare t h.table.entries) empty h.bare) in
    tried_are b q r [] (outcomes_of (residual_at t) []) (none_are b q r h.table.entries law (subst (λ a. IsTable b q a h.table.entries) at own) none) (as_tried t [])

-- one more step without a unit
pub bare_next : (t u : Numbers) (es : List Entry) (i : ℕ) (d : Entry) (ss ss' : List Step) (s : Step) → Grows t u → i < length es → AreBare t (take i es) ss → IsBare u (get_or es i d) s → ss' ≡ ss ++ s ∷ [] → AreBare u (take (i + 1) es) ss'
bare_next t u es i d ss ss' s g lt h k e =
    let next : i + 1 ≡ suc i = omega arith in
    let front : take (i + 1) es ≡ take i es ++ get_or es i d ∷ [] = ap (λ (n : ℕ). take n es) next ∙ take-suc es i d lt in
    subst (λ ys. AreBare u ys ss') (sym front) (subst (AreBare u (take i es ++ get_or es i d ∷ [])) (sym e) (matched_more (IsBare u) (take i es) ss (get_or es i d) s (bare_stay t u g (take i es) ss h) k))

pub bare_whole : (t : Numbers) (es : List Entry) (i : ℕ) (ss : List Step) → length es ≤ i → AreBare t (take i es) ss → AreBare t es ss
bare_whole t es i ss h are = subst (λ ys. AreBare t ys ss) (take_all i es h) are

-- the lists of all, where numbers and tables grew
pub lists_stay : (q : Request) (ts us : List PositionTable) (u : Numbers) (l m : StepLists) → Grows l.numbers u → KeepsNumbers ts us → m.numbers ≡ u → m.positions.items ≡ l.positions.items → m.units.items ≡ l.units.items → m.unit_steps.items ≡ l.unit_steps.items → AreStepLists q ts l → AreStepLists q us m
lists_stay q ts us u l m g keeps e p n a h = record {
  positions = subst (λ z. Each (ArePositionSteps q z us) m.positions.items) (sym e) (subst (Each (ArePositionSteps q u us)) (sym p) (positions_stay q l.numbers u ts us l.positions.items g keeps h.positions));
  units = subst (λ z. Each (AreUnitSteps q z us m.unit_steps.items) m.units.items) (sym e) (subst (λ all. Each (AreUnitSteps q u us all) m.units.items) (sym a) (subst (Each (AreUnitSteps q u us l.unit_steps.items)) (sym n) (units_stay_by q l.numbers u ts us l.unit_steps.items l.units.items g keeps h.units)));
}

-- one more of a position
pub position_more : (q : Request) (ts us : List PositionTable) (u : Numbers) (l m : StepLists) (s : PositionSteps) → Grows l.numbers u → KeepsNumbers ts us → m.numbers ≡ u → m.positions.items ≡ l.positions.items ++ s ∷ [] → m.units.items ≡ l.units.items → m.unit_steps.items ≡ l.unit_steps.items
    → ArePositionSteps q u us s → AreStepLists q ts l → AreStepLists q us m
position_more q ts us u l m s g keeps e p n a k h = record {
  positions = subst (λ z. Each (ArePositionSteps q z us) m.positions.items) (sym e) (subst (Each (ArePositionSteps q u us)) (sym p) (each_more (ArePositionSteps q u us) l.positions.items s (positions_stay q l.numbers u ts us l.positions.items g keeps h.positions) k));
  units = subst (λ z. Each (AreUnitSteps q z us m.unit_steps.items) m.units.items) (sym e) (subst (λ all. Each (AreUnitSteps q u us all) m.units.items) (sym a) (subst (Each (AreUnitSteps q u us l.unit_steps.items)) (sym n) (units_stay_by q l.numbers u ts us l.unit_steps.items l.units.items g keeps h.units)));
}

-- more steps of open units behind
pub steps_more : (q : Request) (ts : List PositionTable) (l m : StepLists) (more : List Step) → m.numbers ≡ l.numbers → m.positions.items ≡ l.positions.items → m.units.items ≡ l.units.items → m.unit_steps.items ≡ l.unit_steps.items ++ more → AreStepLists q ts l → AreStepLists q ts m
steps_more q ts l m more e p n a h = record {
  positions = subst (λ z. Each (ArePositionSteps q z ts) m.positions.items) (sym e) (subst (Each (ArePositionSteps q l.numbers ts)) (sym p) h.positions);
  units = subst (λ z. Each (AreUnitSteps q z ts m.unit_steps.items) m.units.items) (sym e) (subst (λ all. Each (AreUnitSteps q l.numbers ts all) m.units.items) (sym a)
      (subst (Each (AreUnitSteps q l.numbers ts (l.unit_steps.items ++ more))) (sym n) (each_weaker (AreUnitSteps q l.numbers ts l.unit_steps.items) (AreUnitSteps q l.numbers ts (l.unit_steps.items ++ more)) (unit_beside q l.numbers ts l.unit_steps.items more) l.units.items h.units)));
}

-- one more of an open unit, whose steps came behind
pub unit_more : (q : Request) (ts : List PositionTable) (l m : StepLists) (steps : List Step) (s : UnitSteps) → m.numbers ≡ l.numbers → m.positions.items ≡ l.positions.items → m.unit_steps.items ≡ l.unit_steps.items ++ steps → m.units.items ≡ l.units.items ++ s ∷ []
    → s.begin ≡ length l.unit_steps.items → s.end ≡ length (l.unit_steps.items ++ steps) → IsUnitList q l.numbers ts (record { place = s.place; slot = s.slot }) steps → AreStepLists q ts l → AreStepLists q ts m
unit_more q ts l m steps s e p a n from to k h =
    let all = l.unit_steps.items ++ steps in
    let is = AreUnitSteps q l.numbers ts all in
    let part : slice_range all s.begin s.end ≡ steps = ap₂ (λ i j. slice_range all i j) from to ∙ part_behind l.unit_steps.items steps in
    let own : is s = record {
      within = (omega (arith, from, to, length-append l.unit_steps.items steps), omega (arith, to));
      list = subst (IsUnitList q l.numbers ts (record { place = s.place; slot = s.slot })) (sym part) k;
    } in
    record {
      positions = subst (λ z. Each (ArePositionSteps q z ts) m.positions.items) (sym e) (subst (Each (ArePositionSteps q l.numbers ts)) (sym p) h.positions);
      units = subst (λ z. Each (AreUnitSteps q z ts m.unit_steps.items) m.units.items) (sym e) (subst (λ xs. Each (AreUnitSteps q l.numbers ts xs) m.units.items) (sym a)
          (subst (Each is) (sym n) (each_more is l.units.items s (each_weaker (AreUnitSteps q l.numbers ts l.unit_steps.items) is (unit_beside q l.numbers ts l.unit_steps.items steps) l.units.items h.units) own)));
    }

-- what was added stands at the end
pub steps_last : (old new : List PositionSteps) (s : PositionSteps) (position n : ℕ) → new ≡ old ++ s ∷ [] → n ≡ length old → s.position ≡ position → StepsAt new position n
steps_last old new s position n is e p = record { steps = s; stands = ap (λ xs. slice_get xs n) is ∙ ap (slice_get (old ++ s ∷ [])) e ∙ got_last old s; of_position = p }

pub unit_steps_last : (old new : List UnitSteps) (s : UnitSteps) (place slot n : ℕ) → new ≡ old ++ s ∷ [] → n ≡ length old → s.place ≡ place → s.slot ≡ slot → slot ≢ 0 → UnitStandsAt new place slot n
unit_steps_last old new s place slot n is e p q is_open = record { steps = s; stands = ap (λ xs. slice_get xs n) is ∙ ap (slice_get (old ++ s ∷ [])) e ∙ got_last old s; of_place = p; of_slot = q; is_open = is_open }

-- where the lists of a key stand
pub may_stand : (l : StepLists) (place slot : ℕ) (at : Option ℕ) → Each (StandsIn l.unit_steps.items) l.units.items → UnitStepsAt l.units.items place slot at → MayStand l slot at
may_stand l place slot None all h = tt
may_stand l place slot (Some n) all h = (h.steps, h.stands, each_got (StandsIn l.unit_steps.items) l.units.items n h.steps all h.stands, h.is_open)

-- each has its steps
pub have_steps : (q : Request) (ts : List PositionTable) (l : StepLists) → AreStepLists q ts l → Each (StandsIn l.unit_steps.items) l.units.items
have_steps q ts l h = each_weaker (AreUnitSteps q l.numbers ts l.unit_steps.items) (StandsIn l.unit_steps.items) (λ s k. k.within) l.units.items h.units

unit_still : (us vs : List UnitSteps) (place slot : ℕ) (at : Option ℕ) → KeepsNumbers us vs → UnitStepsAt us place slot at → UnitStepsAt vs place slot at
unit_still us vs place slot None keeps h = h
unit_still us vs place slot (Some n) keeps h = record { steps = h.steps; stands = keeps n h.steps h.stands; of_place = h.of_place; of_slot = h.of_slot; is_open = h.is_open }

pub placed_are : (l0 l1 l2 : StepLists) (k : ResidualKey) (at : ℕ) (s : PositionSteps) (first second : Option ℕ) → StepsAt l0.positions.items k.position at → s ≡ get_or l0.positions.items at s → l1.positions.items ≡ l0.positions.items → l2.positions.items ≡ l1.positions.items
    → KeepsNumbers l1.units.items l2.units.items → UnitStepsAt l1.units.items s.place k.first first → UnitStepsAt l2.units.items s.place k.second second → (p : Placed) → p.at ≡ at → p.first ≡ first → p.second ≡ second → ArePlaced l2 k p
placed_are l0 l1 l2 k at s first second found is e1 e2 keeps h i p a f g =
    let same : s ≡ found.steps = is ∙ got_is l0.positions.items at s found.steps found.stands in
    record {
      steps = s;
      stands = ap (λ xs. slice_get xs p.at) (e2 ∙ e1) ∙ ap (slice_get l0.positions.items) a ∙ found.stands ∙ ap Some (sym same);
      of_position = ap (λ (z : PositionSteps). z.position) same ∙ found.of_position;
      first = subst (UnitStepsAt l2.units.items s.place k.first) (sym f) (unit_still l1.units.items l2.units.items s.place k.first first keeps h);
      second = subst (UnitStepsAt l2.units.items s.place k.second) (sym g) i;
    }

-- the table of the lists that a place gives
pub has_table_of : (q : Request) (ts : List PositionTable) (l : StepLists) (position at : ℕ) (s : PositionSteps) → AreStepLists q ts l → StepsAt l.positions.items position at → s ≡ get_or l.positions.items at s → HasTable ts s.place
has_table_of q ts l position at s h found is =
    let same : s ≡ found.steps = is ∙ got_is l.positions.items at s found.steps found.stands in
    let a = each_got (ArePositionSteps q l.numbers ts) l.positions.items at found.steps h.positions found.stands in
    (a.table, ap (λ (z : PositionSteps). slice_get ts z.place) same ∙ a.stands)

-- and that it is of them
pub lists_at : (l : List PositionSteps) (position at : ℕ) (s : PositionSteps) → StepsAt l position at → s ≡ get_or l at s → ListsAt l at s.place
lists_at l position at s found is = (s, found.stands ∙ ap Some (sym (is ∙ got_is l at s found.steps found.stands)), refl)

-- what the entries of a table are without a unit
pub bare_of_table : (q : Request) (ts : List PositionTable) (l : StepLists) (at place : ℕ) (s : PositionSteps) → AreStepLists q ts l → ListsAt l.positions.items at place → s ≡ get_or l.positions.items at s → (t : PositionTable) → slice_get ts place ≡ Some t → AreBare l.numbers t.entries s.bare.items
bare_of_table q ts l at place s h found is t there =
    let same : s ≡ found.0 = is ∙ got_is l.positions.items at s found.0 found.1 in
    let a = each_got (ArePositionSteps q l.numbers ts) l.positions.items at found.0 h.positions found.1 in
    let table : a.table ≡ t = some_one (slice_get ts place) a.table t (ap (slice_get ts) (sym found.2) ∙ a.stands) there in
    subst (λ (z : PositionSteps). AreBare l.numbers t.entries z.bare.items) (sym same) (subst (λ (z : PositionTable). AreBare l.numbers z.entries found.0.bare.items) table a.bare)

-- the slots of a live key
pub live_slots : (t u : Numbers) (k : ResidualKey) → Grows t u → IsLive t k → HasSlot u.units k.first × HasSlot u.units k.second
live_slots t u k g (x, h) = has_slots u.units k.first k.second x.units (stays t u g k x h).units

pub live_position : (t : Numbers) (k : ResidualKey) → IsLive t k → k.position < length t.positions
live_position t k (x, h) = got_within t.positions k.position x.at h.at

pub live_part : (t : Numbers) (k : ResidualKey) → IsLive t k → PartKept k.part
live_part t k (x, h) = subst PartKept (sym h.part) h.kept

pub keeps_on : {X : Type 0} (xs ys zs : List X) → KeepsNumbers xs ys → KeepsNumbers ys zs → KeepsNumbers xs zs
keeps_on xs ys zs f g n x e = g n x (f n x e)

-- what a place gives
pub got_there : {X : Type 0} (xs : List X) (n : ℕ) (x y : X) → x ≡ get_or xs n x → slice_get xs n ≡ Some y → x ≡ y
got_there xs n x y is e = is ∙ got_is xs n x y e
