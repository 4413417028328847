-- What the lists of a residual give is added list by list, and is what the residual leads to.
use Rattle.std.proofs.Common.{◌≡◌, ◌⊎◌, ◌∙◌, ℕ, zero, suc, ◌+◌, ◌≤◌, ◌<◌, Bool, true, false, List, [], ◌∷◌, ◌++◌, length, take, get_or, slice_get, Some, None, IfNone, refl, sym, ap, subst, inl, inr, arith}
use Rattle.std.proofs.Math.Seq.{take-suc}
use Rattle.fare_law.specs.declared.requests.Request.{Request}
use Rattle.fare_law.specs.Book.{Book}
use Rattle.fare_law.specs.Lists.{IsIn}
use Rattle.flight_paths.specs.declared.positions.Position.{Position}
use Rattle.component_table.specs.Tables.{IsTable}
use Rattle.open_unit.specs.declared.units.OpenUnit.{OpenUnit}
use Rattle.outlines.specs.declared.marks.Listed.{Listed}
use Rattle.outlines.specs.declared.marks.Mark.{Mark}
use Rattle.outlines.specs.declared.outline.Entry.{Entry}
use Rattle.outlines.specs.declared.outline.Outcome.{Outcome as Tried}
use Rattle.outlines.specs.Marks.{GivenByUnit, IsAlone, IsGiven, IsList, IsOfUnit, IsOpening, ListsAreOutcomes, MarkLeaves, part_by, units_by}
use Rattle.outlines.specs.Outcomes.{AreOutcomes, Grows}
use Rattle.outlines.proofs.Growing.{grows_like, grows_none, grows_one, grows_then}
use Rattle.residual_keys.specs.declared.residual.Next.{Next}
use Rattle.residual_keys.specs.Residuals.{PartAllows, State}
use Rattle.residual_keys.specs.Steps.{left_at}
use Rattle.search_steps.specs.declared.tables.PositionTable.{PositionTable}
use Rattle.search_steps.specs.Giving.{GivenBy, LeftBy, OpenedBy, UnitBy, UnitGiven}
use Rattle.search_steps.specs.Tables.{IsOwnTable}
use Rattle.law_lemmas.proofs.Members.{in_either, in_left, in_right}

module _ (P : Listed → Tried → Type 0) where
  pub given_none : (old : List Tried) → Grows (GivenBy P []) old old
  given_none old = grows_none (GivenBy P []) old (λ o h. h.1)

  given_more : (list : List Listed) (i : ℕ) (d x : Listed) (a b c : List Tried) → i < length list → x ≡ get_or list i d → Grows (GivenBy P (take i list)) a b → Grows (P x) b c → Grows (GivenBy P (take (i + 1) list)) a c
  given_more list i d x a b c lt is h k = grows_like (λ o. GivenBy P (take i list) o ⊎ P x o) (GivenBy P (take (i + 1) list)) a c (grows_then (GivenBy P (take i list)) (P x) a b c h k) (λ o. (forth o, back o))
    where
      one : i + 1 ≡ suc i
      one = omega arith

      front : take (i + 1) list ≡ take i list ++ x ∷ []
      front = ap (λ n. take n list) one ∙ take-suc list i d lt ∙ ap (λ y. take i list ++ y ∷ []) (sym is)

      forth : (o : Tried) → GivenBy P (take i list) o ⊎ P x o → GivenBy P (take (i + 1) list) o
      forth o (inl t) = (t.0, subst (IsIn t.0) (sym front) (in_left t.0 (take i list) (x ∷ []) t.1), t.2)
      forth o (inr l) = (x, subst (IsIn x) (sym front) (in_right x (take i list) (x ∷ []) (inl refl)), l)

      back : (o : Tried) → GivenBy P (take (i + 1) list) o → GivenBy P (take i list) o ⊎ P x o
      back o t = elim (in_either t.0 (take i list) (x ∷ []) (subst (IsIn t.0) front t.1)) [
        | inl l ↦ inl (t.0, l, t.2)
        | inr l ↦ elim l [ inl same ↦ inr (subst (λ y. P y o) same t.2) | inr n ↦ absurd n ]
      ]

  pub given_next : (list : List Listed) (i : ℕ) (d : Listed) (a b c : List Tried) → i < length list → Grows (GivenBy P (take i list)) a b → Grows (P (get_or list i d)) b c → Grows (GivenBy P (take (i + 1) list)) a c
  given_next list i d a b c lt h k = given_more list i d (get_or list i d) a b c lt refl h k

-- one more that stands alone
pub alone_next : (r : State) (us : List OpenUnit) (list : List Listed) (i : ℕ) (d : Listed) (a b c : List Tried) → us ≡ r.units → i < length list → Grows (GivenBy (LeftBy r true r.units) (take i list)) a b
    → Grows (LeftBy r true us (get_or list i d)) b c → Grows (GivenBy (LeftBy r true r.units) (take (i + 1) list)) a c
alone_next r us list i d a b c e lt h k = given_next (LeftBy r true r.units) list i d a b c lt h (subst (λ vs. Grows (LeftBy r true vs (get_or list i d)) b c) e k)

-- what one mark leaves
module _ (r : State) (new : Bool) (units : List OpenUnit) (x : Listed) where
  pub left_not : (old : List Tried) → ((o : Tried) → MarkLeaves r x.mark new units o.next → ⊥) → Grows (LeftBy r new units x) old old
  left_not old none = grows_none (LeftBy r new units x) old (λ o h. none o h.leaves)

  pub left_had : (next : Next) (old more : List Tried) → PartAllows (part_by r.part new x.mark) → IfNone x.mark.after (units ≡ []) → next ≡ left_at x.mark.after units (part_by r.part new x.mark)
      → more ≡ old ++ record { next = next; price = x.price } ∷ [] → Grows (LeftBy r new units x) old more
  left_had next old more part done left is =
      let o : Tried = record { next = next; price = x.price } in
      let has : LeftBy r new units x o = record { leaves = record { part = part; done = done; left = left }; price = refl } in
      grows_one (LeftBy r new units x) old more o is has (λ y h. one y o h has)
    where
      one : (y z : Tried) → LeftBy r new units x y → LeftBy r new units x z → y ≡ z
      one y z h k =
          let next : y.next ≡ z.next = h.leaves.left ∙ sym k.leaves.left in
          let price : y.price ≡ z.price = h.price ∙ sym k.price in
          λ i. record { next = next i; price = price i }

some_is : {X : Type 0} (x y : X) → Some x ≡ Some y → x ≡ y
some_is x y e = cc

got : {X : Type 0} (xs : List X) (n : ℕ) → n < length xs → (x : X) × (slice_get xs n ≡ Some x)
got [] n h = absurd (omega (arith, h))
got (x ∷ xs) zero h = (x, refl)
got (x ∷ xs) (suc n) h = got xs n (omega (arith, h))

module _ (r : State) (x : Listed) where
  pub opened_not : (old : List Tried) → x.mark.unit ≡ None → Grows (OpenedBy r x) old old
  opened_not old e = grows_none (OpenedBy r x) old (λ o h. none h.unit (sym e ∙ h.opens))
    where
      none : (u : OpenUnit) → None ≡ Some u → ⊥
      none u e = cc

  pub opened_had : (u : OpenUnit) (old new : List Tried) → length r.units < 2 → x.mark.unit ≡ Some u → Grows (LeftBy r true (r.units ++ u ∷ []) x) old new → Grows (OpenedBy r x) old new
  opened_had u old new room opens h = grows_like (LeftBy r true (r.units ++ u ∷ []) x) (OpenedBy r x) old new h (λ o. (
    λ l. record { room = room; unit = u; opens = opens; left = l },
    λ k. subst (λ v. LeftBy r true (r.units ++ v ∷ []) x o) (some_is k.unit u (sym k.opens ∙ opens)) k.left,
  ))

  pub unit_had : (slot : ℕ) (old new : List Tried) → slot < length r.units → Grows (LeftBy r false (units_by r.units slot x.mark.unit) x) old new → Grows (UnitBy r slot x) old new
  unit_had slot old new taken h =
      let u = got r.units slot taken in
      grows_like (LeftBy r false (units_by r.units slot x.mark.unit) x) (UnitBy r slot x) old new h (λ o. (λ l. record { unit = u.0; stands = u.1; left = l }, λ k. k.left))

-- no room, or no unit
pub opening_not : (r : State) (list : List Listed) (old : List Tried) → (length r.units < 2 → ⊥) → Grows (GivenBy (OpenedBy r) list) old old
opening_not r list old none = grows_none (GivenBy (OpenedBy r) list) old (λ o h. none h.2.room)

pub unit_not : (q : Request) (ts : List PositionTable) (place : ℕ) (r : State) (slot : ℕ) (old : List Tried) → slice_get r.units slot ≡ None → UnitGiven q ts place r slot old old
unit_not q ts place r slot old e = record {
  list = [];
  is = λ u k t h. absurd (none u (sym e ∙ k));
  grows = given_none (UnitBy r slot) old;
}
  where
    none : (u : OpenUnit) → None ≡ Some u → ⊥
    none u e = cc

-- the lists of two slots
abbrev of_two : List Listed → List Listed → ℕ → List Listed
of_two first second zero = first
of_two first second (suc n) = second

record FourGiven (r : State) (alone opens first second : List Listed) (o : Tried) : Type 0 where
  is : (((GivenBy (LeftBy r true r.units) alone o ⊎ GivenBy (OpenedBy r) opens o) ⊎ GivenBy (UnitBy r 0) first o) ⊎ GivenBy (UnitBy r 1) second o)

module _ (r : State) (alone opens first second : List Listed) (few : length r.units ≤ 2) (o : Tried) where
  unit_at : (slot : ℕ) (list : List Listed) → list ≡ of_two first second slot → GivenBy (UnitBy r slot) list o → GivenByUnit r (of_two first second) o
  unit_at slot list e h = record { slot = slot; unit = h.2.unit; stands = h.2.stands; listed = h.0; within = subst (IsIn h.0) e h.1; leaves = h.2.left.leaves; price = h.2.left.price }

  all_given : FourGiven r alone opens first second o → IsGiven r alone opens (of_two first second) o
  all_given f = elim (f.is) [
    | inl p ↦ elim p [
      | inl s ↦ elim s [
        | inl a ↦ inl (record { listed = a.0; within = a.1; leaves = a.2.leaves; price = a.2.price })
        | inr b ↦ inr (inl (record { listed = b.0; within = b.1; room = b.2.room; unit = b.2.unit; opens = b.2.opens; leaves = b.2.left.leaves; price = b.2.left.price }))
      ]
      | inr c ↦ inr (inr (unit_at 0 first refl c))
    ]
    | inr d ↦ inr (inr (unit_at 1 second refl d))
  ]

  four_by_unit : (slot : ℕ) (u : OpenUnit) → slice_get r.units slot ≡ Some u → (x : Listed) → IsIn x (of_two first second slot) → LeftBy r false (units_by r.units slot x.mark.unit) x o → FourGiven r alone opens first second o
  four_by_unit zero u e x i l = record { is = inl (inr (x, i, record { unit = u; stands = e; left = l })) }
  four_by_unit (suc zero) u e x i l = record { is = inr (x, i, record { unit = u; stands = e; left = l }) }
  four_by_unit (suc (suc n)) u e x i l = absurd (past r.units few n u e)
    where
      past : (us : List OpenUnit) → length us ≤ 2 → (n : ℕ) (u : OpenUnit) → slice_get us (suc (suc n)) ≡ Some u → ⊥
      past [] h n u e = cc
      past (a ∷ []) h n u e = cc
      past (a ∷ b ∷ []) h n u e = cc
      past (a ∷ b ∷ c ∷ us) h n u e = omega (arith, h)

  given_all : IsGiven r alone opens (of_two first second) o → FourGiven r alone opens first second o
  given_all (inl a) = record { is = inl (inl (inl (a.listed, a.within, record { leaves = a.leaves; price = a.price }))) }
  given_all (inr (inl b)) = record { is = inl (inl (inr (b.listed, b.within, record { room = b.room; unit = b.unit; opens = b.opens; left = record { leaves = b.leaves; price = b.price } }))) }
  given_all (inr (inr c)) = four_by_unit c.slot c.unit c.stands c.listed c.within (record { leaves = c.leaves; price = c.price })

-- the table and the lists of a residual's position
record ListedAt (b : Book) (q : Request) (at : Position) (t : PositionTable) (alone opening : List Listed) : Type 0 where
  table : IsTable b q at t.entries
  alone_is : IsList (IsAlone at.place q.sale) t.entries alone
  opening_is : IsList (IsOpening at.place q.sale) t.entries opening

units_two : (q : Request) (r : State) (ts : List PositionTable) (place : ℕ) (t : PositionTable) (f2 f3 f4 : List Tried) → length r.units ≤ 2 → slice_get ts place ≡ Some t → t.at ≡ r.at
    → (one : UnitGiven q ts place r 0 f2 f3) → (two : UnitGiven q ts place r 1 f3 f4) → (slot : ℕ) (u : OpenUnit) → slice_get r.units slot ≡ Some u → IsList (IsOfUnit r.at.place q.sale u) t.entries (of_two one.list two.list slot)
units_two q r ts place t f2 f3 f4 few stands at one two zero u e = subst (λ (a : Position). IsList (IsOfUnit a.place q.sale u) t.entries one.list) at (one.is u e t stands)
units_two q r ts place t f2 f3 f4 few stands at one two (suc zero) u e = subst (λ (a : Position). IsList (IsOfUnit a.place q.sale u) t.entries two.list) at (two.is u e t stands)
units_two q r ts place t f2 f3 f4 few stands at one two (suc (suc n)) u e = absurd (past r.units few n u e)
  where
    past : (us : List OpenUnit) → length us ≤ 2 → (n : ℕ) (u : OpenUnit) → slice_get us (suc (suc n)) ≡ Some u → ⊥
    past [] h n u e = cc
    past (a ∷ []) h n u e = cc
    past (a ∷ b ∷ []) h n u e = cc
    past (a ∷ b ∷ c ∷ us) h n u e = omega (arith, h)

-- what was added from the four lists is what the residual leads to
pub four_are : (b : Book) (q : Request) (r : State) (ts : List PositionTable) (place : ℕ) (t : PositionTable) (alone opening : List Listed) (f1 f2 f3 f4 : List Tried) → ListsAreOutcomes b q r → length r.units ≤ 2
    → slice_get ts place ≡ Some t → t.at ≡ r.at → IsOwnTable b q t → IsList (IsAlone t.at.place q.sale) t.entries alone → IsList (IsOpening t.at.place q.sale) t.entries opening
    → Grows (GivenBy (LeftBy r true r.units) alone) [] f1 → Grows (GivenBy (OpenedBy r) opening) f1 f2 → UnitGiven q ts place r 0 f2 f3 → UnitGiven q ts place r 1 f3 f4
    → AreOutcomes b q r f4
four_are b q r ts place t alone opening f1 f2 f3 f4 law few stands at table alone_is opening_is one two three four =
    law t.entries alone opening (of_two three.list four.list) f4 there.table.rules there.table.tabled
    (record { alone_is = there.alone_is; opens_is = there.opening_is; units_are = units_two q r ts place t f2 f3 f4 few stands at three four })
    (λ o. (
      λ i. all_given r alone opening three.list four.list few o (record { is = (all.are o).0 (subst (IsIn o) all.joined i) }),
      λ g. subst (IsIn o) (sym all.joined) ((all.are o).1 (given_all r alone opening three.list four.list few o g).is),
    ))
  where
    A : Tried → Type 0
    A = GivenBy (LeftBy r true r.units) alone

    B : Tried → Type 0
    B = GivenBy (OpenedBy r) opening

    C : Tried → Type 0
    C = GivenBy (UnitBy r 0) three.list

    D : Tried → Type 0
    D = GivenBy (UnitBy r 1) four.list

    all : Grows (λ o. ((A o ⊎ B o) ⊎ C o) ⊎ D o) [] f4
    all = grows_then (λ o. (A o ⊎ B o) ⊎ C o) D [] f3 f4 (grows_then (λ o. A o ⊎ B o) C [] f2 f3 (grows_then A B [] f1 f2 one two) three.grows) four.grows

    there : ListedAt b q r.at t alone opening
    there = subst (λ (a : Position). ListedAt b q a t alone opening) at (record { table = table; alone_is = alone_is; opening_is = opening_is })

-- a table without entries gives nothing
none_listed : (Is : Entry → Mark → Type 0) (entries : List Entry) → entries ≡ [] → IsList Is entries []
none_listed Is entries empty = record { attained = tt; covered = λ e i m k. absurd (subst (IsIn e) empty i) }

pub none_are : (b : Book) (q : Request) (r : State) (entries : List Entry) → ListsAreOutcomes b q r → IsTable b q r.at entries → entries ≡ [] → AreOutcomes b q r []
none_are b q r entries law table empty =
    law entries [] [] (λ slot. []) [] table.rules table.tabled
    (record {
      alone_is = none_listed (IsAlone r.at.place q.sale) entries empty;
      opens_is = none_listed (IsOpening r.at.place q.sale) entries empty;
      units_are = λ slot u e. none_listed (IsOfUnit r.at.place q.sale u) entries empty;
    })
    (λ o. (λ i. absurd i, λ g. none_given o g))
  where
    none_given : (o : Tried) → IsGiven r [] [] (λ slot. []) o → ⊥
    none_given o (inl a) = absurd a.within
    none_given o (inr (inl b)) = absurd b.within
    none_given o (inr (inr c)) = absurd c.within
