-- Lists of steps, as they grow entry by entry.
use Rattle.std.proofs.Common.{◌≡◌, ◌≢◌, ◌⊎◌, ◌↔◌, ◌∙◌, ℕ, ℤ, ◌≤◌, false, true, List, [], ◌∷◌, ◌++◌, Option, Some, None, IsSome, ap, refl, subst, sym, inl, inr, arith}
use Rattle.fare_law.specs.declared.names.Place.{Place}
use Rattle.fare_law.specs.Lists.{Each, IsIn}
use Rattle.flight_paths.specs.declared.positions.Position.{Position}
use Rattle.open_unit.specs.declared.units.OpenUnit.{OpenUnit}
use Rattle.open_unit.specs.OpenUnits.{gone_on, opened}
use Rattle.outlines.specs.declared.marks.Listed.{Listed}
use Rattle.outlines.specs.declared.marks.Mark.{Mark}
use Rattle.outlines.specs.declared.outline.Entry.{Entry}
use Rattle.outlines.specs.Marks.{IsList, mark_of, written}
use Rattle.outlines.specs.Outcomes.{EntryWithin}
use Rattle.residual_table.specs.Keys.{Grows, IsSlot, Tables as Numbers}
use Rattle.search_steps.specs.declared.listing.Doing.{Doing}
use Rattle.search_steps.specs.declared.listing.Doing.TheVariants.{Alone, Joining, Opening}
use Rattle.search_steps.specs.declared.listing.Listing.{Listing}
use Rattle.search_steps.specs.declared.listing.TableSteps.{TableSteps}
use Rattle.search_steps.specs.declared.numbered.Step.{Step}
use Rattle.search_steps.specs.Listing.{AreListed, IsDoing, IsListed, LeavesUnit, StepsOneMore, leaves_by}
use Rattle.search_steps.specs.Numbers.{AreBare, AreSteps, AreStepsOf, IsBare, IsStep}
use Rattle.search_steps.specs.Runs.{AreRuns}
use Rattle.search_steps.specs.Shortening.{HasNoDearer, IsShorter}
use Rattle.search_steps.proofs.ListsByNumber.{bare_stay, slot_stays, steps_stay}
use Rattle.search_steps.proofs.Shorter.{list_of_steps, mark_one, shorter_steps}
use Rattle.law_lemmas.proofs.EachOne.{each_more, each_to}
use Rattle.law_lemmas.proofs.Members.{in_either, in_left, in_right}
use Rattle.law_lemmas.proofs.Numbers.{le_itself}
use Rattle.law_lemmas.proofs.Options.{none_some, some_same}
use Rattle.law_lemmas.proofs.Pairs.{matched_from_right, matched_more}

-- a list of marks, where the table has one entry more
module _ (Is : Entry → Mark → Type 0) (table : List Entry) (e : Entry) where
  longer : (list : List Listed) → Each (λ x. (a : Entry) × IsIn a table × Is a x.mark × (x.price ≡ a.price)) list → Each (λ x. (a : Entry) × IsIn a (table ++ e ∷ []) × Is a x.mark × (x.price ≡ a.price)) list
  longer list h = each_to (λ x. (a : Entry) × IsIn a table × Is a x.mark × (x.price ≡ a.price)) (λ x. (a : Entry) × IsIn a (table ++ e ∷ []) × Is a x.mark × (x.price ≡ a.price)) list h (λ x k. (k.0, in_left k.0 table (e ∷ []) k.1, k.2, k.3))

  -- the entry's marks are in it
  list_kept : (list : List Listed) → ((m : Mark) → Is e m → (x : Listed) × IsIn x list × (x.mark ≡ m) × (x.price ≤ e.price)) → IsList Is table list → IsList Is (table ++ e ∷ []) list
  list_kept list had h = record {
    attained = longer list h.attained;
    covered = λ a i m k. cover a m k (in_either a table (e ∷ []) i);
  }
    where
      cover : (a : Entry) (m : Mark) → Is a m → IsIn a table ⊎ IsIn a (e ∷ []) → (x : Listed) × IsIn x list × (x.mark ≡ m) × (x.price ≤ a.price)
      cover a m k (inl i) = h.covered a i m k
      cover a m k (inr (inl s)) = let x = had m (subst (λ z. Is z m) s k) in (x.0, x.1, x.2, subst (λ (z : Entry). x.0.price ≤ z.price) (sym s) x.3)
      cover a m k (inr (inr n)) = absurd n

  -- the entry's mark is added
  list_more : (mark : Mark) (list : List Listed) → Is e mark → ((m : Mark) → Is e m → mark ≡ m) → IsList Is table list → IsList Is (table ++ e ∷ []) (list ++ record { mark = mark; price = e.price } ∷ [])
  list_more mark list is one h = record {
    attained = each_more (λ x. (a : Entry) × IsIn a (table ++ e ∷ []) × Is a x.mark × (x.price ≡ a.price)) list last (longer list h.attained) (e, in_right e table (e ∷ []) (inl refl), is, refl);
    covered = λ a i m k. cover a m k (in_either a table (e ∷ []) i);
  }
    where
      last : Listed
      last = record { mark = mark; price = e.price }

      cover : (a : Entry) (m : Mark) → Is a m → IsIn a table ⊎ IsIn a (e ∷ []) → (x : Listed) × IsIn x (list ++ last ∷ []) × (x.mark ≡ m) × (x.price ≤ a.price)
      cover a m k (inl i) = let x = h.covered a i m k in (x.0, in_left x.0 list (last ∷ []) x.1, x.2, x.3)
      cover a m k (inr (inl s)) = (last, in_right last list (last ∷ []) (inl refl), one m (subst (λ z. Is z m) s k), subst (λ (z : Entry). e.price ≤ z.price) (sym s) (le_itself e.price))
      cover a m k (inr (inr n)) = absurd n

pub steps_none : (t : Numbers) (Is : Entry → Mark → Type 0) → AreStepsOf t Is [] []
steps_none t Is = record { list = []; is = record { attained = tt; covered = λ e i m k. absurd i }; steps = tt }

-- an entry that has no mark
pub steps_passed : (t : Numbers) (Is : Entry → Mark → Type 0) (e : Entry) (ss : List Step) → ((m : Mark) → Is e m → ⊥) → StepsOneMore t t Is e ss ss
steps_passed t Is e ss none table h = record { list = h.list; is = list_kept Is table e h.list (λ m k. absurd (none m k)) h.is; steps = h.steps }

-- one whose mark leaves no unit open and is there, at no higher price
pub steps_had : (t : Numbers) (Is : Entry → Mark → Type 0) (e : Entry) (bare : Step) (ss : List Step) → IsBare t e bare → ((m : Mark) → Is e m → m ≡ mark_of e None) → HasNoDearer ss bare → StepsOneMore t t Is e ss ss
steps_had t Is e bare ss is only has table h =
    let x = matched_from_right (IsStep t) h.list ss has.0 h.steps has.1 in
    let mark = mark_one t (record { mark = mark_of e None; price = e.price }) x.0 bare has.0 is x.2 has.2 in
    let below = has.3 in
    let of_x = x.2.price in
    let of_bare = is.price in
    record {
      list = h.list;
      is = list_kept Is table e h.list (λ m k. (x.0, x.1, mark ∙ sym (only m k), omega (arith, below, of_x, of_bare))) h.is;
      steps = h.steps;
    }

-- one whose mark is added
pub steps_added : (t u : Numbers) (Is : Entry → Mark → Type 0) (e : Entry) (mark : Mark) (s : Step) (old new : List Step) → Grows t u → Is e mark → ((m : Mark) → Is e m → mark ≡ m) → IsStep u (record { mark = mark; price = e.price }) s → new ≡ old ++ s ∷ []
    → StepsOneMore t u Is e old new
steps_added t u Is e mark s old new g is one step added table h =
    let x : Listed = record { mark = mark; price = e.price } in
    record {
      list = h.list ++ x ∷ [];
      is = list_more Is table e mark h.list is one h.is;
      steps = subst (AreSteps u (h.list ++ x ∷ [])) (sym added) (matched_more (IsStep u) h.list old x s (steps_stay t u g h.list old h.steps) step);
    }

-- a mark leads where its entry does, and has its carrier and what its rule asks of the whole ticket
mark_is : (d : Doing) (begin : Place) (sale : ℤ) (e : Entry) (m : Mark) → IsDoing d begin sale e m → (unit : Option OpenUnit) × (m ≡ mark_of e unit)
mark_is Alone begin sale e m h = (None, h.1)
mark_is Opening begin sale e m h = (Some (opened (written begin sale e)), h.1)
mark_is (Joining u) begin sale e m (inl g) = (Some (gone_on u (written begin sale e)), g.1)
mark_is (Joining u) begin sale e m (inr c) = (None, c.1)

pub mark_step : (t u : Numbers) (l : Listing) (e : Entry) (m : Mark) (bare s : Step) → Grows t u → IsBare t e bare → IsListed l e m → IsSlot u.units s.unit m.unit → s ≡ record bare { unit = s.unit } → IsStep u (record { mark = m; price = e.price }) s
mark_step t u l e m bare s g is listed slot same =
    let own = mark_is l.doing l.begin l.sale e m listed in
    let after = slot_stays t.positions u.positions bare.after e.outline.after g.positions is.after in
    record {
      after = subst (λ n. IsSlot u.positions n m.after) (ap (λ (z : Step). z.after) (sym same)) (subst (IsSlot u.positions bare.after) (ap (λ (z : Mark). z.after) (sym own.1)) after);
      unit = slot;
      carrier = ap (λ (z : Step). z.carrier) same ∙ is.carrier ∙ ap (λ (z : Mark). z.carrier) (sym own.1);
      ends = ap (λ (z : Step). z.ends) same ∙ is.ends ∙ ap (λ (z : Mark). z.ends) (sym own.1);
      price = ap (λ (z : Step). z.price) same ∙ is.price;
    }

-- what leaves a unit open goes on
none_mark : (e : Entry) (u : OpenUnit) → mark_of e None ≡ mark_of e (Some u) → ⊥
none_mark e u h = none_some u (ap (λ (m : Mark). m.unit) h)

open_goes_on : (d : Doing) (begin : Place) (sale : ℤ) (e : Entry) (m : Mark) (u : OpenUnit) → IsDoing d begin sale e m → m ≡ mark_of e (Some u) → IsSome e.outline.after
open_goes_on Alone begin sale e m u h is = absurd (none_mark e u (sym h.1 ∙ is))
open_goes_on Opening begin sale e m u h is = h.0.0
open_goes_on (Joining w) begin sale e m u (inl g) is = g.0.0
open_goes_on (Joining w) begin sale e m u (inr c) is = absurd (none_mark e u (sym c.1 ∙ is))

-- an entry that leads nowhere leaves no unit open
pub open_not : (t : Numbers) (l : Listing) (e : Entry) (bare : Step) (ss : List Step) → IsBare t e bare → bare.after ≡ 0 → LeavesUnit l e true → StepsOneMore t t (IsListed l) e ss ss
open_not t l e bare ss is zero leaves = steps_passed t (IsListed l) e ss (λ m h. let u = leaves m h in no_after e.outline.after is.after (open_goes_on l.doing l.begin l.sale e m u.0 h u.1))
  where
    no_after : (after : Option Position) → IsSlot t.positions bare.after after → IsSome after → ⊥
    no_after None i s = cc
    no_after (Some at) i s = let k = i.1 in omega (arith, zero, k)

-- and one that leads somewhere goes on
pub goes_on : (t : Numbers) (e : Entry) (bare : Step) → IsBare t e bare → bare.after ≢ 0 → IsSome e.outline.after
goes_on t e bare is some = go e.outline.after is.after
  where
    go : (after : Option Position) → IsSlot t.positions bare.after after → IsSome after
    go None i = absurd (some i)
    go (Some at) i = refl

-- one that leaves this unit open leaves no other
pub one_mark : (l : Listing) (e : Entry) (o : Option OpenUnit) (u : OpenUnit) → LeavesUnit l e true → ((w : OpenUnit) → (o ≡ Some w) ↔ IsListed l e (mark_of e (Some w))) → o ≡ Some u → (m : Mark) → IsListed l e m → mark_of e (Some u) ≡ m
one_mark l e o u leaves is got m h =
    let w = leaves m h in
    let same : u ≡ w.0 = some_same u w.0 (sym got ∙ (is w.0).1 (subst (IsListed l e) w.1 h)) in
    ap (λ z. mark_of e (Some z)) same ∙ sym w.1

-- one that by its way leaves none open
pub by_leaves : (l : Listing) (e : Entry) → leaves_by l.doing e.outline.reverse ≡ false → LeavesUnit l e false
by_leaves l e = by l.doing
  where
    by : (d : Doing) → leaves_by d e.outline.reverse ≡ false → (m : Mark) → IsDoing d l.begin l.sale e m → m ≡ mark_of e None
    by Alone h m is = is.1
    by Opening h m is = cc
    by (Joining u) h m (inl g) = let forward = g.0.1.forward in cc
    by (Joining u) h m (inr c) = c.1

-- and one that may leave none open leaves none
pub no_mark : (l : Listing) (e : Entry) → LeavesUnit l e true → ((w : OpenUnit) → IsListed l e (mark_of e (Some w)) → ⊥) → (m : Mark) → IsListed l e m → ⊥
no_mark l e leaves none m h = let w = leaves m h in none w.0 (subst (IsListed l e) w.1 h)

-- steps of which some are left out that others make idle
pub steps_shorter : (t : Numbers) (Is : Entry → Mark → Type 0) (table : List Entry) (ss kept : List Step) → IsShorter ss kept → AreStepsOf t Is table ss → AreStepsOf t Is table kept
steps_shorter t Is table ss kept short h = list_of_steps t Is table h.list kept (shorter_steps t h.list ss kept h.steps short) h.is

-- entries with what they are by numbers, where numbers grew
pub listed_stay : (t u : Numbers) (table : TableSteps) → Grows t u → AreListed t table → AreListed u table
listed_stay t u table g h = record { within = h.within; bare = bare_stay t u g table.entries.now table.bare.now h.bare; runs = h.runs }

-- the entries of a table, with what they are and their runs, as they are handed over
pub listed_of : (t : Numbers) (table : TableSteps) (bare seen : List Step) (runs : List ℕ) → Each EntryWithin table.entries.now → AreBare t table.entries.now bare → AreRuns table.entries.now seen runs → seen ≡ bare → table.bare.now ≡ bare → table.runs.now ≡ runs → AreListed t table
listed_of t table bare seen runs within are has seen_is bare_is runs_is = record {
  within = within;
  bare = subst (AreBare t table.entries.now) (sym bare_is) are;
  runs = subst (λ z. AreRuns table.entries.now z table.runs.now) (seen_is ∙ sym bare_is) (subst (AreRuns table.entries.now seen) (sym runs_is) has);
}
