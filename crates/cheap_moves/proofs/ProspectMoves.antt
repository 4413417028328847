-- The moves on a path with the fares of a market, group by group.
use Rattle.std.proofs.Common.{◌≡◌, ◌≢◌, ◌⊎◌, ℕ, ◌+◌, ◌<◌, Bool, List, length, take, get_or, slice_get, Option, Some, sym, ap, subst, ◌∙◌}
use Rattle.cheap_moves.specs.declared.component.Flown.{Flown}
use Rattle.cheap_moves.specs.declared.prospects.Prospect.{Prospect}
use Rattle.cheap_moves.specs.Making.{IsGroupMove, IsOver, Of}
use Rattle.cheap_moves.specs.Prospects.{IsProspectMove}
use Rattle.cheap_moves.proofs.FareMoves.{one_place, row_at}
use Rattle.cheap_moves.proofs.Joining.{differs_before, of_more, one_of_key, same_map}
use Rattle.fare_ends.specs.declared.markets.Market.{Market}
use Rattle.fare_groups.specs.declared.group.FareGroup.{FareGroup}
use Rattle.fare_groups.specs.declared.group.GroupedFare.{GroupedFare}
use Rattle.fare_groups.specs.Groups.{group_of}
use Rattle.fare_law.specs.declared.moves.Move.{Move}
use Rattle.fare_law.specs.declared.requests.Request.{Request}
use Rattle.fare_law.specs.declared.sheets.SheetRow.{SheetRow}
use Rattle.fare_law.specs.Book.{Book}
use Rattle.fare_law.specs.Lists.{AllDifferent, Each, IsIn, Less}
use Rattle.residual_keys.specs.declared.residual.Chosen.{Chosen}
use Rattle.residual_keys.specs.Gathered.{Adds}
use Rattle.residual_keys.specs.Residuals.{State}
use Rattle.residual_keys.proofs.Adding.{adds_like, adds_none}
use Rattle.law_lemmas.proofs.EachOne.{each_in}
use Rattle.law_lemmas.proofs.Options.{some_one}

module _ (b : Book) (q : Request) (r : State) (bound : State → Option ℕ) (limit : Option ℕ) (flown : Flown) (reverse : Bool) (m : Market) (is : IsOver b q r flown reverse m) where
  abbrev P : Prospect → Chosen → Type 0
  P x c = IsProspectMove q r bound limit flown reverse m x c

  module _ (x : Prospect) (old : List Chosen) where
    -- where the market has no such group that is filed this way there is none
    pub prospect_none : (x.reverse ≡ reverse → Each (λ (g : FareGroup). g.key ≢ x.key) m.groups) → Adds (P x) old old
    prospect_none none = adds_none (P x) old (λ c k. each_in (λ (g : FareGroup). g.key ≢ x.key) m.groups k.group (none k.way) k.within k.key)

    -- and else they are the group's
    pub prospect_had : (new : List Chosen) (g : FareGroup) → x.reverse ≡ reverse → IsIn g m.groups → g.key ≡ x.key → Adds (IsGroupMove q r bound limit flown reverse m g) old new → Adds (P x) old new
    prospect_had new g way i key h = adds_like (IsGroupMove q r bound limit flown reverse m g) (P x) old new h (λ c. (
      λ k. record { way = way; group = g; within = i; key = key; is = k },
      λ k. subst (λ (z : FareGroup). IsGroupMove q r bound limit flown reverse m z c) (one_of_key (λ (z : FareGroup). z.key) m.groups is.over.groups_are.apart k.group g k.within i (k.key ∙ sym key)) k.is,
    ))

  -- prospect by prospect
  module _ (never : (w : List ℕ) → Less w w → ⊥) (trans : (u v w : List ℕ) → Less u v → Less v w → Less u w) (total : (v w : List ℕ) → Less v w ⊎ ((v ≡ w) ⊎ Less w v)) where
    key_of : (x : FareGroup) → IsIn x m.groups → (f : GroupedFare) → IsIn f x.fares → (row : SheetRow) → slice_get m.sheet.value.rows f.place ≡ Some row → group_of row ≡ x.key
    key_of x j f l row stands =
        let y = row_at b q r.at flown.way.path flown.way.flights flown.way.legs flown.classes reverse m.sheet.value m.groups is.over x j f l in
        ap group_of (some_one (slice_get m.sheet.value.rows f.place) row y.row stands y.stands) ∙ y.key_is

    -- one move has one group
    one_prospect : (x y : Prospect) (u v : Chosen) → P x u → P y v → u.mv ≡ v.mv → x ≡ y
    one_prospect x y u v h k s = λ i. record { key = key i; reverse = way i }
      where
        same : ◌≡◌ {A = Move} (record { flights = flown.way.path.flights; carrier = h.is.row.fare.key.carrier; basis = h.is.row.fare.key.basis; role = h.is.role; slot = h.is.slot }) (record { flights = flown.way.path.flights; carrier = k.is.row.fare.key.carrier; basis = k.is.row.fare.key.basis; role = k.is.role; slot = k.is.slot })
        same = sym h.is.move ∙ s ∙ k.is.move

        place : h.is.fare.place ≡ k.is.fare.place
        place = one_place never trans total m.sheet.value.rows h.is.fare.place k.is.fare.place h.is.row k.is.row is.over.sheet_is.ascending h.is.stands k.is.stands (ap (λ (w : Move). w.carrier) same) (ap (λ (w : Move). w.basis) same)

        row : h.is.row ≡ k.is.row
        row = some_one (slice_get m.sheet.value.rows k.is.fare.place) h.is.row k.is.row (subst (λ p. slice_get m.sheet.value.rows p ≡ Some h.is.row) place h.is.stands) k.is.stands

        key : x.key ≡ y.key
        key = sym h.key ∙ sym (key_of h.group h.within h.is.fare h.is.of h.is.row h.is.stands) ∙ ap group_of row ∙ key_of k.group k.within k.is.fare k.is.of k.is.row k.is.stands ∙ k.key

        way : x.reverse ≡ y.reverse
        way = h.way ∙ sym k.way

    pub prospects_more : (items : List Prospect) (i : ℕ) (d x : Prospect) (a n c : List Chosen) → AllDifferent items → i < length items → x ≡ get_or items i d → Adds (Of P (take i items)) a n → Adds (P x) n c → Adds (Of P (take (i + 1) items)) a c
    prospects_more items i d x a n c once lt e h one = of_more P items i d x a n c lt e (λ y j u v k l s. differs_before (λ (w : Prospect). w) items i d x y (subst AllDifferent (same_map items) once) lt e j (one_prospect y x u v k l s)) h one
