-- The moves of a residual, path by path.
use Rattle.std.proofs.Common.{◌≡◌, ◌≢◌, ◌⊎◌, ℕ, Bool, true, false, List, [], slice_get, Option, Some, refl, sym, ap, subst, ◌∙◌, inl, inr}
use Rattle.cheap_moves.specs.declared.component.Flown.{Flown}
use Rattle.cheap_moves.specs.Drawing.{IsOwnPath}
use Rattle.cheap_moves.specs.Making.{IsFlown, IsOver, IsWithinFiled, IsWithinOn}
use Rattle.fare_ends.specs.declared.markets.Market.{Market}
use Rattle.fare_ends.specs.declared.markets.MarketKey.{MarketKey}
use Rattle.fare_ends.specs.Markets.{AreMarkets, IsMarket, StandsAt}
use Rattle.fare_book.specs.Keeping.{Limited}
use Rattle.fare_law.specs.declared.flights.Flight.{Flight}
use Rattle.fare_law.specs.declared.moves.Move.{Move}
use Rattle.fare_law.specs.declared.moves.Role.{Role}
use Rattle.fare_law.specs.declared.moves.Role.TheVariants.{Alone, Opens, GoesOn, Closes}
use Rattle.fare_law.specs.declared.requests.Request.{Request}
use Rattle.fare_law.specs.Book.{Book}
use Rattle.flight_paths.specs.declared.positions.Path.{Path}
use Rattle.flight_paths.specs.Positions.{Flies}
use Rattle.open_unit.specs.declared.units.OpenUnit.{OpenUnit}
use Rattle.residual_keys.specs.declared.residual.Chosen.{Chosen}
use Rattle.residual_keys.specs.Gathered.{Adds, IsPathOf}
use Rattle.residual_keys.specs.Residuals.{State, UnitStep, closes}
use Rattle.residual_keys.specs.Steps.{MarketOver}
use Rattle.residual_keys.proofs.Adding.{adds_like, adds_then}
use Rattle.residual_keys.proofs.OneNext.{flies_one}
use Rattle.residual_keys.proofs.Runs.{flies_numbers}
use Rattle.law_lemmas.proofs.EachOne.{each_in}
use Rattle.law_lemmas.proofs.LawFacts.{numbers_one}
use Rattle.law_lemmas.proofs.Members.{got_in}
use Rattle.law_lemmas.proofs.Tests.{true_false}

module _ (b : Book) (q : Request) (r : State) (bound : State → Option ℕ) (limit : Option ℕ) (path : Path) where
  -- where no unit is open, none is closed
  none_closes : r.units ≡ [] → (c : Chosen) → IsWithinOn b q r bound limit path c → closes c.mv.role ≡ false
  none_closes e c h = go c.mv.role c.mv.slot r.units e h.0.0.units h.0.0.moves.units
    where
      go : (role : Role) (slot : ℕ) (us : List OpenUnit) → us ≡ [] → (us' : List OpenUnit) → UnitStep role slot us h.0.0.piece us' → closes role ≡ false
      go Alone slot us e us' k = refl
      go Opens slot us e us' k = refl
      go GoesOn slot us e us' k = refl
      go Closes slot us e us' k = absurd (nothing slot k.0 (subst (λ x. slice_get x slot ≡ Some k.0) e k.1))
        where
          nothing : (s : ℕ) (u : OpenUnit) → ◌≡◌ {A = Option OpenUnit} (slice_get [] s) (Some u) → ⊥
          nothing s u x = cc

  pub forward_alone : r.units ≡ [] → (old new : List Chosen) → Adds (IsWithinFiled b q r bound limit path.flights false) old new → Adds (IsWithinOn b q r bound limit path) old new
  forward_alone e old new h = adds_like (IsWithinFiled b q r bound limit path.flights false) (IsWithinOn b q r bound limit path) old new h (λ c. (λ k. (k.0.0, k.1), λ k. ((k.0, none_closes e c k), k.1)))

  pub both_ways : (a m c : List Chosen) → Adds (IsWithinFiled b q r bound limit path.flights false) a m → Adds (IsWithinFiled b q r bound limit path.flights true) m c → Adds (IsWithinOn b q r bound limit path) a c
  both_ways a m c h k = adds_like (λ x. IsWithinFiled b q r bound limit path.flights false x ⊎ IsWithinFiled b q r bound limit path.flights true x) (IsWithinOn b q r bound limit path) a c
      (adds_then (IsWithinFiled b q r bound limit path.flights false) (IsWithinFiled b q r bound limit path.flights true) a m c h k (λ x y i j e. true_false (ap (λ (z : Move). closes z.role) e ∙ j.0.1) i.0.1)) (λ x. (forth x, back x))
    where
      forth : (x : Chosen) → IsWithinFiled b q r bound limit path.flights false x ⊎ IsWithinFiled b q r bound limit path.flights true x → IsWithinOn b q r bound limit path x
      forth x (inl i) = (i.0.0, i.1)
      forth x (inr i) = (i.0.0, i.1)

      back : (x : Chosen) → IsWithinOn b q r bound limit path x → IsWithinFiled b q r bound limit path.flights false x ⊎ IsWithinFiled b q r bound limit path.flights true x
      back x i = of (closes x.mv.role) refl
        where
          of : (t : Bool) → closes x.mv.role ≡ t → IsWithinFiled b q r bound limit path.flights false x ⊎ IsWithinFiled b q r bound limit path.flights true x
          of true e = inr ((i.0, e), i.1)
          of false e = inl ((i.0, e), i.1)

-- a path with its numbers is one
path_one : (b : Book) (q : Request) (r : State) (p p' : Path) (fs gs : List Flight) → IsPathOf b q r p fs → IsPathOf b q r p' gs → p.flights ≡ p'.flights → p ≡ p'
path_one b q r p p' fs gs h k e =
    let flies = subst (λ ns. Flies b q.slices (Some r.at) ns fs p.after) e h.flies in
    let same = numbers_one b p'.flights fs gs (flies_numbers b q.slices (Some r.at) p.after p'.flights fs flies) (flies_numbers b q.slices (Some r.at) p'.after p'.flights gs k.flies) in
    let after = flies_one b q.slices (Some r.at) p'.flights gs p.after p'.after (subst (λ xs. Flies b q.slices (Some r.at) p'.flights xs p.after) same flies) k.flies in
    λ i. record { flights = e i; after = after i }

-- moves on different paths differ
pub paths_apart : (b : Book) (q : Request) (r : State) (bound : State → Option ℕ) (limit limit' : Option ℕ) (y p : Path) → IsOwnPath b q r y → IsOwnPath b q r p → y ≢ p → (u v : Chosen) → IsWithinOn b q r bound limit y u → IsWithinOn b q r bound limit' p v → u.mv ≢ v.mv
paths_apart b q r bound limit limit' y p k l ne u v x z s = ne (path_one b q r y p k.0 l.0 k.1 l.1 (sym x.0.1 ∙ ap (λ (w : Move). w.flights) s ∙ z.0.1))

-- the market that was found
pub market_over : (b : Book) (q : Request) (r : State) (flown : Flown) (reverse : Bool) (key : MarketKey) (ms : List Market) (n : ℕ) (m : Market) → IsFlown b q r flown → MarketOver reverse flown.way.flights key.from key.to → Limited b → AreMarkets b ms → StandsAt ms key n → slice_get ms n ≡ Some m → IsOver b q r flown reverse m
market_over b q r flown reverse key ms n m f over limited are s stands =
    let same : s.market ≡ m = some_is s.market m (sym s.stands ∙ stands) in
    let is = each_in (IsMarket b) ms m are (got_in ms n m stands) in
    record {
      over = record {
        path_is = f.path;
        legs_are = f.legs;
        classes_are = f.classes;
        market = subst (λ (x : Market). MarketOver reverse flown.way.flights x.sheet.value.from x.sheet.value.to) same (subst (λ p. MarketOver reverse flown.way.flights s.market.sheet.value.from p) (sym s.to) (subst (λ p. MarketOver reverse flown.way.flights p key.to) (sym s.from) over));
        sheet_is = is.sheet;
        groups_are = is.groups;
        limited = limited;
      };
      limits = f.limits;
    }
  where
    some_is : {X : Type 0} (x y : X) → Some x ≡ Some y → x ≡ y
    some_is x y e = cc
