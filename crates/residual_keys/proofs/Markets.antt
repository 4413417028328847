-- Legs of flights are one, and so is the key of legs and a market; a market without fares has no moves. This file is given on to the crates above.
use Rattle.std.proofs.Common.{◌≡◌, ◌⊎◌, ◌↔◌, ℕ, zero, suc, ◌<◌, Bool, List, [], ◌∷◌, IsBitSet, refl, sym, ap₂, subst, ◌∙◌, inl, arith}
use Rattle.std.specs.Int.{bit_at}
use Rattle.std.proofs.lemmas.Nat.Bits.{bit_at-lt, same_from_bits_below, shr_and_one}
use Rattle.std.proofs.lemmas.Nat.{bit_set_by_shift}
use Rattle.fare_book.specs.Keeping.{NoFare}
use Rattle.fare_component.specs.Keys.{asked}
use Rattle.fare_law.specs.declared.flights.Flight.{Flight}
use Rattle.fare_law.specs.declared.market.OfferKey.{OfferKey}
use Rattle.fare_law.specs.declared.names.Place.{Place}
use Rattle.fare_law.specs.declared.requests.Request.{Request}
use Rattle.fare_law.specs.declared.sheets.Leg.{Leg}
use Rattle.fare_law.specs.declared.sheets.SheetRow.{SheetRow}
use Rattle.fare_law.specs.Book.{Book}
use Rattle.fare_law.specs.Lists.{IsIn, Matched, Less}
use Rattle.fare_law.specs.Sheets.{IsLiveRow, Sheet, SheetOf}
use Rattle.flight_paths.specs.declared.positions.Path.{Path}
use Rattle.flight_paths.specs.Positions.{IsPath}
use Rattle.residual_keys.specs.AskedKeys.{IsKey, IsLeg}
use Rattle.residual_keys.specs.declared.residual.Chosen.{Chosen}
use Rattle.residual_keys.specs.Gathered.{Adds, FiledOver, IsChosenFiled, IsPathOf}
use Rattle.residual_keys.specs.Residuals.{State}
use Rattle.residual_keys.specs.Steps.{KeyOn, MarketOver}
use Rattle.residual_keys.proofs.Adding.{adds_none}
use Rattle.residual_keys.proofs.Offered.{filed_market}
use Rattle.residual_keys.proofs.Sheeted.{sheet_one}
use Rattle.residual_keys.proofs.StepFacts.{moves_key}
use Rattle.residual_keys.proofs.StepTaken.{flights_same}
use Rattle.law_lemmas.proofs.Options.{some_none}

bit_is : (n i : ℕ) → IsBitSet n i ↔ (◌≡◌ {A = ℕ} (bit_at n i) 1)
bit_is n i = let s = bit_set_by_shift n i in (λ h. sym (shr_and_one n i) ∙ s.1 h, λ h. s.0 (shr_and_one n i ∙ h))

set_bits_one : (m n i : ℕ) → (IsBitSet m i → IsBitSet n i) → (IsBitSet n i → IsBitSet m i) → bit_at m i ≡ bit_at n i
set_bits_one m n i f g = go (bit_at m i) (bit_at n i) refl refl (bit_at-lt m i) (bit_at-lt n i)
  where
    go : (x y : ℕ) → bit_at m i ≡ x → bit_at n i ≡ y → x < 2 → y < 2 → bit_at m i ≡ bit_at n i
    go zero zero a b p q = a ∙ sym b
    go zero (suc zero) a b p q = let k = (bit_is m i).0 (g ((bit_is n i).1 b)) in absurd (omega (arith, a, k))
    go (suc zero) zero a b p q = let k = (bit_is n i).0 (f ((bit_is m i).1 a)) in absurd (omega (arith, b, k))
    go (suc zero) (suc zero) a b p q = a ∙ sym b
    go x (suc (suc y)) a b p q = absurd (omega arith)
    go (suc (suc x)) y a b p q = absurd (omega arith)

pub legs_one : (b : Book) (party : ℕ) (fs : List Flight) (xs ys : List Leg) → Matched (IsLeg b party) fs xs → Matched (IsLeg b party) fs ys → xs ≡ ys
legs_one b party [] [] [] h k = refl
legs_one b party [] [] (y ∷ ys) h k = absurd k
legs_one b party [] (x ∷ xs) ys h k = absurd h
legs_one b party (f ∷ fs) [] ys h k = absurd h
legs_one b party (f ∷ fs) (x ∷ xs) [] h k = absurd k
legs_one b party (f ∷ fs) (x ∷ xs) (y ∷ ys) h k = ap₂ (λ z zs. z ∷ zs) leg (legs_one b party fs xs ys h.1 k.1)
  where
    classes : x.classes ≡ y.classes
    classes = same_from_bits_below 32 x.classes y.classes h.0.fits k.0.fits (λ i lt. set_bits_one x.classes y.classes i (λ s. (k.0.classes i lt).1 ((h.0.classes i lt).0 s)) (λ s. (h.0.classes i lt).1 ((k.0.classes i lt).0 s)))

    leg : x ≡ y
    leg =
        let f_is : x.flight ≡ y.flight = h.0.flight ∙ sym k.0.flight in
        let c_is = classes in
        λ i. record { flight = f_is i; classes = c_is i }

module _ (never : (w : List ℕ) → Less w w → ⊥) (trans : (u v w : List ℕ) → Less u v → Less v w → Less u w) (total : (v w : List ℕ) → Less v w ⊎ ((v ≡ w) ⊎ Less w v)) where
  -- what a key of these flights and a market asks for is one
  pub asked_one : (b : Book) (q : Request) (fs : List Flight) (from to : Place) (legs : List Leg) (sheet : Sheet) (key : OfferKey) → Matched (IsLeg b q.party) fs legs → SheetOf b from to sheet → IsKey b q fs from to key → record { legs = legs; sheet = sheet } ≡ asked key
  asked_one b q fs from to legs sheet key m s h =
      let a = legs_one b q.party fs legs key.legs m h.0 in
      let e = sheet_one never trans total b from to sheet key.sheet.value s h.1 in
      λ i. record { legs = a i; sheet = e i }

-- a sheet has a live fare
pub no_sheet : (b : Book) (from to : Place) (sheet : Sheet) → NoFare b from to → SheetOf b from to sheet → ⊥
no_sheet b from to sheet none h = go sheet.rows h.some (λ row i. (h.live row).0 i)
  where
    go : (rows : List SheetRow) → (rows ≡ [] → ⊥) → ((row : SheetRow) → IsIn row rows → IsLiveRow b from to row) → ⊥
    go [] some live = some refl
    go (row ∷ rows) some live = let l = live row (inl refl) in some_none row.fare (sym l.fare ∙ none row.fare.key l.filed_from l.filed_to)

-- nor is there a move where no fare is live
pub no_moves : (b : Book) (q : Request) (r : State) (path : Path) (fs : List Flight) (reverse : Bool) (from to : Place) (old : List Chosen) → IsPathOf b q r path fs → MarketOver reverse fs from to → NoFare b from to → Adds (IsChosenFiled b q r path.flights reverse) old old
no_moves b q r path fs reverse from to old is market none = adds_none (IsChosenFiled b q r path.flights reverse) old wrong
  where
    wrong : (c : Chosen) → IsChosenFiled b q r path.flights reverse c → ⊥
    wrong c ((chosen, ns), way) =
        let m = c.mv in
        let h = chosen.moves in
        let p = chosen.piece in
        let at_path : IsPath b q.slices r.at m.flights fs path.after = subst (λ xs. IsPath b q.slices r.at xs fs path.after) (sym ns) is in
        let same = (flights_same b q r m fs path.after at_path chosen.flights p chosen.after chosen.units h).0 in
        let key : KeyOn m fs p.fare.key = subst (λ xs. KeyOn m xs p.fare.key) same (moves_key b q r m chosen.flights p chosen.after chosen.units h) in
        let ends = filed_market reverse fs from to p.fare.key market (subst (λ t. FiledOver t fs p.fare.key) way key.ends) in
        some_none p.fare (sym h.stands.fare ∙ none p.fare.key ends.0 ends.1)
