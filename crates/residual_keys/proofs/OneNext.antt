-- A move of a state leaves one state, so what completes a list of moves depends on the state alone. Given on to the crates above.
use Rattle.std.proofs.Common.{◌≡◌, ℕ, ℤ, ◌+◌, Bool, true, false, cond, List, [], ◌∷◌, ◌++◌, set, slice_get, Option, Some, None, sym, refl, ap, ap₂, ◌∙◌, subst, inl, inr, MatchBool}
use Rattle.fare_law.specs.declared.flights.Flight.{Flight}
use Rattle.fare_law.specs.declared.tickets.Piece.{Piece}
use Rattle.fare_law.specs.declared.requests.Request.{Request}
use Rattle.fare_law.specs.declared.requests.Slice.{Slice}
use Rattle.fare_law.specs.Book.{Book, live_fare, live_rule}
use Rattle.fare_law.specs.Lists.{Each, OnFirst, OnLast}
use Rattle.fare_law.specs.Limits.{HasKeys}
use Rattle.fare_law.specs.Names.{IsCarrier, IsBasis}
use Rattle.fare_law.specs.Parts.{Filed, StandsFor, price_of}
use Rattle.fare_law.specs.declared.moves.Move.{Move}
use Rattle.open_unit.specs.declared.units.OpenUnit.{OpenUnit}
use Rattle.flight_paths.specs.declared.positions.Position.{Position}
use Rattle.fare_law.specs.declared.moves.Role.{Role}
use Rattle.fare_law.specs.declared.moves.Role.TheVariants.{Alone, Opens, GoesOn, Closes}
use Rattle.open_unit.specs.OpenUnits.{gone_on}
use Rattle.flight_paths.specs.Positions.{Flies, LeadsTo, before_slice}
use Rattle.fare_law.specs.Flights.{Ascending}
use Rattle.residual_keys.specs.Residuals.{State, begins, closes, part_with, UnitStep, Moves, Run, no_part, LeadsFrom}
use Rattle.residual_keys.specs.NothingLost.{SameCompletions}
use Rattle.ticket_order.specs.Coding.{Coded}
use Rattle.residual_keys.proofs.Runs.{flies_numbers}
use Rattle.residual_keys.proofs.NothingLost.{run_ticket, ticket_run}
use Rattle.law_lemmas.proofs.LawFacts.{numbers_one}
use Rattle.law_lemmas.proofs.Options.{some_one}

leads_one : (b : Book) (sl : List Slice) (s : Slice) (at : Position) (f : Flight) (x y : Option Position) → LeadsTo b sl s at f x → LeadsTo b sl s at f y → x ≡ y
leads_one b sl s at f x y (inl h) (inl k) = h.1 ∙ sym k.1
leads_one b sl s at f x y (inl h) (inr k) = absurd (k.0 h.0)
leads_one b sl s at f x y (inr h) (inl k) = absurd (h.0 k.0)
leads_one b sl s at f x y (inr h) (inr k) = h.2 ∙ sym k.2

pub flies_one : (b : Book) (sl : List Slice) (s : Option Position) (ns : List ℕ) (fs : List Flight) (x y : Option Position) → Flies b sl s ns fs x → Flies b sl s ns fs y → x ≡ y
flies_one b sl s [] [] x y h k = h ∙ sym k
flies_one b sl s [] (f ∷ fs) x y h k = absurd h
flies_one b sl s (n ∷ ns) [] x y h k = absurd h
flies_one b sl None (n ∷ ns) (f ∷ fs) x y h k = absurd h
flies_one b sl (Some at) (n ∷ ns) (f ∷ fs) x y (s, is, t, next, leads, rest) (s', is', t', next', leads', rest') =
    let e : s ≡ s' = cc in
    let e' = leads_one b sl s at f next next' leads (subst (λ z. LeadsTo b sl z at f next') (sym e) leads') in
    flies_one b sl next ns fs x y rest (subst (λ z. Flies b sl z ns fs y) (sym e') rest')

pub first_one : {X : Type 0} (P Q : X → Type 0) (R : Type 0) → ((x : X) → P x → Q x → R) → (xs : List X) → OnFirst P xs → OnFirst Q xs → R
first_one P Q R f [] h k = absurd h
first_one P Q R f (x ∷ xs) h k = f x h k

pub last_one : {X : Type 0} (P Q : X → Type 0) (R : Type 0) → ((x : X) → P x → Q x → R) → (xs : List X) → OnLast P xs → OnLast Q xs → R
last_one P Q R f [] h k = absurd h
last_one P Q R f (x ∷ []) h k = f x h k
last_one P Q R f (x ∷ y ∷ ys) h k = last_one P Q R f (y ∷ ys) h k

pub direction : (r : Role) (s : ℕ) (us us' : List OpenUnit) (p : Piece) → UnitStep r s us p us' → p.reverse ≡ closes r
direction Alone s us us' p h = h.1.forward
direction Opens s us us' p h = h.1.forward
direction GoesOn s us us' p h = h.2.forward
direction Closes s us us' p h = h.2.1.reverse

pub filed_ends : (p : Piece) (r : Bool) → p.reverse ≡ r → Filed p → (p.fare.key.from ≡ cond r p.end p.begin) × (p.fare.key.to ≡ cond r p.begin p.end)
filed_ends p true e h = subst (λ r. MatchBool r ((p.fare.key.from ≡ p.end) × (p.fare.key.to ≡ p.begin)) ((p.fare.key.from ≡ p.begin) × (p.fare.key.to ≡ p.end))) e h
filed_ends p false e h = subst (λ r. MatchBool r ((p.fare.key.from ≡ p.end) × (p.fare.key.to ≡ p.begin)) ((p.fare.key.from ≡ p.begin) × (p.fare.key.to ≡ p.end))) e h

pub piece_one : (b : Book) (sale : ℤ) (fs : List Flight) (p q : Piece) (r : Bool) → StandsFor b sale p.fare.key fs p → StandsFor b sale q.fare.key fs q → p.reverse ≡ r → q.reverse ≡ r
    → p.fare.key.carrier ≡ q.fare.key.carrier → p.fare.key.basis ≡ q.fare.key.basis → p ≡ q
piece_one b sale fs p q r h k pr qr c a =
    let bg : (p.begin ≡ q.begin) × (p.first_day ≡ q.first_day) = first_one (λ f. (p.begin ≡ f.from) × (p.first_day ≡ f.day)) (λ f. (q.begin ≡ f.from) × (q.first_day ≡ f.day)) _ (λ f x y. (x.0 ∙ sym y.0, x.1 ∙ sym y.1)) fs h.begins k.begins in
    let en : (p.end ≡ q.end) × (p.last_day ≡ q.last_day) = last_one (λ f. (p.end ≡ f.to) × (p.last_day ≡ f.day)) (λ f. (q.end ≡ f.to) × (q.last_day ≡ f.day)) _ (λ f x y. (x.0 ∙ sym y.0, x.1 ∙ sym y.1)) fs h.ends k.ends in
    let pe = filed_ends p r pr h.filed in
    let qe = filed_ends q r qr k.filed in
    let from : p.fare.key.from ≡ q.fare.key.from = pe.0 ∙ ap₂ (λ x y. cond r x y) en.0 bg.0 ∙ sym qe.0 in
    let to : p.fare.key.to ≡ q.fare.key.to = pe.1 ∙ ap₂ (λ x y. cond r x y) bg.0 en.0 ∙ sym qe.1 in
    let key : p.fare.key ≡ q.fare.key = λ i. record { carrier = c i; from = from i; to = to i; basis = a i } in
    let fare : p.fare ≡ q.fare = some_one (live_fare b p.fare.key) p.fare q.fare h.fare (ap (live_fare b) key ∙ k.fare) in
    let rule : p.rule ≡ q.rule = some_one (live_rule b p.fare.key.carrier p.fare.rule) p.rule q.rule h.rule (ap₂ (live_rule b) c (ap (λ f. f.rule) fare) ∙ k.rule) in
    let rev : p.reverse ≡ q.reverse = pr ∙ sym qr in
    let sl : p.sale ≡ q.sale = h.sale_is ∙ sym k.sale_is in
    λ i. record { begin = bg.0 i; end = en.0 i; fare = fare i; rule = rule i; reverse = rev i; first_day = bg.1 i; last_day = en.1 i; sale = sl i }

pub units_one : (r : Role) (s : ℕ) (us x y : List OpenUnit) (p : Piece) → UnitStep r s us p x → UnitStep r s us p y → x ≡ y
units_one Alone s us x y p h k = h.2 ∙ sym k.2
units_one Opens s us x y p h k = h.3 ∙ sym k.3
units_one GoesOn s us x y p h k = h.3 ∙ ap (λ u. set us s (gone_on u p)) (some_one (slice_get us s) h.0 k.0 h.1 k.1) ∙ sym k.3
units_one Closes s us x y p h k = h.3 ∙ sym k.3

-- The flights, the fare, the position and the open units that a move leads to are one.
pub moves_one : (b : Book) (q : Request) (r : State) (m : Move) (fs gs : List Flight) (p p' : Piece) (next next' : Option Position) (us us' : List OpenUnit)
    → Moves b q r m fs p next us → Moves b q r m gs p' next' us' → (fs ≡ gs) × (p ≡ p') × (next ≡ next') × (us ≡ us')
moves_one b q r m fs gs p p' next next' us us' h k =
    let ef = numbers_one b m.flights fs gs (flies_numbers b q.slices (Some r.at) next m.flights fs h.path.flies) (flies_numbers b q.slices (Some r.at) next' m.flights gs k.path.flies) in
    let ep = piece_one b q.sale fs p p' (closes m.role) h.stands (subst (λ z. StandsFor b q.sale p'.fare.key z p') (sym ef) k.stands)
    (direction m.role m.slot r.units us p h.units) (direction m.role m.slot r.units us' p' k.units) (sym h.carrier ∙ k.carrier) (sym h.basis ∙ k.basis) in (
      ef,
      ep,
      flies_one b q.slices (Some r.at) m.flights fs next next' h.path.flies (subst (λ z. Flies b q.slices (Some r.at) m.flights z next') (sym ef) k.path.flies),
      units_one m.role m.slot r.units us us' p h.units (subst (λ z. UnitStep m.role m.slot r.units z us') (sym ep) k.units),
    )

abbrev pub Runs : Book → Request → State → List Move → Type 0
Runs b q r ms = (price : ℕ) × Run b q r ms price

pub more_run : (b : Book) (q : Request) (r : State) (m : Move) (ms : List Move) (fs : List Flight) (p : Piece) (at : Position) (us : List OpenUnit) → Moves b q r m fs p (Some at) us
    → Runs b q (record { at = at; units = us; part = part_with r.part (begins m.role) p }) ms → Runs b q r (m ∷ ms)
more_run b q r m [] fs p at us h k = absurd k.1
more_run b q r m (n ∷ ms) fs p at us h k = (price_of fs p + k.0, (fs, p, at, us, k.0, h, k.1, refl))

pub less_run : (b : Book) (q : Request) (r : State) (m : Move) (ms : List Move) (fs : List Flight) (p : Piece) (at : Position) (us : List OpenUnit) → Moves b q r m fs p (Some at) us
    → Runs b q r (m ∷ ms) → Runs b q (record { at = at; units = us; part = part_with r.part (begins m.role) p }) ms
less_run b q r m [] fs p at us h (price, (gs, p', mv, e)) =
    let o = moves_one b q r m fs gs p p' (Some at) None us [] h mv in
    absurd (some_none at o.2)
  where
    some_none : (at : Position) → Some at ≡ None → ⊥
    some_none at e = cc
less_run b q r m (n ∷ ms) fs p at us h (price, (gs, p', at', us', rest, mv, run, e)) =
    let o = moves_one b q r m fs gs p p' (Some at) (Some at') us us' h mv in
    let a : at ≡ at' = same at at' o.2 in
    let s : (let x : State = record { at = at'; units = us'; part = part_with r.part (begins m.role) p' } in x) ≡ record { at = at; units = us; part = part_with r.part (begins m.role) p }
    = λ i. record { at = sym a i; units = sym o.3 i; part = part_with r.part (begins m.role) (sym o.1 i) } in
    (rest, subst (λ x. Run b q x (n ∷ ms) rest) s run)
  where
    same : (x y : Position) → Some x ≡ Some y → x ≡ y
    same x y e = cc

pub leads_run : (b : Book) (q : Request) (r x : State) (ms rest : List Move) → LeadsFrom b q r ms x → Runs b q x rest → Runs b q r (ms ++ rest)
leads_run b q r x [] rest h k = subst (λ z. Runs b q z rest) h k
leads_run b q r x (m ∷ ms) rest (fs, p, at, us, mv, h) k = more_run b q r m (ms ++ rest) fs p at us mv (leads_run b q (record { at = at; units = us; part = part_with r.part (begins m.role) p }) x ms rest h k)

pub run_leads : (b : Book) (q : Request) (r x : State) (ms rest : List Move) → LeadsFrom b q r ms x → Runs b q r (ms ++ rest) → Runs b q x rest
run_leads b q r x [] rest h k = subst (λ z. Runs b q z rest) (sym h) k
run_leads b q r x (m ∷ ms) rest (fs, p, at, us, mv, h) k = run_leads b q (record { at = at; units = us; part = part_with r.part (begins m.role) p }) x ms rest h (less_run b q r m (ms ++ rest) fs p at us mv k)

pub same_completions : (b : Book) (q : Request) → Ascending b.timetable.flights → SameCompletions b q
same_completions b q asc ms ms' rest x (at, root, h) (at', root', h') (t, law, e) =
    let run = ticket_run b q t law in
    let one : (at'' : Position) → before_slice b 0 (slice_get q.slices 0) None ≡ Some at'' → at'' ≡ at = λ z w. some_one (before_slice b 0 (slice_get q.slices 0) None) z at w root in
    let k : Runs b q (record { at = at; units = []; part = no_part }) (ms ++ rest) = (run.0, subst (λ z. Run b q (record { at = z; units = []; part = no_part }) (ms ++ rest) run.0) (one run.1.0 run.1.1) (subst (λ z. Run b q (record { at = run.1.0; units = []; part = no_part }) z run.0) e run.1.2)) in
    let o = leads_run b q (record { at = at'; units = []; part = no_part }) x ms' rest h' (run_leads b q (record { at = at; units = []; part = no_part }) x ms rest h k) in
    let u = run_ticket b q asc (ms' ++ rest) o.0 (at', root', o.1) in
    (u.0, u.1, u.2)

pub leads_to_one : (b : Book) (q : Request) (r x y : State) (ms : List Move) → LeadsFrom b q r ms x → LeadsFrom b q r ms y → x ≡ y
leads_to_one b q r x y [] h k = h ∙ sym k
leads_to_one b q r x y (m ∷ ms) (fs, p, at, us, mv, h) (gs, p', at', us', mv', k) =
    let o = moves_one b q r m fs gs p p' (Some at) (Some at') us us' mv mv' in
    let a : at ≡ at' = some_same at at' o.2 in
    let s : (let x : State = record { at = at'; units = us'; part = part_with r.part (begins m.role) p' } in x) ≡ record { at = at; units = us; part = part_with r.part (begins m.role) p }
    = λ i. record { at = sym a i; units = sym o.3 i; part = part_with r.part (begins m.role) (sym o.1 i) } in
    leads_to_one b q (record { at = at; units = us; part = part_with r.part (begins m.role) p }) x y ms h (subst (λ z. LeadsFrom b q z ms y) s k)
  where
    some_same : (x y : Position) → Some x ≡ Some y → x ≡ y
    some_same x y e = cc

move_has_key : (b : Book) (q : Request) → HasKeys b → (x : State) (m : Move) (fs : List Flight) (p : Piece) (next : Option Position) (us : List OpenUnit) → Moves b q x m fs p next us → Coded m
move_has_key b q keys x m fs p next us mv = let k = keys p.fare.key p.fare mv.stands.fare in (subst IsCarrier (sym mv.carrier) k.0, subst IsBasis (sym mv.basis) k.1)

-- the live fares' keys are the moves'
pub run_has_keys : (b : Book) (q : Request) → HasKeys b → (x : State) (ms : List Move) (price : ℕ) → Run b q x ms price → Each Coded ms
run_has_keys b q keys x [] price run = absurd run
run_has_keys b q keys x (m ∷ []) price (fs, p, mv, e) = (move_has_key b q keys x m fs p None [] mv, tt)
run_has_keys b q keys x (m ∷ n ∷ ms) price (fs, p, at, us, rest, mv, run, e) =
    (move_has_key b q keys x m fs p (Some at) us mv, run_has_keys b q keys (record { at = at; units = us; part = part_with x.part (begins m.role) p }) (n ∷ ms) rest run)
