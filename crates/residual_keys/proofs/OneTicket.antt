-- Moves are those of one lawful ticket. Given on to the crates above.
use Rattle.std.proofs.Common.{◌≡◌, ℕ, ℤ, Bool, true, false, cond, List, [], ◌∷◌, ◌++◌, map, set, remove, sym, refl, ap, ap₂, ◌∙◌, subst}
use Rattle.fare_law.specs.declared.tickets.Component.{Component}
use Rattle.fare_law.specs.declared.fares.FareKey.{FareKey}
use Rattle.fare_law.specs.declared.flights.Flight.{Flight}
use Rattle.fare_law.specs.declared.tickets.Piece.{Piece}
use Rattle.fare_law.specs.declared.requests.Request.{Request}
use Rattle.fare_law.specs.declared.tickets.Ticket.{Ticket}
use Rattle.fare_law.specs.Book.{Book}
use Rattle.fare_law.specs.Lawful.{Lawful}
use Rattle.fare_law.specs.Parts.{Part, IsPart, Numbers, StandsFor}
use Rattle.fare_law.specs.Lists.{Matched}
use Rattle.open_unit.specs.declared.units.OpenUnit.{OpenUnit}
use Rattle.open_unit.specs.OpenUnits.{opened, gone_on, unit_steps}
use Rattle.fare_law.specs.Moves.{move_of, moves_after, moves_of}
use Rattle.residual_keys.proofs.NothingLost.{ticket_sides}
use Rattle.ticket_order.proofs.LiveKeys.{live_key}
use Rattle.residual_keys.proofs.OneNext.{filed_ends, first_one, last_one}
use Rattle.residual_keys.proofs.Runs.{mark_of}
use Rattle.residual_keys.proofs.Wholes.{pieces}
use Rattle.unit_labels.specs.Labels.{LabelRun, Part as Mark, Alone as StaysAlone, Opens as Opening, GoesOn as GoingOn, Closes as Closing}
use Rattle.unit_labels.specs.UnitRuns.{UnitRun}
use Rattle.unit_labels.proofs.LabelLaw.{label_laws}
use Rattle.law_lemmas.proofs.LawFacts.{numbers_one}

ends' : Mark → Bool
ends' StaysAlone = false
ends' Opening = false
ends' (GoingOn s) = false
ends' (Closing s) = true

abbrev Directed : Mark → Piece → Type 0
Directed m p = p.reverse ≡ ends' m

directions : (us : List OpenUnit) (ms : List Mark) (ps : List Piece) → UnitRun unit_steps us ms ps → Matched Directed ms ps
unfolding ends'
directions us [] [] h = tt
directions us [] (p ∷ ps) h = absurd h
directions us (m ∷ ms) [] h = absurd h
directions us (StaysAlone ∷ ms) (p ∷ ps) h = (h.0.forward, directions us ms ps h.1)
directions us (Opening ∷ ms) (p ∷ ps) h = (h.0.forward, directions (us ++ opened p ∷ []) ms ps h.2)
directions us (GoingOn s ∷ ms) (p ∷ ps) h = (h.2.forward, directions (set us s (gone_on h.0 p)) ms ps h.3)
directions us (Closing s ∷ ms) (p ∷ ps) h = (h.2.1.reverse, directions (remove us s) ms ps h.3)

fare_one : (b : Book) (sale : ℤ) (fs : List Flight) (k l : FareKey) (p q : Piece) (r : Bool) → StandsFor b sale k fs p → StandsFor b sale l fs q → p.reverse ≡ r → q.reverse ≡ r → k.carrier ≡ l.carrier → k.basis ≡ l.basis → k ≡ l
fare_one b sale fs k l p q r h j pr qr c a =
    let bg : p.begin ≡ q.begin = first_one (λ f. (p.begin ≡ f.from) × (p.first_day ≡ f.day)) (λ f. (q.begin ≡ f.from) × (q.first_day ≡ f.day)) _ (λ f x y. x.0 ∙ sym y.0) fs h.begins j.begins in
    let en : p.end ≡ q.end = last_one (λ f. (p.end ≡ f.to) × (p.last_day ≡ f.day)) (λ f. (q.end ≡ f.to) × (q.last_day ≡ f.day)) _ (λ f x y. x.0 ∙ sym y.0) fs h.ends j.ends in
    let pe = filed_ends p r pr h.filed in
    let qe = filed_ends q r qr j.filed in
    let kp = live_key b k p.fare h.fare in
    let lq = live_key b l q.fare j.fare in
    let from : k.from ≡ l.from = ap (λ z. z.from) (sym kp) ∙ pe.0 ∙ ap₂ (λ x y. cond r x y) en bg ∙ sym qe.0 ∙ ap (λ z. z.from) lq in
    let to : k.to ≡ l.to = ap (λ z. z.to) (sym kp) ∙ pe.1 ∙ ap₂ (λ x y. cond r x y) bg en ∙ sym qe.1 ∙ ap (λ z. z.to) lq in
    λ i. record { carrier = c i; from = from i; to = to i; basis = a i }

components_one : (b : Book) (q : Request) (before before' : List ℕ) (cs ds : List Component) (ps qs : List Part) (ms : List Mark)
    → moves_after before cs ≡ moves_after before' ds → map (λ d. d.unit) cs ≡ map (λ d. d.unit) ds → Matched (IsPart b q) cs ps → Matched (IsPart b q) ds qs
    → Matched Directed ms (pieces ps) → Matched Directed ms (pieces qs) → cs ≡ ds
components_one b q before before' [] [] ps qs ms e u h k d f = refl
components_one b q before before' [] (y ∷ ds) ps qs ms e u h k d f = cc
components_one b q before before' (x ∷ cs) [] ps qs ms e u h k d f = cc
components_one b q before before' (x ∷ cs) (y ∷ ds) [] qs ms e u h k d f = absurd h
components_one b q before before' (x ∷ cs) (y ∷ ds) (p ∷ ps) [] ms e u h k d f = absurd k
components_one b q before before' (x ∷ cs) (y ∷ ds) (p ∷ ps) (r ∷ qs) [] e u h k d f = absurd d
components_one b q before before' (x ∷ cs) (y ∷ ds) (p ∷ ps) (r ∷ qs) (m ∷ ms) e u h k d f =
    let head : move_of before x (map (λ z. z.unit) cs) ≡ move_of before' y (map (λ z. z.unit) ds) = cc in
    let tail : moves_after (before ++ x.unit ∷ []) cs ≡ moves_after (before' ++ y.unit ∷ []) ds = cc in
    let unit : x.unit ≡ y.unit = cc in
    let units : map (λ z. z.unit) cs ≡ map (λ z. z.unit) ds = cc in
    let fl : x.flights ≡ y.flights = ap (λ z. z.flights) head in
    let fs : p.flights ≡ r.flights = numbers_one b x.flights p.flights r.flights h.0.flights (subst (λ z. Numbers b z r.flights) (sym fl) k.0.flights) in
    let fare : x.fare ≡ y.fare = fare_one b q.sale p.flights x.fare y.fare p.piece r.piece (ends' m) h.0.stands (subst (λ z. StandsFor b q.sale y.fare z r.piece) (sym fs) k.0.stands) d.0 f.0 (ap (λ z. z.carrier) head) (ap (λ z. z.basis) head) in
    ap₂ (λ z zs. z ∷ zs) (λ i. record { flights = fl i; fare = fare i; unit = unit i }) (components_one b q (before ++ x.unit ∷ []) (before' ++ y.unit ∷ []) cs ds ps qs ms tail units h.1 k.1 d.1 f.1)

-- Two lawful tickets with the same moves are one.
pub ticket_one : (b : Book) (q : Request) (t u : Ticket) → Lawful t b q → Lawful u b q → moves_of t ≡ moves_of u → t ≡ u
ticket_one b q t u (ps, m, law, some) (qs, m', law', some') e =
    let s = ticket_sides b q t ps m law some in
    let s' = ticket_sides b q u qs m' law' some' in
    let marks : map mark_of (moves_of u) ≡ map mark_of (moves_of t) = ap (map mark_of) (sym e) in
    let labels = label_laws.one (map mark_of (moves_of t)) (map (λ d. d.unit) t.components) (map (λ d. d.unit) u.components) s.label_run (subst (λ z. LabelRun 0 [] z (map (λ d. d.unit) u.components)) marks s'.label_run) in
    let d = directions [] (map mark_of (moves_of t)) (pieces ps) s.unit_run in
    let d' = directions [] (map mark_of (moves_of t)) (pieces qs) (subst (λ z. UnitRun unit_steps [] z (pieces qs)) marks s'.unit_run) in
    let same = components_one b q [] [] t.components u.components ps qs (map mark_of (moves_of t)) e labels m m' d d' in
    λ i. record { components = same i }
