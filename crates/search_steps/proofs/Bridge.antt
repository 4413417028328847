-- The landed runs, reached states and least prices are the walk's. Given on to the crates above.
use Rattle.std.proofs.Common.{◌≡◌, ◌↔◌, ℕ, ◌+◌, ◌≤◌, ◌<◌, List, [], ◌∷◌, ◌++◌, length, Option, Some, None, refl, sym, ap, subst, ⊎_elim, arith, slice_get, IfSome}
use Rattle.graph_walk.specs.declared.outcome.Outcome.{Outcome}
use Rattle.graph_walk.specs.Steps.{LeadToLive}
use Rattle.fare_law.specs.declared.flights.Flight.{Flight}
use Rattle.fare_law.specs.declared.moves.Move.{Move}
use Rattle.fare_law.specs.declared.requests.Request.{Request}
use Rattle.fare_law.specs.declared.tickets.Piece.{Piece}
use Rattle.fare_law.specs.Book.{Book}
use Rattle.fare_law.specs.Lists.{IsIn}
use Rattle.fare_law.specs.Parts.{price_of}
use Rattle.flight_paths.specs.declared.positions.Position.{Position}
use Rattle.flight_paths.specs.Positions.{before_slice}
use Rattle.open_unit.specs.declared.units.OpenUnit.{OpenUnit}
use Rattle.residual_keys.specs.declared.residual.Next.{Next}
use Rattle.residual_keys.specs.declared.residual.Next.TheVariants.{At, Done}
use Rattle.residual_keys.specs.Residuals.{State, Moves, Run, LeadsFrom, begins, part_with, no_part}
use Rattle.residual_keys.specs.Searches.{Reached as LandedReached, Least}
use Rattle.residual_keys.specs.Short.{MoveGoesOn, ReachedFits}
use Rattle.residual_keys.specs.Steps.{IsChosen, left_at}
use Rattle.graph_walk.specs.Walks.{AreReached, Reached, Costs, IsShort, LeastBy}
use Rattle.graph_walk.specs.Walks.Reached.{here, further}
use Rattle.graph_walk.specs.Walks.Costs.{over, goes}
use Rattle.search_steps.specs.Leads.{next_of, leads_of, level_of, IsRoot, MovesCostLess}

-- a move that goes on, and one that ends
pub move_on : (b : Book) (q : Request) (x : State) (m : Move) (fs : List Flight) (p : Piece) (at : Position) (us : List OpenUnit) → Moves b q x m fs p (Some at) us
    → leads_of b q x (Some (record { at = at; units = us; part = part_with x.part (begins m.role) p })) (price_of fs p)
move_on b q x m fs p at us h = (m, record { flights = fs; piece = p; after = Some at; units = us; moves = h; costs = refl; left = refl })

pub move_ends : (b : Book) (q : Request) (x : State) (m : Move) (fs : List Flight) (p : Piece) → Moves b q x m fs p None [] → leads_of b q x None (price_of fs p)
move_ends b q x m fs p h = (m, record { flights = fs; piece = p; after = None; units = []; moves = h; costs = refl; left = refl })

-- a run has its costs
pub run_costs : (b : Book) (q : Request) (ms : List Move) (x : State) (price : ℕ) → Run b q x ms price → Costs (leads_of b q) (Some x) price
run_costs b q [] x price h = absurd h
run_costs b q (m ∷ []) x price h = goes x None (price_of h.0 h.1) 0 price (move_ends b q x m h.0 h.1 h.2) (over 0 refl) (let e = h.3 in omega (arith, e))
run_costs b q (m ∷ n ∷ ms) x price h =
    let y : State = record { at = h.2; units = h.3; part = part_with x.part (begins m.role) h.1 } in
    goes x (Some y) (price_of h.0 h.1) h.4 price (move_on b q x m h.0 h.1 h.2 h.3 h.5) (run_costs b q (n ∷ ms) y h.4 h.6) h.7

-- what a move leaves, opened
data Opened (b : Book) (q : Request) (x : State) (m : Move) (price : ℕ) (next : Next) : Type 0 where
  ends : (fs : List Flight) (p : Piece) (us : List OpenUnit) → Moves b q x m fs p None us → price ≡ price_of fs p → next ≡ Done → Opened b q x m price next
  leads : (fs : List Flight) (p : Piece) (at : Position) (us : List OpenUnit) → Moves b q x m fs p (Some at) us → price ≡ price_of fs p → next ≡ At (record { at = at; units = us; part = part_with x.part (begins m.role) p }) → Opened b q x m price next

opened_by : (b : Book) (q : Request) (x : State) (m : Move) (price : ℕ) (next : Next) (fs : List Flight) (p : Piece) (after : Option Position) (us : List OpenUnit)
    → Moves b q x m fs p after us → price ≡ price_of fs p → next ≡ left_at after us (part_with x.part (begins m.role) p) → Opened b q x m price next
opened_by b q x m price next fs p None us h e l = ends fs p us h e l
opened_by b q x m price next fs p (Some at) us h e l = leads fs p at us h e l

opened : (b : Book) (q : Request) (x : State) (m : Move) (price : ℕ) (next : Next) → IsChosen b q x (record { mv = m; price = price; next = next }) → Opened b q x m price next
opened b q x m price next c = opened_by b q x m price next c.flights c.piece c.after c.units c.moves c.costs c.left

-- a run, at this price, from what is left; none where the end is left
abbrev RunIf : Book → Request → Option State → ℕ → Type 0
RunIf b q None price = price ≡ 0
RunIf b q (Some x) price = (ms : List Move) × Run b q x ms price

pub not_done : (x : State) → At x ≡ Done → ⊥
not_done x e = cc

pub not_at : (x : State) → Done ≡ At x → ⊥
not_at x e = cc

pub same_at : (x y : State) → At x ≡ At y → x ≡ y
same_at x y e = cc

run_ends : (b : Book) (q : Request) (x : State) (m : Move) (move rest price : ℕ) → Opened b q x m move Done → rest ≡ 0 → price ≡ move + rest → Run b q x (m ∷ []) price
run_ends b q x m move rest price (ends fs p us h e l) z s = (fs, p, subst (λ v. Moves b q x m fs p None v) h.done h, omega (arith, e, z, s))
run_ends b q x m move rest price (leads fs p at us h e l) z s = absurd (not_at _ l)

run_on : (b : Book) (q : Request) (x y : State) (m : Move) (ms : List Move) (move rest price : ℕ) → Opened b q x m move (At y) → Run b q y ms rest → price ≡ move + rest → Run b q x (m ∷ ms) price
run_on b q x y m [] move rest price o r s = absurd r
run_on b q x y m (n ∷ ms) move rest price (ends fs p us h e l) r s = absurd (not_done y l)
run_on b q x y m (n ∷ ms) move rest price (leads fs p at us h e l) r s =
    (fs, p, at, us, rest, h, subst (λ z. Run b q z (n ∷ ms) rest) (same_at y (record { at = at; units = us; part = part_with x.part (begins m.role) p }) l) r, omega (arith, e, s))

-- a move that ends the journey is a run, and one that leads on a longer run
pub chosen_ends : (b : Book) (q : Request) (x : State) (m : Move) (price total : ℕ) → IsChosen b q x (record { mv = m; price = price; next = Done }) → total ≡ price → Run b q x (m ∷ []) total
chosen_ends b q x m price total c e = run_ends b q x m price 0 total (opened b q x m price Done c) refl (omega (arith, e))

pub chosen_on : (b : Book) (q : Request) (x y : State) (m : Move) (ms : List Move) (price rest total : ℕ) → IsChosen b q x (record { mv = m; price = price; next = At y }) → Run b q y ms rest → total ≡ price + rest → Run b q x (m ∷ ms) total
chosen_on b q x y m ms price rest total c run e = run_on b q x y m ms price rest total (opened b q x m price (At y) c) run e

run_goes : (b : Book) (q : Request) (x : State) (next : Option State) (move rest price : ℕ) → leads_of b q x next move → RunIf b q next rest → price ≡ move + rest → RunIf b q (Some x) price
run_goes b q x None move rest price l r s = (l.0 ∷ [], run_ends b q x l.0 move rest price (opened b q x l.0 move Done l.1) r s)
run_goes b q x (Some y) move rest price l r s = (l.0 ∷ r.0, run_on b q x y l.0 r.0 move rest price (opened b q x l.0 move (At y) l.1) r.1 s)

run_if : (b : Book) (q : Request) (at : Option State) (price : ℕ) → Costs (leads_of b q) at price → RunIf b q at price
run_if b q _ price (over _ e) = e
run_if b q _ price (goes x next move rest _ l c s) = run_goes b q x next move rest price l (run_if b q next rest c) s

pub costs_run : (b : Book) (q : Request) (x : State) (price : ℕ) → Costs (leads_of b q) (Some x) price → (ms : List Move) × Run b q x ms price
costs_run b q x price c = run_if b q (Some x) price c

-- least prices are the landed ones
pub least_is : (b : Book) (q : Request) (x : State) (bound : Option ℕ) → LeastBy (Costs (leads_of b q) (Some x)) bound → Least b q x bound
least_is b q x None h = λ ms price r. h price (run_costs b q ms x price r)
least_is b q x (Some least) h = (costs_run b q x least h.0, λ ms other r. h.1 other (run_costs b q ms x other r))

-- lists of moves lead to what is reached
leads_reach : (b : Book) (q : Request) (root : State) (ms : List Move) (r x : State) → Reached (leads_of b q) root r → LeadsFrom b q r ms x → Reached (leads_of b q) root x
leads_reach b q root [] r x h e = subst (λ z. Reached (leads_of b q) root z) (sym e) h
leads_reach b q root (m ∷ ms) r x h l =
    let y : State = record { at = l.2; units = l.3; part = part_with r.part (begins m.role) l.1 } in
    leads_reach b q root ms y x (further r y (price_of l.0 l.1) h (move_on b q r m l.0 l.1 l.2 l.3 l.4)) l.5

-- one more move
leads_more : (b : Book) (q : Request) (ms : List Move) (r x : State) (m : Move) (fs : List Flight) (p : Piece) (at : Position) (us : List OpenUnit) → LeadsFrom b q r ms x → Moves b q x m fs p (Some at) us
    → LeadsFrom b q r (ms ++ m ∷ []) (record { at = at; units = us; part = part_with x.part (begins m.role) p })
leads_more b q [] r x m fs p at us e h = subst (λ z. LeadsFrom b q z (m ∷ []) (record { at = at; units = us; part = part_with x.part (begins m.role) p })) e (fs, p, at, us, h, refl)
leads_more b q (n ∷ ms) r x m fs p at us l h = (l.0, l.1, l.2, l.3, l.4, leads_more b q ms _ x m fs p at us l.5 h)

lead_one : (b : Book) (q : Request) (r x y : State) (ms : List Move) (m : Move) (move : ℕ) → LeadsFrom b q r ms x → Opened b q x m move (At y) → (ns : List Move) × LeadsFrom b q r ns y
lead_one b q r x y ms m move l (ends fs p us h e d) = absurd (not_done y d)
lead_one b q r x y ms m move l (leads fs p at us h e d) =
    (ms ++ m ∷ [], subst (λ z. LeadsFrom b q r (ms ++ m ∷ []) z) (sym (same_at y (record { at = at; units = us; part = part_with x.part (begins m.role) p }) d)) (leads_more b q ms r x m fs p at us l h))

reach_leads : (b : Book) (q : Request) (root x : State) → Reached (leads_of b q) root x → (ms : List Move) × LeadsFrom b q root ms x
reach_leads b q root _ here = ([], refl)
reach_leads b q root _ (further x y price r l) = let h = reach_leads b q root x r in lead_one b q root x y h.0 l.0 price h.1 (opened b q x l.0 price (At y) l.1)

root_is : (b : Book) (q : Request) (root : State) (at : Position) → IsRoot b q root → before_slice b 0 (slice_get q.slices 0) None ≡ Some at → root ≡ record { at = at; units = []; part = no_part }
root_is b q root at h e = let s : root.at ≡ at = cc in let u = h.0 in let p = h.1 in let r : ◌≡◌ {A = State} (record { at = root.at; units = root.units; part = root.part }) (record { at = at; units = []; part = no_part }) = cc in r

pub reached_is : (b : Book) (q : Request) (root x : State) → IsRoot b q root → Reached (leads_of b q) root x ↔ LandedReached b q x
reached_is b q root x is = (
  λ r. let h = reach_leads b q root x r in
      (h.0, (root.at, is.2, subst (λ z. LeadsFrom b q z h.0 x) (root_is b q root root.at is is.2) h.1)),
  λ h. let l = h.1 in leads_reach b q root h.0 root x here (subst (λ z. LeadsFrom b q z h.0 x) (sym (root_is b q root l.0 is l.1)) l.2),
)

-- levels rise to 17
raised : (b : Book) (q : Request) → MoveGoesOn b q → (x y : State) (m : Move) (price : ℕ) → x.at.leg ≤ 2 → Opened b q x m price (At y) → level_of x < level_of y
raised b q goes_on x y m price low (ends fs p us h e d) = absurd (not_done y d)
raised b q goes_on x y m price low (leads fs p at us h e d) =
    let same = same_at y (record { at = at; units = us; part = part_with x.part (begins m.role) p }) d in
    let slice = ap (λ z. z.at.slice) same in
    let leg = ap (λ z. z.at.leg) same in
    ⊎_elim (λ f. omega (arith, f, low, slice, leg)) (λ f. let s = f.0 in let l = f.1 in omega (arith, s, l, slice, leg)) (goes_on x m fs p at us h).0

pub short_is : (b : Book) (q : Request) (root : State) → IsRoot b q root → length q.slices ≤ 6 → MoveGoesOn b q → ReachedFits b q → MovesCostLess b q 4294967296 → IsShort (leads_of b q) level_of root
short_is b q root is six goes_on fits low = record {
  raises = λ x y price r l. raised b q goes_on x y l.0 price (fits x ((reached_is b q root x is).0 r)).leg (opened b q x l.0 price (At y) l.1);
  few = λ x r. let f = fits x ((reached_is b q root x is).0 r) in let s = f.slice in let g = f.leg in omega (arith, s, g, six);
  low = λ x next price r l. low x (record { mv = l.0; price = price; next = next_of next }) l.1;
}

-- so the states of the walk's rows are exactly the landed ones that are reached
pub found_is : (b : Book) (q : Request) (root : State) (found : List State) → IsRoot b q root → AreReached (leads_of b q) root found → (x : State) → IsIn x found ↔ LandedReached b q x
found_is b q root found is h x = let r = reached_is b q root x is in (λ i. r.0 ((h.are x).0 i), λ l. (h.are x).1 (r.1 l))

pub live_more : {K : Type 0} (live : K → Type 0) (os : List (Outcome K)) (o : Outcome K) → LeadToLive live os → IfSome o.next live → LeadToLive live (os ++ o ∷ [])
live_more live [] o all h = (h, tt)
live_more live (z ∷ os) o all h = (all.0, live_more live os o all.1 h)
