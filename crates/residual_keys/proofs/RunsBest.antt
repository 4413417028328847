-- The k least runs from the root, as tickets, are the best tickets. Given on to the crates above.
use Rattle.std.proofs.Common.{◌≡◌, suc, ◌≤◌, List, [], ◌∷◌, length, sym, refl, ap, ◌∙◌, subst, inl, inr}
use Rattle.fare_law.specs.declared.requests.Request.{Request}
use Rattle.fare_law.specs.declared.tickets.Ticket.{Ticket}
use Rattle.fare_law.specs.Book.{Book}
use Rattle.fare_law.specs.Lawful.{Lawful}
use Rattle.fare_law.specs.Lists.{Each, EachPair, Matched, IsIn}
use Rattle.fare_law.specs.Best.{Before, Cheaper, Best}
use Rattle.fare_law.specs.Codes.{code, run_code}
use Rattle.fare_law.specs.Flights.{Ascending}
use Rattle.fare_law.specs.Moves.{moves_of}
use Rattle.residual_keys.specs.Searches.{Drawn, IsDrawn, DrawnBefore, BestRuns, TicketOf}
use Rattle.residual_keys.proofs.NothingLost.{run_ticket, ticket_run}
use Rattle.residual_keys.proofs.OneTicket.{ticket_one}

-- each drawn run has its ticket
pub tickets_of : (b : Book) (q : Request) → Ascending b.timetable.flights → (ds : List Drawn) → Each (IsDrawn b q) ds → (ts : List Ticket) × Matched (TicketOf b q) ds ts
tickets_of b q asc [] h = ([], tt)
tickets_of b q asc (d ∷ ds) h =
    let t = run_ticket b q asc d.moves d.price h.0 in
    let r = tickets_of b q asc ds h.1 in
    (t.0 ∷ r.0, ((t.1, t.2, t.3), r.1))

code_is : (b : Book) (q : Request) (d : Drawn) (t : Ticket) → TicketOf b q d t → run_code d.moves ≡ code t
code_is b q d t h = ap run_code (sym h.1)

pub cheaper : (b : Book) (q : Request) (d e : Drawn) (t u : Ticket) → TicketOf b q d t → TicketOf b q e u → DrawnBefore d e → Cheaper b q t u
cheaper b q d e t u h k w = (d.price, e.price, h.2, k.2, subst (λ z. Before d.price z e.price (code u)) (code_is b q d t h) (subst (λ z. Before d.price (run_code d.moves) e.price z) (code_is b q e u k) w))

pairs : (b : Book) (q : Request) (ds : List Drawn) (ts : List Ticket) → Matched (TicketOf b q) ds ts → EachPair DrawnBefore ds → EachPair (Cheaper b q) ts
pairs b q [] [] m h = tt
pairs b q [] (t ∷ ts) m h = absurd m
pairs b q (d ∷ ds) [] m h = absurd m
pairs b q (d ∷ []) (t ∷ []) m h = tt
pairs b q (d ∷ []) (t ∷ u ∷ ts) m h = absurd m.1
pairs b q (d ∷ e ∷ ds) (t ∷ []) m h = absurd m.1
pairs b q (d ∷ e ∷ ds) (t ∷ u ∷ ts) m h = (cheaper b q d e t u m.0 m.1.0 h.0, pairs b q (e ∷ ds) (u ∷ ts) m.1 h.1)

lawfuls : (b : Book) (q : Request) (ds : List Drawn) (ts : List Ticket) → Matched (TicketOf b q) ds ts → Each (λ t. Lawful t b q) ts
lawfuls b q [] [] m = tt
lawfuls b q [] (t ∷ ts) m = absurd m
lawfuls b q (d ∷ ds) [] m = absurd m
lawfuls b q (d ∷ ds) (t ∷ ts) m = (m.0.0, lawfuls b q ds ts m.1)

lengths : (b : Book) (q : Request) (ds : List Drawn) (ts : List Ticket) → Matched (TicketOf b q) ds ts → length ts ≡ length ds
lengths b q [] [] m = refl
lengths b q [] (t ∷ ts) m = absurd m
lengths b q (d ∷ ds) [] m = absurd m
lengths b q (d ∷ ds) (t ∷ ts) m = ap suc (lengths b q ds ts m.1)

-- a lawful ticket whose run is drawn is one of the tickets
drawn_in : (b : Book) (q : Request) (e : Drawn) (u : Ticket) → TicketOf b q e u → (ds : List Drawn) (ts : List Ticket) → Matched (TicketOf b q) ds ts → IsIn e ds → IsIn u ts
drawn_in b q e u h [] ts m i = absurd i
drawn_in b q e u h (d ∷ ds) [] m i = absurd m
drawn_in b q e u h (d ∷ ds) (t ∷ ts) m (inl s) = inl (ticket_one b q u t h.0 m.0.0 (h.1 ∙ ap (λ z. z.moves) s ∙ sym m.0.1))
drawn_in b q e u h (d ∷ ds) (t ∷ ts) m (inr i) = inr (drawn_in b q e u h ds ts m.1 i)

below : (b : Book) (q : Request) (e : Drawn) (u : Ticket) → TicketOf b q e u → (ds : List Drawn) (ts : List Ticket) → Matched (TicketOf b q) ds ts → Each (λ d. DrawnBefore d e) ds → Each (λ t. Cheaper b q t u) ts
below b q e u h [] [] m w = tt
below b q e u h [] (t ∷ ts) m w = absurd m
below b q e u h (d ∷ ds) [] m w = absurd m
below b q e u h (d ∷ ds) (t ∷ ts) m w = (cheaper b q d e t u m.0 h w.0, below b q e u h ds ts m.1 w.1)

pub runs_best : (b : Book) (q : Request) (ds : List Drawn) (ts : List Ticket) → BestRuns b q q.best ds → Matched (TicketOf b q) ds ts → Best b q ts
runs_best b q ds ts best m = record {
  ascending = pairs b q ds ts m best.ascending;
  each = lawfuls b q ds ts m;
  few = subst (λ n. n ≤ q.best) (sym (lengths b q ds ts m)) best.few;
  rest = λ u law out.
      let run = ticket_run b q u law in
      let e : Drawn = record { price = run.0; moves = moves_of u } in
      let r = best.rest e run.1 (λ i. out (drawn_in b q e u (law, refl, run.2) ds ts m i)) in
      (below b q e u (law, refl, run.2) ds ts m r.0, lengths b q ds ts m ∙ r.1);
}

-- The k least runs have their tickets, and these are the best.
pub best_tickets : (b : Book) (q : Request) → Ascending b.timetable.flights → (ds : List Drawn) → BestRuns b q q.best ds → (ts : List Ticket) × Matched (TicketOf b q) ds ts × Best b q ts
best_tickets b q asc ds best = let r = tickets_of b q asc ds best.each in (r.0, r.1, runs_best b q ds r.0 best r.1)
