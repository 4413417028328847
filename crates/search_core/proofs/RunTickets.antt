-- The tickets of runs, and the answer that they make with the rows of a graph.
use Rattle.std.proofs.Common.{◌≡◌, ℕ, zero, suc, slice_get, ◌+◌, ◌≤◌, ◌<◌, List, [], ◌∷◌, ◌++◌, length, map, take, get_or, take-suc, refl, sym, ap, subst, ◌∙◌, Some, arith}
use Rattle.certificate.specs.AnswerCheck.{AnswerIs, run_of}
use Rattle.certificate.specs.CertOf.{RowsAre}
use Rattle.certificate.specs.declared.parts.CertAnswer.{CertAnswer}
use Rattle.fare_law.specs.declared.flights.Flight.{Flight}
use Rattle.fare_law.specs.declared.moves.Move.{Move}
use Rattle.fare_law.specs.declared.requests.Request.{Request}
use Rattle.fare_law.specs.declared.requests.Slice.{Slice}
use Rattle.fare_law.specs.declared.tickets.Priced.{Priced}
use Rattle.fare_law.specs.declared.tickets.Ticket.{Ticket}
use Rattle.fare_law.specs.Best.{Best, Costs}
use Rattle.fare_law.specs.Book.{Book}
use Rattle.fare_law.specs.Lawful.{Lawful}
use Rattle.fare_law.specs.Lists.{Each, Matched}
use Rattle.fare_law.specs.Moves.{moves_of}
use Rattle.pricing_graph.specs.declared.drawn.DrawnRun.{DrawnRun}
use Rattle.pricing_graph.specs.DrawnRuns.{run_of_drawn}
use Rattle.residual_keys.specs.NothingLost.{RunsAreTickets}
use Rattle.residual_keys.specs.Searches.{BestRuns, Drawn, IsDrawn, TicketOf}
use Rattle.search_core.specs.Answers.{IsAnswer, IsPriced}
use Rattle.search_core.specs.Graphs.{answer_as}
use Rattle.search_core.specs.declared.outcome.Answer.{Answer}
use Rattle.ticket_order.specs.Tickets.{TicketOfMoves}
use Rattle.law_lemmas.proofs.Pairs.{matched_more}

-- A run has a ticket, and it is the ticket of its moves.
pub run_made : (b : Book) (q : Request) (run : CertAnswer) → RunsAreTickets b q → ((t : Ticket) → Lawful t b q → length t.components ≤ 18) → ((t : Ticket) → Lawful t b q → length t.components ≤ 18 → TicketOfMoves b.timetable.flights (moves_of t) t)
    → IsDrawn b q (run_of run) → (t : Ticket) × AnswerIs b q run t × TicketOfMoves b.timetable.flights run.moves t
run_made b q run tickets few whole drawn =
    let t = tickets run.moves run.price drawn in
    (t.0, (t.1, t.2, t.3), subst (λ ms. TicketOfMoves b.timetable.flights ms t.0) t.2 (whole t.0 t.1 (few t.0 t.1)))

module _ (b : Book) (q : Request) (run : CertAnswer) (flights : List Flight) (ms : List Move) (f : flights ≡ b.timetable.flights) (m : ms ≡ run.moves) (t : (t : Ticket) × AnswerIs b q run t × TicketOfMoves b.timetable.flights run.moves t) where
  of_moves : TicketOfMoves flights ms t.0
  of_moves = subst (λ fs. TicketOfMoves fs ms t.0) (sym f) (subst (λ z. TicketOfMoves b.timetable.flights z t.0) (sym m) t.2)

  -- there is a ticket of the moves
  pub made_some : ((u : Ticket) → TicketOfMoves flights ms u → ⊥) → ⊥
  made_some none = none t.0 of_moves

  -- and the one that there is is that of the run
  pub made_is : (made : Ticket) → ((u : Ticket) → TicketOfMoves flights ms u → u ≡ made) → AnswerIs b q run made
  made_is made only = subst (AnswerIs b q run) (only t.0 of_moves) t.1

-- the first slice of a request that has one
pub first_slice : (q : Request) → 1 ≤ length q.slices → (s : Slice) × (slice_get q.slices 0 ≡ Some s)
first_slice q h = first q.slices h
  where
    first : (slices : List Slice) → 1 ≤ length slices → (s : Slice) × (slice_get slices 0 ≡ Some s)
    first [] h = absurd (omega (arith, h))
    first (s ∷ slices) h = (s, refl)

-- in a loop

pub each_at : {X : Type 0} (P : X → Type 0) (xs : List X) (i : ℕ) (x : X) → i < length xs → x ≡ get_or xs i x → Each P xs → P x
each_at P [] i x h is all = absurd (omega (arith, h))
each_at P (y ∷ xs) zero x h is all = subst P (sym is) all.0
each_at P (y ∷ xs) (suc i) x h is all = each_at P xs i x (omega (arith, h)) is all.1

pub matched_next : {X Y : Type 0} (R : X → Y → Type 0) (xs : List X) (i : ℕ) (x : X) (ys ys' : List Y) (y : Y) → i < length xs → x ≡ get_or xs i x → Matched R (take i xs) ys → R x y → ys' ≡ ys ++ y ∷ [] → Matched R (take (i + 1) xs) ys'
matched_next R xs i x ys ys' y h is m r e =
    let next : suc i ≡ i + 1 = omega arith in
    let front : take (i + 1) xs ≡ take i xs ++ x ∷ [] = ap (λ (n : ℕ). take n xs) (sym next) ∙ (take-suc xs i x h ∙ ap (λ z. take i xs ++ z ∷ []) (sym is)) in
    subst (λ z. Matched R z ys') (sym front) (subst (Matched R (take i xs ++ x ∷ [])) (sym e) (matched_more R (take i xs) ys x y m r))

-- runs as answers are these runs
answers_are : (runs : List DrawnRun) → map run_of (map answer_as runs) ≡ map run_of_drawn runs
answers_are [] = refl
answers_are (run ∷ runs) = ap (λ z. run_of_drawn run ∷ z) (answers_are runs)

pub still_best : (b : Book) (q : Request) (k n : ℕ) (runs : List DrawnRun) (answers : List CertAnswer) → k ≡ n → answers ≡ map answer_as runs → BestRuns b q k (map run_of_drawn runs) → BestRuns b q n (map run_of answers)
still_best b q k n runs answers same are best = subst (λ m. BestRuns b q m (map run_of answers)) same (subst (BestRuns b q k) (sym (ap (map run_of) are ∙ answers_are runs)) best)

-- what the tickets of runs make

tickets_answer : (b : Book) (q : Request) (runs : List CertAnswer) (ts : List Priced) → Matched (IsPriced b q) runs ts → Matched (AnswerIs b q) runs (map (λ t. t.ticket) ts)
tickets_answer b q [] [] m = tt
tickets_answer b q [] (t ∷ ts) m = absurd m
tickets_answer b q (run ∷ runs) [] m = absurd m
tickets_answer b q (run ∷ runs) (t ∷ ts) m = (m.0.ticket, tickets_answer b q runs ts m.1)

tickets_drawn : (b : Book) (q : Request) (runs : List CertAnswer) (ts : List Priced) → Matched (IsPriced b q) runs ts → Matched (TicketOf b q) (map run_of runs) (map (λ t. t.ticket) ts)
tickets_drawn b q [] [] m = tt
tickets_drawn b q [] (t ∷ ts) m = absurd m
tickets_drawn b q (run ∷ runs) [] m = absurd m
tickets_drawn b q (run ∷ runs) (t ∷ ts) m = (m.0.ticket, tickets_drawn b q runs ts m.1)

tickets_cost : (b : Book) (q : Request) (runs : List CertAnswer) (ts : List Priced) → Matched (IsPriced b q) runs ts → Each (λ t. Costs t.ticket b q t.price) ts
tickets_cost b q [] [] m = tt
tickets_cost b q [] (t ∷ ts) m = absurd m
tickets_cost b q (run ∷ runs) [] m = absurd m
tickets_cost b q (run ∷ runs) (t ∷ ts) m = (subst (Costs t.ticket b q) (sym m.0.price) m.0.ticket.2, tickets_cost b q runs ts m.1)

pub each_drawn : (b : Book) (q : Request) (runs : List CertAnswer) → Each (IsDrawn b q) (map run_of runs) → Each (λ run. IsDrawn b q (run_of run)) runs
each_drawn b q [] h = tt
each_drawn b q (run ∷ runs) h = (h.0, each_drawn b q runs h.1)

-- The tickets of the best runs, with the rows, are the answer.
pub answer_is : (b : Book) (q : Request) → ((ds : List Drawn) (ts : List Ticket) → BestRuns b q q.best ds → Matched (TicketOf b q) ds ts → Best b q ts)
    → (a : Answer) → BestRuns b q q.best (map run_of a.certificate.answers) → Matched (IsPriced b q) a.certificate.answers a.tickets → RowsAre b q a.certificate.rows
    → a.number ≡ length b.entries → a.certificate.number ≡ length b.entries → a.certificate.request ≡ q → IsAnswer b q a
answer_is b q runs_best a runs matched rows number version same =
    let best = runs_best _ _ runs (tickets_drawn b q a.certificate.answers a.tickets matched) in record {
      number = number;
      best = best;
      prices = tickets_cost b q a.certificate.answers a.tickets matched;
      certificate = record {
        of = (version, same);
        tickets = map (λ t. t.ticket) a.tickets;
        best = best;
        answers = tickets_answer b q a.certificate.answers a.tickets matched;
        rows = rows;
      };
    }
