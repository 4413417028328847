-- What the answers record, by induction over the events that a world came of.
use Rattle.std.proofs.Common.{◌≡◌, ◌≢◌, ◌∙◌, ℕ, ◌+◌, ◌<◌, ◌==◌, Bool, true, false, cond, List, [], ◌∷◌, ◌++◌, length, take, get_or, replicate, set, Option, Some, None, option_map, ap, sym, subst, refl, arith, append_assoc, get_or-set_same, get_or-set_other, length-append, length-set, reverse}
use Rattle.std.proofs.lemmas.List.{append-nil, get_or-replicate, length-replicate, reverse-append, take_more}
use Rattle.std.proofs.lemmas.Bool.Decides.{nat_tests}
use Rattle.std.specs.Arc.{arc_value}
use Rattle.fare_law.specs.declared.filings.Filing.{Filing}
use Rattle.fare_law.specs.declared.requests.Request.{Request}
use Rattle.fare_law.specs.Book.{Book}
use Rattle.run_core.specs.Counting.{AreRecorded, IsRecordOf, askings, book_after, filed_at_look, filings}
use Rattle.fare_versions.specs.Filings.{book_with}
use Rattle.run_core.specs.Outcomes.{IsOutcome}
use Rattle.run_core.specs.Records.{Records, tickets_of}
use Rattle.run_core.specs.Worlds.{AnswersFrom, ComesOf, StepsTo, WorldView, opened, sight}
use Rattle.run_core.specs.declared.events.Event.{Event}
use Rattle.run_core.specs.declared.events.Event.TheVariants.{File, Look, Fetch, Keep, Answer}
use Rattle.run_core.specs.declared.events.Recorded.{Recorded}
use Rattle.run_core.proofs.ListEnds.{CameOf, came_of}
use Rattle.law_lemmas.proofs.Pairs.{matched_more}

-- the world is in step with the events
pub record Follows (b : Book) (past : List Event) (w : WorldView) : Type 0 where
  pub book : w.book ≡ book_after b (filings past)
  pub desks : (d : ℕ) → d < length w.desks → sight w d ≡ option_map (book_after b) (filed_at_look d past)
  pub answers : AreRecorded b past w.answers

-- desk d after a look of a desk, its own or another's
after_look : (b : Book) (past : List Event) (u : WorldView) (desk d : ℕ) (same : Bool) → Follows b past u → desk < length u.desks → (d == desk) ≡ same → d < length u.desks
    → get_or (set u.desks desk (Some u.book)) d None ≡ option_map (book_after b) (cond same (Some (filings past)) (filed_at_look d past))
after_look b past u desk d true h less is within =
    let e : d ≡ desk = grind (arith, nat_tests) in
    ap (λ (i : ℕ). get_or (set u.desks desk (Some u.book)) i None) e ∙ get_or-set_same u.desks desk (Some u.book) None less ∙ ap Some h.book
after_look b past u desk d false h less is within =
    let n : d ≢ desk = grind (arith, nat_tests) in get_or-set_other u.desks desk d (Some u.book) None n ∙ h.desks d within

-- desk d after an answer of a desk, its own or another's
after_answer : (b : Book) (past : List Event) (u : WorldView) (desk d : ℕ) (same : Bool) → Follows b past u → desk < length u.desks → (d == desk) ≡ same → d < length u.desks
    → get_or (set u.desks desk None) d None ≡ option_map (book_after b) (cond same None (filed_at_look d past))
after_answer b past u desk d true h less is within =
    let e : d ≡ desk = grind (arith, nat_tests) in
    ap (λ (i : ℕ). get_or (set u.desks desk None) i None) e ∙ get_or-set_same u.desks desk None None less
after_answer b past u desk d false h less is within =
    let n : d ≢ desk = grind (arith, nat_tests) in get_or-set_other u.desks desk d None None n ∙ h.desks d within

-- the record of an answer from the version that the desk looked at is that of its event
recorded_of : (b : Book) (past : List Event) (desk : ℕ) (q : Request) (budget : ℕ) (v : Book) (r : Recorded) → CameOf (book_after b) (filed_at_look desk past) v → Records v desk q budget r
    → IsRecordOf b (record { desk = desk; request = q; budget = budget; filed = filed_at_look desk past }) r
recorded_of b past desk q budget v r came h = record {
  filed = came.from;
  looked = came.is;
  desk = h.desk_is;
  request = h.request_is;
  version = h.version_is ∙ ap (λ (x : Book). length x.entries) (sym came.gives) ∙ length-append b.entries came.from;
  outcome = subst (λ (x : Book). IsOutcome x q budget (tickets_of r.outcome)) (sym came.gives) h.outcome_is;
}

answered : (b : Book) (past : List Event) (u : WorldView) (desk : ℕ) (q : Request) (budget : ℕ) (w : WorldView) → Follows b past u → AnswersFrom u desk q budget w → Follows b (Answer desk q budget ∷ past) w
answered b past u desk q budget w h s =
    let came = came_of (book_after b) (filed_at_look desk past) s.version (sym (h.desks desk s.seen.within) ∙ s.seen.sees) in
    subst (Follows b (Answer desk q budget ∷ past)) (sym s.next) (record {
      book = h.book;
      desks = λ d within. after_answer b past u desk d (d == desk) h s.seen.within refl (subst (λ (n : ℕ). d < n) (length-set u.desks desk None) within);
      answers = matched_more (IsRecordOf b) (askings past) u.answers _ s.answer h.answers (recorded_of b past desk q budget s.version s.answer came s.records);
    })

follows_step : (b : Book) (past : List Event) (u : WorldView) (e : Event) (w : WorldView) → Follows b past u → StepsTo u e w → Follows b (e ∷ past) w
follows_step b past u (File f) w h s = subst (Follows b (File f ∷ past)) (sym s.next) (record {
  book = ap (λ (x : Book). book_with x (arc_value f)) h.book ∙ ap (λ es. record { timetable = b.timetable; entries = es }) (append_assoc b.entries (filings past) (arc_value f ∷ []));
  desks = h.desks;
  answers = h.answers;
})
follows_step b past u (Look desk) w h s = subst (Follows b (Look desk ∷ past)) (sym s.next) (record {
  book = h.book;
  desks = λ d within. after_look b past u desk d (d == desk) h s.within refl (subst (λ (n : ℕ). d < n) (length-set u.desks desk (Some u.book)) within);
  answers = h.answers;
})
follows_step b past u (Fetch desk key) w h s = subst (Follows b (Fetch desk key ∷ past)) (sym s.next) (record { book = h.book; desks = h.desks; answers = h.answers })
follows_step b past u (Keep desk key) w h s = subst (Follows b (Keep desk key ∷ past)) (sym s.next) (record { book = h.book; desks = h.desks; answers = h.answers })
follows_step b past u (Answer desk q budget) w h s = answered b past u desk q budget w h s

pub follows : (b : Book) (count : ℕ) (past : List Event) (w : WorldView) → ComesOf (opened b count) past w → Follows b past w
follows b count [] w e = subst (Follows b []) (sym e) (record {
  book = ap (λ es. record { timetable = b.timetable; entries = es }) (sym (append-nil b.entries));
  desks = λ d within. get_or-replicate count d None None (subst (λ (n : ℕ). d < n) (length-replicate {A = Option Book} count None) within);
  answers = tt;
})
follows b count (e ∷ past) w c = follows_step b past c.0 e w (follows b count past c.0 c.1) c.2

pub recorded_as_counted : (b : Book) (count : ℕ) (past : List Event) (w : WorldView) → ComesOf (opened b count) past w → AreRecorded b past w.answers
recorded_as_counted b count past w c = (follows b count past w c).answers

-- what comes of some events, and then of more
pub comes_on : (start : WorldView) (past more : List Event) (u w : WorldView) → ComesOf start past u → ComesOf u more w → ComesOf start (more ++ past) w
comes_on start past [] u w h e = subst (ComesOf start past) (sym e) h
comes_on start past (e ∷ more) u w h c = (c.0, comes_on start past more u c.0 h c.1, c.2)

-- one event more of a list
pub comes_next : (start : WorldView) (events : List Event) (i : ℕ) (e : Event) (u w : WorldView) → e ≡ get_or events i e → i < length events → ComesOf start (reverse (take i events)) u → StepsTo u e w
    → ComesOf start (reverse (take (i + 1) events)) w
comes_next start events i e u w is less h s =
    let so : reverse (take (i + 1) events) ≡ e ∷ reverse (take i events) = ap reverse (take_more events i e less) ∙ reverse-append (take i events) (get_or events i e ∷ []) ∙ ap (λ x. x ∷ reverse (take i events)) (sym is) in
    subst (λ l. ComesOf start l w) (sym so) (u, h, s)
