-- The replies of a log, one for each search, and their text: for `serve_text`.
use Rattle.std.proofs.Common.{◌≡◌, ◌<◌, ◌≤◌, ◌+◌, ◌-◌, ◌∙◌, ℕ, zero, suc, max, List, [], ◌∷◌, ◌++◌, length, map, replicate, take, slice_index, slice_set, codes, refl, sym, subst, append_assoc, arith}
use Rattle.std.proofs.lemmas.List.{length-replicate, length-set}
use Rattle.answer_text.specs.Answer.{AnswerText, IsRight as IsRightTicket}
use Rattle.search_desk.specs.Outcomes.{AnswersAsk, version_of}
use Rattle.fare_law.specs.Best.{Costs}
use Rattle.fare_law.specs.Book.{Book, Timetable}
use Rattle.fare_law.specs.Lawful.{Lawful}
use Rattle.fare_law.specs.Lists.{Each, Matched}
use Rattle.fare_law.specs.declared.filings.Filing.{Filing}
use Rattle.fare_law.specs.declared.requests.Request.{Request}
use Rattle.fare_law.specs.declared.tickets.Priced.{Priced}
use Rattle.script_text.specs.Script.{IsWithin, counts}
use Rattle.script_text.specs.declared.lines.ScriptLine.{ScriptLine}
use Rattle.script_text.specs.declared.lines.ScriptLine.TheVariants.{Search, Await}
use Rattle.serve_desks.specs.Logs.{Replies, floor_of, waited_for, with_floor}
use Rattle.serve_desks.specs.Terms.{IsRight, Terms}
use Rattle.serve_desks.specs.declared.log.Body.{Body}
use Rattle.serve_desks.specs.declared.log.Body.TheVariants.{Tickets, TooLarge}
use Rattle.serve_desks.specs.declared.log.Filed.{Filed}
use Rattle.serve_desks.specs.declared.log.Reply.{Reply}
use Rattle.serve_desks.specs.declared.workload.Ask.{Ask}
use Rattle.serving.specs.Bodies.{IsRightBody}
use Rattle.serving.specs.Lines.{reply_line}
use Rattle.serving.specs.Replaying.{HasText, HasTextsBetween, replies_text}
use Rattle.serving.specs.Replies.{RepliesText, ReplyText, searches_from}
use Rattle.serving.specs.declared.searches.SearchLine.{SearchLine}

-- no floor is below this
abbrev pub AreFrom : ℕ → List ℕ → Type 0
AreFrom least floors = (at : ℕ) → at < length floors → least ≤ slice_index floors at

all_from : (least count : ℕ) → AreFrom least (replicate count least)
all_from least zero at less = absurd (omega (arith, less))
all_from least (suc n) zero less = omega arith
all_from least (suc n) (suc at) less = all_from least n at (omega (arith, less))

set_from : (least : ℕ) (floors : List ℕ) (at floor : ℕ) → AreFrom least floors → least ≤ floor → AreFrom least (slice_set floors at floor)
set_from least [] at floor from h i less = absurd (omega (arith, less))
set_from least (x ∷ xs) zero floor from h zero less = h
set_from least (x ∷ xs) zero floor from h (suc i) less = from (suc i) less
set_from least (x ∷ xs) (suc at) floor from h zero less = from zero (omega arith)
set_from least (x ∷ xs) (suc at) floor from h (suc i) less = set_from least xs at floor (λ j l. from (suc j) (omega (arith, l))) h i (omega (arith, less))

-- the reply is one to this search, of a version from the opening one to the last
pub record Answered (terms : Terms) (opening : ℕ) (filings : List Filing) (s : SearchLine) (r : Reply) : Type 0 where
  pub late : opening ≤ r.number
  pub known : r.number ≤ length filings
  pub right : IsRight AnswersAsk terms s.request (take r.number filings) r.body

module _ (terms : Terms) (opening : ℕ) (filed : List Filed) (filings : List Filing) (desks later asks : ℕ) where
  replies_answer : (line : ℕ) (floors : List ℕ) (lines : List ScriptLine) (rs : List Reply) → length floors ≡ desks → AreFrom opening floors → Each (IsWithin (counts desks later asks)) lines
      → Replies AnswersAsk terms opening filed filings floors lines rs → Matched (Answered terms opening filings) (searches_from line lines) rs
  replies_answer line floors [] [] many from within h = tt
  replies_answer line floors [] (r ∷ rs) many from within h = absurd h
  replies_answer line floors (Search desk request ∷ lines) [] many from within h = absurd h
  replies_answer line floors (Search desk request ∷ lines) (r ∷ rs) many from within h =
      let (some, most) = within.0.0 in
      let here : desk - 1 < length floors = omega (arith, some, most, many) in
      let floor = from (desk - 1) here in
      let late : opening ≤ r.number = omega (arith, floor, h.0.new_enough) in (
        record { late = late; known = h.0.known; right = h.0.body },
        replies_answer (line + 1) (with_floor floors desk r.number) lines rs (length-set floors (desk - 1) r.number ∙ many) (set_from opening floors (desk - 1) r.number from late) within.1 h.1,
      )
  replies_answer line floors (Await desk count ∷ lines) rs many from within h =
      let (some, most) = within.0.0 in
      let here : desk - 1 < length floors = omega (arith, some, most, many) in
      let floor = from (desk - 1) here in
      let raised : opening ≤ max (floor_of floors desk) (waited_for opening filed count) = omega (arith, floor) in
      replies_answer (line + 1) (with_floor floors desk (max (floor_of floors desk) (waited_for opening filed count))) lines rs (length-set floors (desk - 1) _ ∙ many) (set_from opening floors (desk - 1) _ from raised) within.1 h

  pub all_answered : (lines : List ScriptLine) (rs : List Reply) → Each (IsWithin (counts desks later asks)) lines
      → Replies AnswersAsk terms opening filed filings (replicate desks opening) lines rs → Matched (Answered terms opening filings) (searches_from 1 lines) rs
  all_answered lines rs within h = replies_answer 1 (replicate desks opening) lines rs (length-replicate desks opening) (all_from opening desks) within h

-- lawful tickets at their prices are right
are_right : (b : Book) (q : Request) (tickets : List Priced) → Each (λ t. Lawful t b q) (map (λ p. p.ticket) tickets) → Each (λ t. Costs t.ticket b q t.price) tickets → Each (IsRightTicket b q) tickets
are_right b q [] lawful costs = tt
are_right b q (t ∷ ts) lawful costs = ((lawful.0, costs.0), are_right b q ts lawful.1 costs.1)

right_body : (ask : Ask) (t : Timetable) (filings : List Filing) (body : Body) → AnswersAsk ask t filings body → IsRightBody (version_of t filings) ask.request body
right_body ask t filings (Tickets tickets) h = are_right (version_of t filings) ask.request tickets h.best.each h.prices
right_body ask t filings TooLarge h = tt

-- the text of what came of a search, for `body_text`
pub tickets_told : (b : Book) (body : Body) (tickets slice : List Priced) (text : List ℕ) → body ≡ Tickets tickets → slice ≡ tickets
    → ((q : Request) → Each (IsRightTicket b q) slice → AnswerText b q (map (λ p. p.ticket) slice) text) → HasText b body text
tickets_told b body tickets slice text is same tells = subst (λ (x : Body). HasText b x text) (sym is) (record {
  each = λ q right. subst (λ (ts : List Priced). AnswerText b q (map (λ p. p.ticket) ts) text) same (tells q (subst (λ (ts : List Priced). Each (IsRightTicket b q) ts) (sym same) right));
})

pub too_large_told : (b : Book) (body : Body) (text : List ℕ) → body ≡ TooLarge → text ≡ codes "too large\n" → HasText b body text
too_large_told b body text is e = subst (λ (x : Body). HasText b x text) (sym is) (record { each = λ q right. e })

-- the text of one reply
reply_told : (terms : Terms) (opening : ℕ) (filings : List Filing) (s : SearchLine) (r : Reply) (text : List ℕ) → Answered terms opening filings s r
    → HasText (version_of terms.timetable (take r.number filings)) r.body text → ReplyText terms filings s r (reply_line s.line s.desk r.number ++ text)
reply_told terms opening filings s r text a has =
    let (ask, found, outcome) = a.right in
    record {
      ask = ask;
      asked = found;
      body = text;
      tells = has.each ask.request (right_body ask terms.timetable (take r.number filings) r.body outcome);
      whole = refl;
    }

-- the text of the replies
pub replies_told : (terms : Terms) (opening : ℕ) (filings : List Filing) (searches : List SearchLine) (rs : List Reply) (texts : List (List ℕ)) → Matched (Answered terms opening filings) searches rs
    → length texts ≡ length rs → HasTextsBetween terms.timetable filings opening (length filings + 1) rs texts → RepliesText terms filings searches rs (replies_text searches rs texts)
replies_told terms opening filings [] [] texts h many has = refl
replies_told terms opening filings [] (r ∷ rs) texts h many has = absurd h
replies_told terms opening filings (s ∷ ss) [] texts h many has = absurd h
replies_told terms opening filings (s ∷ ss) (r ∷ rs) [] h many has = absurd (omega (arith, many))
replies_told terms opening filings (s ∷ ss) (r ∷ rs) (t ∷ texts) h many has = (
  reply_line s.line s.desk r.number ++ t,
  replies_text ss rs texts,
  reply_told terms opening filings s r t h.0 (has.each 0 r (omega arith) h.0.late (omega (arith, h.0.known))),
  replies_told terms opening filings ss rs texts h.1 (omega (arith, many)) (record { each = λ i d less late below. has.each (suc i) d (omega (arith, less)) late below }),
  sym (append_assoc (reply_line s.line s.desk r.number) t (replies_text ss rs texts)),
)
