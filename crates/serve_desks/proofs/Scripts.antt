-- How the replies to a script come about line by line.
use Rattle.std.proofs.Common.{◌≡◌, ◌≤◌, ◌∙◌, ℕ, zero, suc, max, List, [], ◌∷◌, ◌++◌, take, replicate, slice_set, ap, sym, subst, arith}
use Rattle.std.proofs.lemmas.List.{append_assoc, append-nil}
use Rattle.fare_law.specs.declared.filings.Filing.{Filing}
use Rattle.script_text.specs.declared.lines.ScriptLine.{ScriptLine}
use Rattle.script_text.specs.declared.lines.ScriptLine.TheVariants.{Search, Await}
use Rattle.serve_desks.specs.Judging.{accepted}
use Rattle.serve_desks.specs.Logs.{Answers, AreLow, Replies, Takes, floor_of, waited_for, with_floor}
use Rattle.serve_desks.specs.Terms.{Rightness, Terms}
use Rattle.serve_desks.specs.declared.log.Filed.{Filed}
use Rattle.serve_desks.specs.declared.log.Filed.TheVariants.{Accepted, Refused}
use Rattle.serve_desks.specs.declared.log.Reply.{Reply}

-- a beginning has no more accepted ones than the whole
pub no_more : (n : ℕ) (filed : List Filed) → accepted (take n filed) ≤ accepted filed
no_more zero filed = omega arith
no_more (suc n) [] = omega arith
no_more (suc n) (Accepted a ∷ fs) = let h = no_more n fs in omega (arith, h)
no_more (suc n) (Refused w ∷ fs) = no_more n fs

-- a floor that is low is set among low ones
pub set_low : (most : ℕ) (floors : List ℕ) (at floor : ℕ) → AreLow most floors → floor ≤ most → AreLow most (slice_set floors at floor)
set_low most [] at floor low h i = low i
set_low most (x ∷ xs) zero floor low h zero = h
set_low most (x ∷ xs) zero floor low h (suc i) = low (suc i)
set_low most (x ∷ xs) (suc at) floor low h zero = low zero
set_low most (x ∷ xs) (suc at) floor low h (suc i) = set_low most xs at floor (λ j. low (suc j)) h i

pub all_low : (most count floor : ℕ) → floor ≤ most → AreLow most (replicate count floor)
all_low most zero floor h i = omega arith
all_low most (suc n) floor h zero = h
all_low most (suc n) floor h (suc i) = all_low most n floor h i

module _ (right : Rightness) (terms : Terms) (opening : ℕ) (filed : List Filed) (filings : List Filing) where
  pub takes_search : (desk request : ℕ) (floors floors' : List ℕ) (before after : List Reply) (r : Reply) → Answers right terms filings request (floor_of floors desk) r
      → floors' ≡ with_floor floors desk r.number → after ≡ before ++ r ∷ [] → Takes right terms opening filed filings (Search desk request) floors floors' before after
  takes_search desk request floors floors' before after r a f e = record { more = r ∷ []; added = e; each = λ lines rest h. (a, subst (λ (fl : List ℕ). Replies right terms opening filed filings fl lines rest) f h) }

  pub takes_wait : (desk count : ℕ) (floors floors' : List ℕ) (replies : List Reply) → floors' ≡ with_floor floors desk (max (floor_of floors desk) (waited_for opening filed count))
      → Takes right terms opening filed filings (Await desk count) floors floors' replies replies
  takes_wait desk count floors floors' replies f = record { more = []; added = sym (append-nil replies); each = λ lines rest h. subst (λ (fl : List ℕ). Replies right terms opening filed filings fl lines rest) f h }

  -- one line further
  pub goes_on : (first : List ℕ) (script : List ScriptLine) (line : ScriptLine) (lines : List ScriptLine) (floors floors' : List ℕ) (before after rest : List Reply)
      → ((more : List Reply) → Replies right terms opening filed filings floors (line ∷ lines) more → Replies right terms opening filed filings first script (before ++ more))
      → Takes right terms opening filed filings line floors floors' before after → Replies right terms opening filed filings floors' lines rest → Replies right terms opening filed filings first script (after ++ rest)
  goes_on first script line lines floors floors' before after rest so_far t h =
      subst (Replies right terms opening filed filings first script) (sym (append_assoc before t.more rest) ∙ ap (λ (xs : List Reply). xs ++ rest) (sym t.added)) (so_far (t.more ++ rest) (t.each lines rest h))
