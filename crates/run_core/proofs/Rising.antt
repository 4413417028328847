-- The versions of one desk's answers never fall, by induction over the events that a world came of.
use Rattle.std.proofs.Common.{◌≡◌, ◌≢◌, ◌⊎◌, ⊎_elim, ◌∙◌, ℕ, ◌+◌, ◌<◌, ◌≤◌, List, [], ◌∷◌, ◌++◌, length, get_or, set, replicate, Option, Some, None, ap, sym, subst, refl, inl, inr, arith, get_or-set_same, get_or-set_other, length-append}
use mathlib.Core.Logic.{dite}
use native.Mathlib.Decide.{ℕ_discrete}
use Rattle.std.specs.Arc.{arc_value}
use Rattle.fare_law.specs.declared.filings.Filing.{Filing}
use Rattle.fare_law.specs.declared.requests.Request.{Request}
use Rattle.fare_law.specs.Book.{Book}
use Rattle.fare_law.specs.Lists.{Each}
use Rattle.run_core.specs.Counting.{IsNoLower, NeverFall}
use Rattle.fare_versions.specs.Filings.{book_with}
use Rattle.run_core.specs.Worlds.{AnswersFrom, ComesOf, StepsTo, WorldView, opened, sight}
use Rattle.run_core.specs.declared.events.Event.{Event}
use Rattle.run_core.specs.declared.events.Event.TheVariants.{File, Look, Fetch, Keep, Answer}
use Rattle.run_core.specs.declared.events.Recorded.{Recorded}
use Rattle.run_core.proofs.ListEnds.{nothing_there, some_same}
use Rattle.law_lemmas.proofs.EachOne.{each_by, each_more}

-- the answer is no later than a version of so many entries
abbrev IsBy : ℕ → Recorded → Type 0
IsBy n r = r.version ≤ n

-- the same of the answers of one desk
abbrev IsByOf : ℕ → ℕ → Recorded → Type 0
IsByOf desk n r = r.desk ≡ desk → r.version ≤ n

-- no desk has looked past the last version, and no answer is later than what its desk, or anyone, has looked at
record Rises (w : WorldView) : Type 0 where
  low : (d : ℕ) (v : Book) → sight w d ≡ Some v → length v.entries ≤ length w.book.entries
  past : Each (IsBy (length w.book.entries)) w.answers
  own : (d : ℕ) (v : Book) → sight w d ≡ Some v → Each (IsByOf d (length v.entries)) w.answers
  fall : NeverFall w.answers

fall_more : (answers : List Recorded) (r : Recorded) → NeverFall answers → Each (λ s. IsNoLower s r) answers → NeverFall (answers ++ r ∷ [])
fall_more [] r n e = (tt, tt)
fall_more (s ∷ answers) r n e = (each_more (IsNoLower s) answers r n.0 e.0, fall_more answers r n.1 e.1)

-- what desk d sees after the sight of a desk was set
seen_after : (desks : List (Option Book)) (desk d : ℕ) (x : Option Book) (v : Book) → desk < length desks → get_or (set desks desk x) d None ≡ Some v
    → ((d ≡ desk) × (x ≡ Some v)) ⊎ ((d ≢ desk) × (get_or desks d None ≡ Some v))
seen_after desks desk d x v less h = dite (ℕ_discrete d desk)
    (λ e. inl (e, sym (ap (λ (i : ℕ). get_or (set desks desk x) i None) e ∙ get_or-set_same desks desk x None less) ∙ h))
    (λ n. inr (n, sym (get_or-set_other desks desk d x None n) ∙ h))

filed : (u : WorldView) (f : Filing) → Rises u → Rises (record u { book = book_with u.book f })
filed u f h =
    let more = length-append u.book.entries (f ∷ []) in record {
      low = λ d v e. omega (arith, more, h.low d v e);
      past = each_by (IsBy (length u.book.entries)) _ u.answers (λ r le. omega (arith, more, le)) h.past;
      own = h.own;
      fall = h.fall;
    }

looked : (u : WorldView) (desk : ℕ) → desk < length u.desks → Rises u → Rises (record u { desks = set u.desks desk (Some u.book) })
looked u desk less h = record {
  low = λ d v e. ⊎_elim (λ now. subst (λ (x : Book). length x.entries ≤ length u.book.entries) (some_same now.1) (omega arith)) (λ was. h.low d v was.1) (seen_after u.desks desk d (Some u.book) v less e);
  past = h.past;
  own = λ d v e. ⊎_elim
      (λ now. subst (λ (x : Book). Each (IsByOf d (length x.entries)) u.answers) (some_same now.1) (each_by (IsBy (length u.book.entries)) (IsByOf d (length u.book.entries)) u.answers (λ r le _. le) h.past))
      (λ was. h.own d v was.1) (seen_after u.desks desk d (Some u.book) v less e);
  fall = h.fall;
}

answered : (u : WorldView) (desk : ℕ) (q : Request) (budget : ℕ) (w : WorldView) → Rises u → AnswersFrom u desk q budget w → Rises w
answered u desk q budget w h s =
    let r = s.answer in
    let own = h.own desk s.version s.seen.sees in
    subst Rises (sym s.next) (record {
      low = λ d v e. ⊎_elim (λ now. absurd (cc now.1)) (λ was. h.low d v was.1) (seen_after u.desks desk d None v s.seen.within e);
      past = each_more (IsBy (length u.book.entries)) u.answers r h.past (omega (arith, s.records.version_is, h.low desk s.version s.seen.sees));
      own = λ d v e. ⊎_elim (λ now. absurd (cc now.1)) (λ was. each_more (IsByOf d (length v.entries)) u.answers r (h.own d v was.1) (λ mine. absurd (was.0 (sym mine ∙ s.records.desk_is)))) (seen_after u.desks desk d None v s.seen.within e);
      fall = fall_more u.answers r h.fall (each_by (IsByOf desk (length s.version.entries)) (λ z. IsNoLower z r) u.answers
          (λ z by same. subst (λ (n : ℕ). z.version ≤ n) (sym s.records.version_is) (by (same ∙ s.records.desk_is))) own);
    })

rises_step : (u : WorldView) (e : Event) (w : WorldView) → Rises u → StepsTo u e w → Rises w
rises_step u (File f) w h s = subst Rises (sym s.next) (filed u (arc_value f) h)
rises_step u (Look desk) w h s = subst Rises (sym s.next) (looked u desk s.within h)
rises_step u (Fetch desk key) w h s = subst Rises (sym s.next) h
rises_step u (Keep desk key) w h s = subst Rises (sym s.next) (record { low = h.low; past = h.past; own = h.own; fall = h.fall })
rises_step u (Answer desk q budget) w h s = answered u desk q budget w h s

rises : (b : Book) (count : ℕ) (past : List Event) (w : WorldView) → ComesOf (opened b count) past w → Rises w
rises b count [] w e = subst Rises (sym e) (record {
  low = λ d v h. absurd (nothing_there count d v h);
  past = tt;
  own = λ d v h. absurd (nothing_there count d v h);
  fall = tt;
})
rises b count (e ∷ past) w c = rises_step c.0 e w (rises b count past c.0 c.1) c.2

pub never_fall : (b : Book) (count : ℕ) (past : List Event) (w : WorldView) → ComesOf (opened b count) past w → NeverFall w.answers
never_fall b count past w c = (rises b count past w c).fall
