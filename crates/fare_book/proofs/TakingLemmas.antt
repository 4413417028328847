-- The actions of a filing up to one, and the first that has a fault.
use Rattle.std.proofs.Common.{◌≡◌, ◌+◌, ◌<◌, ℕ, zero, suc, List, [], ◌∷◌, ◌++◌, length, take, drop, get_or, Err, sym, ap, subst, ◌∙◌, inl, inr, arith}
use Rattle.fare_law.specs.declared.filings.Action.{Action}
use Rattle.fare_law.specs.declared.filings.BookWhy.{BookWhy}
use Rattle.fare_law.specs.declared.filings.Filing.{Filing}
use Rattle.fare_law.specs.declared.filings.Refused.{Refused as Told}
use Rattle.fare_law.specs.Book.{Book, Timetable}
use Rattle.fare_law.specs.Faults.{Fault as FaultOfFiling, FaultOf, Legal, Why, filed}
use Rattle.fare_law.specs.Lists.{Each}
use Rattle.fare_book.specs.Drafts.{Acts, Drafts, Faultless, Follows}
use Rattle.fare_book.specs.Taking.{NoneStops, StopsAt, fault_at}
use Rattle.fare_book.specs.declared.draft.Draft.{Draft}
use Rattle.fare_book.specs.declared.draft.Stop.{Stop}
use Rattle.fare_book.specs.declared.draft.Stop.TheVariants.{Fault, Mem as NoMemory}
use Rattle.fare_book.specs.declared.faults.BookFault.TheVariants.{Refused}
use Rattle.fare_law.specs.declared.limits.TheConstants.{MOST_ENTRIES}
use Rattle.fare_book.proofs.Following.{filed_follows}
use Rattle.law_lemmas.proofs.Lists.{front_length, front_read, split_is, split_last}
use Rattle.law_lemmas.proofs.Numbers.{suc_is}

pub each_item : {X : Type 0} (P : X → Type 0) (xs : List X) (i : ℕ) (x d : X) → i < length xs → x ≡ get_or xs i d → Each P xs → P x
each_item P [] i x d lt e h = absurd (omega (arith, lt))
each_item P (y ∷ ys) zero x d lt e h = subst P (sym e) h.0
each_item P (y ∷ ys) (suc i) x d lt e h = each_item P ys i x d (omega (arith, lt)) e h.1

-- ---- actions
none_push : (b : Book) (xs : List Action) (a : Action) → NoneStops b xs → Faultless (filed b xs) a → NoneStops b (xs ++ a ∷ [])
none_push b xs a none fine front earlier rest e other w = elim (split_last xs front rest a earlier e) [
  | inl h ↦ fine other (subst (λ ys. Why (filed b ys) a other) (sym h.0) (subst (λ x. Why (filed b front) x other) (sym h.1) w))
  | inr h ↦ none front earlier h.0 h.1 other w
]

-- what is kept up to an action
abbrev pub TakenSo : Draft → List Action → Draft → Type 0
TakenSo first actions now = (b : Book) → Drafts (filed b []) first → Drafts (filed b actions) now × NoneStops b actions

pub taken_none : (first : Draft) → TakenSo first [] first
taken_none first b d = (d, λ front earlier rest e. absurd (empty front earlier rest e))
  where
    empty : (front : List Action) (earlier : Action) (rest : List Action) → [] ≡ front ++ earlier ∷ rest → ⊥
    empty [] earlier rest t = cc
    empty (g ∷ gs) earlier rest t = cc

pub taken_more : (first old new : Draft) (actions : List Action) (i : ℕ) (a d : Action) → i < length actions → a ≡ get_or actions i d
    → ((b next : Book) → Drafts b old → Follows b a next → Drafts next new × Faultless b a) → TakenSo first (take i actions) old → TakenSo first (take (i + 1) actions) new
taken_more first old new actions i a d lt is acts so b start =
    let before = so b start in
    let after = acts (filed b (take i actions)) (filed b (take i actions ++ a ∷ [])) before.0 (filed_follows b (take i actions) a) in
    subst (λ xs. Drafts (filed b xs) new × NoneStops b xs) (sym (front_read actions i d a lt is)) (after.0, none_push b (take i actions) a before.1 after.1)

pub stops_at : (first old : Draft) (actions : List Action) (i : ℕ) (a d : Action) (why : BookWhy) → i < length actions → a ≡ get_or actions i d → ((b : Book) → Drafts b old → FaultOf b a why) → TakenSo first (take i actions) old
    → (b : Book) → Drafts (filed b []) first → StopsAt b actions (Refused (record { action = i + 1; why = why }))
stops_at first old actions i a d why lt is fault so b start =
    let before = so b start in
    (take i actions, a, drop (i + 1) actions, split_is actions i d a lt is, sym (suc_is i) ∙ ap suc (sym (front_length actions i lt)), fault (filed b (take i actions)) before.0, before.1)

-- ---- a filing's faults
pub filing_fault : (b : Book) (filing : Filing) (r : Told) → length b.entries < MOST_ENTRIES → StopsAt b filing.actions (Refused r) → FaultOfFiling b filing r.action r.why
filing_fault b filing r few stops = inr (few, stops)

pub no_fault : (b : Book) (filing : Filing) → length b.entries < MOST_ENTRIES → NoneStops b filing.actions → (at : ℕ) (why : BookWhy) → FaultOfFiling b filing at why → ⊥
no_fault b filing few none at why (inl h) = omega (arith, few, h.2)
no_fault b filing few none at why (inr h) = none h.1.0 h.1.1 h.1.2 h.1.3 why h.1.5.0

pub legal_more : (t : Timetable) (history : List Filing) (filing : Filing) → Legal t history → ((at : ℕ) (why : BookWhy) → FaultOfFiling (record { timetable = t; entries = history }) filing at why → ⊥) → Legal t (history ++ filing ∷ [])
legal_more t history filing legal none before other after e at why fault = elim (split_last history before after filing other e) [
  | inl h ↦ none at why (subst (λ hs. FaultOfFiling (record { timetable = t; entries = hs }) filing at why) (sym h.0) (subst (λ f. FaultOfFiling (record { timetable = t; entries = before }) f at why) (sym h.1) fault))
  | inr h ↦ legal before other h.0 h.1 at why fault
]

pub stops_told : (first old new : Draft) (actions : List Action) (i : ℕ) (a d : Action) (stop : Stop) → i < length actions → a ≡ get_or actions i d → Acts a old new (Err stop) → TakenSo first (take i actions) old
    → (b : Book) → Drafts (filed b []) first → StopsAt b actions (fault_at (i + 1) stop)
stops_told first old new actions i a d (Fault why) lt is acts so = stops_at first old actions i a d why lt is acts so
stops_told first old new actions i a d NoMemory lt is acts so = λ b start. tt
