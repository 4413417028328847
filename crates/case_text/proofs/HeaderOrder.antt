-- Headers stand in one order in every kind of case, and the one of requests is passed by none. Needed by the counts of the sections.
use Rattle.std.proofs.Common.{◌≡◌, ◌<◌, ◌≤◌, ℕ, Bool, true, false, cond, eqb, List, [], ◌∷◌, Option, Some, None, refl, ap, sym, subst, ◌∙◌, inl, inr, arith, rules}
use Rattle.std.proofs.lemmas.Slice.Eq.{bytes_eq-Decides}
use Rattle.fare_law.specs.Lists.{Each, IsIn}
use Rattle.case_text.specs.declared.headers.Header.{Header}
use Rattle.case_text.specs.declared.headers.Header.TheVariants.{Places, Flights, Seats, Filings, Later, Request, Script, Certificate, Ticket, End}
use Rattle.case_text.specs.declared.kinds.CaseKind.{CaseKind}
use Rattle.case_text.specs.declared.kinds.CaseKind.TheVariants.{Search, Check, Serve, Verdict}
use Rattle.case_text.specs.Headers.{due, first_of, headers_of, is_named, name_of, next_of}
use Rattle.law_lemmas.proofs.EachOne.{member_holds}
use Rattle.law_lemmas.proofs.Options.{some_same}

abbrev pub rank : Header → ℕ
rank Places = 1
rank Flights = 2
rank Seats = 3
rank Filings = 4
rank Later = 5
rank Request = 6
rank Script = 7
rank Certificate = 8
rank Ticket = 9
rank End = 10

abbrev ranked : ℕ → Header
ranked n =
    cond (eqb n 1) Places (cond (eqb n 2) Flights (cond (eqb n 3) Seats (cond (eqb n 4) Filings (cond (eqb n 5) Later
    (cond (eqb n 6) Request (cond (eqb n 7) Script (cond (eqb n 8) Certificate (cond (eqb n 9) Ticket End))))))))

rank_tells : (h : Header) → ranked (rank h) ≡ h
rank_tells Places = refl
rank_tells Flights = refl
rank_tells Seats = refl
rank_tells Filings = refl
rank_tells Later = refl
rank_tells Request = refl
rank_tells Script = refl
rank_tells Certificate = refl
rank_tells Ticket = refl
rank_tells End = refl

pub same_rank : (g h : Header) → rank g ≡ rank h → g ≡ h
same_rank g h e = sym (rank_tells g) ∙ ap ranked e ∙ rank_tells h

-- the header that a line is
abbrev header_named : List ℕ → Header
header_named line =
    cond (is_named line Places) Places (cond (is_named line Flights) Flights (cond (is_named line Seats) Seats
    (cond (is_named line Filings) Filings (cond (is_named line Later) Later (cond (is_named line Request) Request
    (cond (is_named line Script) Script (cond (is_named line Certificate) Certificate (cond (is_named line Ticket) Ticket End))))))))

name_tells : (h : Header) → header_named (name_of h) ≡ h
name_tells Places = refl
name_tells Flights = refl
name_tells Seats = refl
name_tells Filings = refl
name_tells Later = refl
name_tells Request = refl
name_tells Script = refl
name_tells Certificate = refl
name_tells Ticket = refl
name_tells End = refl

pub same_named : (g h : Header) → is_named (name_of g) h ≡ true → g ≡ h
same_named g h t = sym (name_tells g) ∙ ap header_named ((bytes_eq-Decides (name_of g) (name_of h)).0 t) ∙ name_tells h

-- headers in their order
abbrev Ascend : List Header → Type 0
Ascend [] = Unit {0}
Ascend (h ∷ hs) = Each (λ g. rank h < rank g) hs × Ascend hs

in_order : (kind : CaseKind) → Ascend (headers_of kind)
in_order Search = search rules
in_order Check = search rules
in_order Serve = search rules
in_order Verdict = search rules

abbrev pub under_rank : Option Header → ℕ
under_rank None = 0
under_rank (Some h) = rank h

-- the next one of headers in order
module _ (old : Header) where
  first_later : (h : Header) (hs : List Header) → Each (λ g. rank h < rank g) hs → old ≡ h → (new : Header) → first_of hs ≡ Some new → rank old < rank new
  first_later h [] a s new e = absurd (cc)
  first_later h (g ∷ gs) a s new e = subst (λ x. rank x < rank new) (sym s) (subst (λ x. rank h < rank x) (some_same g new e) a.0)

  next_later : (hs : List Header) → Ascend hs → (new : Header) → next_of old hs ≡ Some new → rank old < rank new
  next_later [] a new e = absurd (cc)
  next_later (h ∷ hs) a new e = by (is_named (name_of old) h) refl e (next_later hs a.1 new)
    where
      by : (b : Bool) → is_named (name_of old) h ≡ b → cond b (first_of hs) (next_of old hs) ≡ Some new → (next_of old hs ≡ Some new → rank old < rank new) → rank old < rank new
      by true t f rec = first_later h hs a.0 (same_named old h t) new f
      by false t f rec = rec f

  -- none is passed that stands among them
  module _ (mid : Header) (before : rank old < rank mid) where
    first_passes : (h : Header) (hs : List Header) → old ≡ h → Ascend hs → IsIn mid (h ∷ hs) → (new : Header) → first_of hs ≡ Some new → rank new ≤ rank mid
    first_passes h hs s a (inl m) new e = absurd (lower h m s)
      where
        lower : (h : Header) → mid ≡ h → old ≡ h → ⊥
        lower h m s = let e : rank old ≡ rank mid = ap rank (s ∙ sym m) in omega (arith, before)
    first_passes h [] s a (inr m) new e = absurd m
    first_passes h (g ∷ gs) s a (inr (inl m)) new e = let same : rank new ≡ rank mid = ap rank (sym (some_same g new e) ∙ sym m) in omega arith
    first_passes h (g ∷ gs) s a (inr (inr m)) new e = let lt : rank g < rank mid = member_holds (λ x. rank g < rank x) mid gs m a.0 in let same : rank g ≡ rank new = ap rank (some_same g new e) in omega arith

    -- the one that is asked for stands first, and the old one after it
    skipped : (h : Header) → mid ≡ h → (hs : List Header) → Each (λ g. rank h < rank g) hs → (new : Header) → next_of old hs ≡ Some new → rank new ≤ rank mid
    skipped h m [] a new f = absurd (cc)
    skipped h m (g ∷ gs) a new f = by (is_named (name_of old) g) refl f (skipped h m gs a.1 new)
      where
        by : (b : Bool) → is_named (name_of old) g ≡ b → cond b (first_of gs) (next_of old gs) ≡ Some new → (next_of old gs ≡ Some new → rank new ≤ rank mid) → rank new ≤ rank mid
        by true t f rec = let e : rank old ≡ rank g = ap rank (same_named old g t) in let n : rank mid ≡ rank h = ap rank m in absurd (omega (arith, a.0, before))
        by false t f rec = rec f

    next_passes : (hs : List Header) → Ascend hs → IsIn mid hs → (new : Header) → next_of old hs ≡ Some new → rank new ≤ rank mid
    next_passes [] a m new e = absurd m
    next_passes (h ∷ hs) a m new e = by (is_named (name_of old) h) refl e m (next_passes hs a.1)
      where
        by : (b : Bool) → is_named (name_of old) h ≡ b → cond b (first_of hs) (next_of old hs) ≡ Some new → IsIn mid (h ∷ hs) → (IsIn mid hs → (new : Header) → next_of old hs ≡ Some new → rank new ≤ rank mid) → rank new ≤ rank mid
        by true t f i rec = first_passes h hs (same_named old h t) a.1 i new f
        by false t f (inr i) rec = rec i new f
        by false t f (inl i) rec = skipped h i hs a.0 new f

-- ---- the header that is due
pub rank_some : (h : Header) → 0 < rank h
rank_some Places = omega arith
rank_some Flights = omega arith
rank_some Seats = omega arith
rank_some Filings = omega arith
rank_some Later = omega arith
rank_some Request = omega arith
rank_some Script = omega arith
rank_some Certificate = omega arith
rank_some Ticket = omega arith
rank_some End = omega arith

pub due_later : (kind : CaseKind) (under : Option Header) (h : Header) → due kind under ≡ Some h → under_rank under < rank h
due_later kind None h e = rank_some h
due_later kind (Some old) h e = next_later old (headers_of kind) (in_order kind) h e

asks : (kind : CaseKind) → IsIn Request (headers_of kind)
asks Search = inr (inr (inr (inr (inl refl))))
asks Check = inr (inr (inr (inr (inl refl))))
asks Serve = inr (inr (inr (inr (inr (inl refl)))))
asks Verdict = inr (inr (inr (inr (inl refl))))

first_due : (kind : CaseKind) → due kind None ≡ Some Places
first_due Search = refl
first_due Check = refl
first_due Serve = refl
first_due Verdict = refl

pub due_asks : (kind : CaseKind) (under : Option Header) (h : Header) → under_rank under < 6 → due kind under ≡ Some h → rank h ≤ 6
due_asks kind None h lt e = let same : rank Places ≡ rank h = ap rank (some_same Places h (sym (first_due kind) ∙ e)) in omega arith
due_asks kind (Some old) h lt e = next_passes old Request lt (headers_of kind) (in_order kind) (asks kind) h e
