-- What is read has one first line at which it ends or is wrong: so it is of one certificate or has one fault, and not both.
use Rattle.std.proofs.Common.{◌≡◌, inl, inr, ℕ, List, [], ◌∷◌, get_or, refl, ap, ap₂, sym, ◌∙◌, subst, arith}
use Rattle.std.specs.Prelude.{codes}
use Rattle.std.proofs.lemmas.Option.{same_Some}
use Rattle.certificate.specs.declared.parts.Certificate.{Certificate}
use Rattle.certificate_text.specs.CertText.{IsRequestText, cert_lines}
use Rattle.certificate_text.specs.declared.faults.CertFault.{CertFault}
use Rattle.certificate_text.specs.declared.faults.CertFault.TheVariants.{Syntax, Count, Mem}
use Rattle.certificate_text.specs.Faults.{Due, Head, Version, Asked, AnswerCount, Answer, RowCount, Row, End, Nothing, answers_due, rows_due, IsOf, Leads, Miscounts, CountWrong, SyntaxWrong, FirstWrong, FaultFrom}
use Rattle.certificate_text.specs.Lines.{SpellsNumber}
use Rattle.certificate_text.specs.LineReading.{number_spelled}
use Rattle.certificate_text.specs.Readings.{OneFault}
use Rattle.certificate_text.specs.Unread.{Unread, Takes, TakesAll, IsOver, place}
use Rattle.certificate_text.proofs.LineWords.{Numbers, number_exact}
use Rattle.certificate_text.proofs.TakingLemmas.{takes_one, takes_some}

-- ---- a line is of one form

number_one : Numbers → (name line : List ℕ) (n m : ℕ) → SpellsNumber name line n → SpellsNumber name line m → n ≡ m
number_one k name line n m s t =
    same_Some n m (sym ((number_exact k name line (number_spelled name line) refl n).1 s) ∙ (number_exact k name line (number_spelled name line) refl m).1 t)

-- what is due after a line is one
next_one : Numbers → (due : Due) (line : List ℕ) (a b : Due) → IsOf due line a → IsOf due line b → a ≡ b
next_one k Head line a b h g = h.1 ∙ sym g.1
next_one k Version line a b h g = h.2 ∙ sym g.2
next_one k Asked line a b h g = h.2 ∙ sym g.2
next_one k AnswerCount line a b h g = h.2 ∙ ap answers_due (number_one k (codes "answers") line h.0 g.0 h.1 g.1) ∙ sym g.2
next_one k (Answer more) line a b h g = h.2 ∙ sym g.2
next_one k RowCount line a b h g = h.2 ∙ ap rows_due (number_one k (codes "rows") line h.0 g.0 h.1 g.1) ∙ sym g.2
next_one k (Row more) line a b h g = h.2 ∙ sym g.2
next_one k End line a b h g = h.1 ∙ sym g.1
next_one k Nothing line a b h g = absurd h

first_differs : (xs ys line : List ℕ) → line ≡ xs → line ≡ ys → (get_or xs 0 0 ≡ get_or ys 0 0 → ⊥) → ⊥
first_differs xs ys line e f other = other (ap (λ (t : List ℕ). get_or t 0 0) (sym e ∙ f))

-- a line of the form that is due isn't one at which a count is wrong: the two begin with different bytes
right_count : (due : Due) (line : List ℕ) (next : Due) → IsOf due line next → Miscounts due line → ⊥
right_count Head line next h m = m
right_count Version line next h m = m
right_count Asked line next h m = m
right_count AnswerCount line next h m = m
right_count (Answer more) line next h m = first_differs _ _ line h.1.written m.1.written (λ e. omega (arith, e))
right_count RowCount line next h m = first_differs _ _ line h.1.written m.1.written (λ e. omega (arith, e))
right_count (Row more) line next h m = first_differs _ _ line h.1.written m (λ e. omega (arith, e))
right_count End line next h m = first_differs _ _ line h.0 m.1.written (λ e. omega (arith, e))
right_count Nothing line next h m = m

-- ---- where reading stops

-- no first line is of the form that is due
abbrev IsStuck : Due → Unread → Type 0
IsStuck due from = (line : List ℕ) (next : Due) (left : Unread) → Takes from line left → IsOf due line next → ⊥

-- what is passed until no further line is of the form that is due
record Stops (due : Due) (from : Unread) (lines : List (List ℕ)) (then : Due) (left : Unread) : Type 0 where
  leads : Leads due lines then
  taken : TakesAll from lines left
  stuck : IsStuck then left

stops_rest : (due : Due) (from : Unread) (line : List ℕ) (lines : List (List ℕ)) (then next : Due) (left mid : Unread) (s : Stops due from (line ∷ lines) then left)
    → s.leads.0 ≡ next → s.taken.0 ≡ mid → Stops next mid lines then left
stops_rest due from line lines then next left mid s d u = record {
  leads = subst (λ (z : Due). Leads z lines then) d s.leads.2;
  taken = subst (λ (z : Unread). TakesAll z lines left) u s.taken.2;
  stuck = s.stuck;
}

not_further : (due : Due) (from : Unread) (line : List ℕ) (lines : List (List ℕ)) (then other : Due) (left last : Unread) → Stops due from [] then left → Stops due from (line ∷ lines) other last → ⊥
not_further due from line lines then other left last s t =
    s.stuck line t.leads.0 t.taken.0 (subst (λ (z : Unread). Takes z line t.taken.0) s.taken t.taken.1) (subst (λ (z : Due). IsOf z line t.leads.0) s.leads t.leads.1)

-- it is one
stops_one : Numbers → (due : Due) (from : Unread) (xs ys : List (List ℕ)) (d e : Due) (v w : Unread) → Stops due from xs d v → Stops due from ys e w → (xs ≡ ys) × (d ≡ e) × (v ≡ w)
stops_one k due from [] [] d e v w s t = (refl, sym s.leads ∙ t.leads, sym s.taken ∙ t.taken)
stops_one k due from [] (y ∷ ys) d e v w s t = absurd (not_further due from y ys d e v w s t)
stops_one k due from (x ∷ xs) [] d e v w s t = absurd (not_further due from x xs e d w v t s)
stops_one k due from (x ∷ xs) (y ∷ ys) d e v w s t =
    let one = takes_one from x y s.taken.0 t.taken.0 s.taken.1 t.taken.1 in
    let next = next_one k due y s.leads.0 t.leads.0 (subst (λ (z : List ℕ). IsOf due z s.leads.0) one.0 s.leads.1) t.leads.1 in
    let r = stops_one k t.leads.0 t.taken.0 xs ys d e v w (stops_rest due from x xs d t.leads.0 v t.taken.0 s next one.1) (stops_rest due from y ys e t.leads.0 w t.taken.0 t refl refl) in
    (ap₂ (λ z zs. z ∷ zs) one.0 r.0, r.1, r.2)

count_stuck : (due : Due) (from : Unread) → CountWrong due from → IsStuck due from
count_stuck due from (inl h) line next left t is = takes_some from line left t h.1
count_stuck due from (inr (other, b, count)) line next left t is =
    right_count due line next is (subst (Miscounts due) (sym (takes_one from line other left b.0 t b.1).0) count)

syntax_stuck : (due : Due) (from : Unread) → SyntaxWrong due from → IsStuck due from
syntax_stuck due from w line next left t is = (w.other line (left, t)).0 next is

not_both : (due : Due) (from : Unread) → CountWrong due from → SyntaxWrong due from → ⊥
not_both due from (inl h) w = (w.missing h.1).0 h.0
not_both due from (inr (line, b, count)) w = (w.other line b).1 count

wrong_stops : (Wrong : Due → Unread → Type 0) → ((due : Due) (from : Unread) → Wrong due from → IsStuck due from) → (due : Due) (from : Unread) (n : ℕ) (f : FirstWrong Wrong due from n) → Stops due from f.lines f.then f.left
wrong_stops Wrong stuck due from n f = record { leads = f.passed.leads; taken = f.passed.taken; stuck = stuck f.then f.left f.wrong }

place_one : (W V : Due → Unread → Type 0) → ((due : Due) (from : Unread) → W due from → IsStuck due from) → ((due : Due) (from : Unread) → V due from → IsStuck due from) → Numbers
    → (due : Due) (from : Unread) (m n : ℕ) (f : FirstWrong W due from m) (g : FirstWrong V due from n) → (f.then ≡ g.then) × (f.left ≡ g.left) × (m ≡ n)
place_one W V w v k due from m n f g =
    let r = stops_one k due from f.lines g.lines f.then g.then f.left g.left (wrong_stops W w due from m f) (wrong_stops V v due from n g) in
    (r.1, r.2, f.at ∙ ap place r.2 ∙ sym g.at)

both_wrong : Numbers → (due : Due) (from : Unread) (m n : ℕ) → FirstWrong SyntaxWrong due from m → FirstWrong CountWrong due from n → ⊥
both_wrong k due from m n f g =
    let r = place_one SyntaxWrong CountWrong syntax_stuck count_stuck k due from m n f g in
    not_both g.then g.left g.wrong (subst (SyntaxWrong g.then) r.1 (subst (λ (z : Due). SyntaxWrong z f.left) r.0 f.wrong))

pub one_fault : Numbers → OneFault
one_fault k from Mem g f_some g_some h i = absurd (f_some refl)
one_fault k from (Syntax m) Mem f_some g_some h i = absurd (g_some refl)
one_fault k from (Count m) Mem f_some g_some h i = absurd (g_some refl)
one_fault k from (Syntax m) (Syntax n) f_some g_some h i = ap Syntax (place_one SyntaxWrong SyntaxWrong syntax_stuck syntax_stuck k Head from m n h i).2
one_fault k from (Count m) (Count n) f_some g_some h i = ap Count (place_one CountWrong CountWrong count_stuck count_stuck k Head from m n h i).2
one_fault k from (Syntax m) (Count n) f_some g_some h i = absurd (both_wrong k Head from m n h i)
one_fault k from (Count m) (Syntax n) f_some g_some h i = absurd (both_wrong k Head from n m i h)

-- ---- certificates

-- the lines of a certificate, and nothing after them
pub record Whole (from : Unread) (c : Certificate) : Type 0 where
  pub request : List ℕ
  pub is : IsRequestText c.request request
  pub leads : Leads Head (cert_lines c request) Nothing
  pub left : Unread
  pub taken : TakesAll from (cert_lines c request) left
  pub over : IsOver left

whole_stops : (from : Unread) (c : Certificate) (w : Whole from c) → Stops Head from (cert_lines c w.request) Nothing w.left
whole_stops from c w = record { leads = w.leads; taken = w.taken; stuck = λ line next left t is. is }

pub whole_one : Numbers → (from : Unread) (c d : Certificate) (w : Whole from c) (v : Whole from d) → cert_lines c w.request ≡ cert_lines d v.request
whole_one k from c d w v = (stops_one k Head from (cert_lines c w.request) (cert_lines d v.request) Nothing Nothing w.left v.left (whole_stops from c w) (whole_stops from d v)).0

no_wrong : (left : Unread) → IsOver left → (SyntaxWrong Nothing left → ⊥) × (CountWrong Nothing left → ⊥)
no_wrong left over = (λ w. (w.missing over).1 refl, none)
  where
    none : CountWrong Nothing left → ⊥
    none (inl h) = h.0
    none (inr (line, b, count)) = count

whole_right : (Wrong : Due → Unread → Type 0) → ((due : Due) (from : Unread) → Wrong due from → IsStuck due from) → ((left : Unread) → IsOver left → Wrong Nothing left → ⊥)
    → Numbers → (from : Unread) (c : Certificate) → Whole from c → (n : ℕ) → FirstWrong Wrong Head from n → ⊥
whole_right Wrong stuck none k from c w n f =
    let r = stops_one k Head from f.lines (cert_lines c w.request) f.then Nothing f.left w.left (wrong_stops Wrong stuck Head from n f) (whole_stops from c w) in
    none w.left w.over (subst (Wrong Nothing) r.2 (subst (λ (z : Due). Wrong z f.left) r.1 f.wrong))

pub no_fault : Numbers → (from : Unread) (c : Certificate) (fault : CertFault) → Whole from c → FaultFrom Head from fault → fault ≡ Mem
no_fault k from c (Syntax n) w f = absurd (whole_right SyntaxWrong syntax_stuck (λ left over. (no_wrong left over).0) k from c w n f)
no_fault k from c (Count n) w f = absurd (whole_right CountWrong count_stuck (λ left over. (no_wrong left over).1) k from c w n f)
no_fault k from c Mem w f = refl
