-- Lines that are passed, and the first that is wrong.
use Rattle.std.proofs.Common.{◌↔◌, true, false, is_some, Result, Ok, Err, IfErr, IsErr, IsErrAnd, ◌≡◌, inr, ℕ, List, [], ◌∷◌, ◌++◌, Option, Some, None, refl, sym, subst}
use Rattle.certificate_text.specs.declared.faults.CertFault.{CertFault}
use Rattle.certificate_text.specs.declared.faults.CertFault.TheVariants.{Syntax, Count, Mem}
use Rattle.certificate_text.specs.Faults.{Due, Nothing, IsOf, Leads, Passed, Miscounts, CountWrong, SyntaxWrong, FirstWrong, FaultFrom}
use Rattle.certificate_text.specs.Unread.{Unread, Takes, IsOver, HasRoom, place}
use Rattle.certificate_text.proofs.TakingLemmas.{room_all, takes_more, takes_one, takes_some}

pub passed_one : (due next : Due) (from left : Unread) (line : List ℕ) → Takes from line left → IsOf due line next → Passed due from (line ∷ []) next left
passed_one due next from left line t is = record { leads = (next, is, refl); taken = (left, t, refl) }

leads_more : (due then last : Due) (xs ys : List (List ℕ)) → Leads due xs then → Leads then ys last → Leads due (xs ++ ys) last
leads_more due then last [] ys h k = subst (λ (d : Due). Leads d ys last) (sym h) k
leads_more due then last (x ∷ xs) ys h k = (h.0, h.1, leads_more h.0 then last xs ys h.2 k)

pub passed_more : {due then last : Due} {from left rest : Unread} {xs ys : List (List ℕ)} → Passed due from xs then left → Passed then left ys last rest → Passed due from (xs ++ ys) last rest
passed_more {due = due} {then = then} {last = last} {from = from} {left = left} {rest = rest} {xs = xs} {ys = ys} p q = record {
  leads = leads_more due then last xs ys p.leads q.leads;
  taken = takes_more from left rest xs ys p.taken q.taken;
}

-- the numbers of lines stay within what is left
pub room_after : {due then : Due} {from left : Unread} {xs : List (List ℕ)} → Passed due from xs then left → HasRoom from → HasRoom left
room_after {from = from} {left = left} {xs = xs} p h = room_all from left xs p.taken h

-- a fault further on is one of all that is read
wrong_more : (Wrong : Due → Unread → Type 0) (due then : Due) (from left : Unread) (n : ℕ) (xs : List (List ℕ)) → Passed due from xs then left → FirstWrong Wrong then left n → FirstWrong Wrong due from n
wrong_more Wrong due then from left n xs p f = record {
  lines = xs ++ f.lines;
  then = f.then;
  left = f.left;
  passed = passed_more p f.passed;
  wrong = f.wrong;
  at = f.at;
}

pub fault_more : {due then : Due} {from left : Unread} {xs : List (List ℕ)} → Passed due from xs then left → (fault : CertFault) → FaultFrom then left fault → FaultFrom due from fault
fault_more {due = due} {then = then} {from = from} {left = left} {xs = xs} p (Syntax n) f = wrong_more SyntaxWrong due then from left n xs p f
fault_more {due = due} {then = then} {from = from} {left = left} {xs = xs} p (Count n) f = wrong_more CountWrong due then from left n xs p f
fault_more p Mem f = tt

-- a fault that a call gave, handed on by `?`
pub handed_on : {A : Type 0} (due : Due) (from : Unread) (r : Result A CertFault) (fault : CertFault) → IsErr r × IsErrAnd r (λ e. e ≡ fault) → FaultFrom due from fault → IfErr r (FaultFrom due from)
handed_on due from (Ok a) fault h f = absurd h.1
handed_on due from (Err e) fault h f = subst (FaultFrom due from) (sym h.1) f

wrong_here : (Wrong : Due → Unread → Type 0) (due : Due) (from : Unread) → Wrong due from → FirstWrong Wrong due from (place from)
wrong_here Wrong due from w = record { lines = []; then = due; left = from; passed = record { leads = refl; taken = refl }; wrong = w; at = refl }

-- a line of another form
pub syntax_here : (due : Due) (from left : Unread) (line : List ℕ) → Takes from line left → ((next : Due) → IsOf due line next → ⊥) → (Miscounts due line → ⊥) → FaultFrom due from (Syntax (place from))
syntax_here due from left line t other count =
    wrong_here SyntaxWrong due from (record {
      other = λ l b.
          let same : line ≡ l = (takes_one from line l left b.0 t b.1).0 in
          subst (λ x. ((next : Due) → IsOf due x next → ⊥) × (Miscounts due x → ⊥)) same (other, count);
      missing = λ none. absurd (takes_some from line left t none);
    })

pub count_here : (due : Due) (from left : Unread) (line : List ℕ) → Takes from line left → Miscounts due line → FaultFrom due from (Count (place from))
count_here due from left line t count = wrong_here CountWrong due from (inr (line, (left, t), count))

pub nothing_follows : (from : Unread) → (IsOver from → ⊥) → FaultFrom Nothing from (Syntax (place from))
nothing_follows from some = wrong_here SyntaxWrong Nothing from (record { other = λ l b. (λ next h. h, λ h. h); missing = λ none. absurd (some none) })

-- what a reader found, and that it found nothing
pub none_spelled : {A : Type 0} (P : A → Type 0) → ((a : A) → (None ≡ Some a) ↔ P a) → (a : A) → P a → ⊥
none_spelled P tells a h = let e = (tells a).1 h in absurd (cc)

pub some_spelled : {A : Type 0} (P : A → Type 0) (x : A) → ((a : A) → (Some x ≡ Some a) ↔ P a) → P x
some_spelled P x tells = (tells x).0 refl

pub is_spelled : {A : Type 0} (P : A → Type 0) (o : Option A) → ((a : A) → (o ≡ Some a) ↔ P a) → is_some o ≡ true → (a : A) × P a
is_spelled P None tells e = absurd (cc)
is_spelled P (Some x) tells e = (x, (tells x).0 refl)

pub not_spelled : {A : Type 0} (P : A → Type 0) (o : Option A) → ((a : A) → (o ≡ Some a) ↔ P a) → is_some o ≡ false → (a : A) → P a → ⊥
not_spelled P None tells e a h = let k = (tells a).1 h in absurd (cc)
not_spelled P (Some x) tells e a h = absurd (cc)
