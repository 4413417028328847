-- Lines of a list that were passed one after another.
use Rattle.std.proofs.Common.{◌≡◌, ◌<◌, ◌+◌, ◌-◌, ℕ, suc, List, [], ◌∷◌, ◌++◌, length, map, refl, ap, sym, ◌∙◌, subst, arith, length-append}
use Rattle.certificate_text.specs.declared.faults.CertFault.{CertFault}
use Rattle.certificate_text.specs.Faults.{Due, Passed, FaultFrom}
use Rattle.certificate_text.specs.Unread.{Unread}
use Rattle.certificate_text.proofs.FaultLemmas.{passed_more, fault_more}

map_more : {X : Type 0} (f : X → List ℕ) (xs : List X) (x : X) → map f (xs ++ x ∷ []) ≡ map f xs ++ f x ∷ []
map_more f [] x = refl
map_more f (y ∷ xs) x = ap (λ ys. f y ∷ ys) (map_more f xs x)

-- what is due after the items that are left, and after one of them
pub record DueAfter (dues : ℕ → Due) (Item : ℕ → Due) : Type 0 where
  pub more : (n : ℕ) → dues (suc n) ≡ Item n

one_less : (count n : ℕ) → n < count → count - n ≡ suc (count - (n + 1))
one_less count n h = omega arith

pub item_passed : {X : Type 0} (dues Item : ℕ → Due) (line : X → List ℕ) (k : DueAfter dues Item) (due : Due) (from left rest : Unread) (count : ℕ) (xs new : List X) (x : X)
    → new ≡ xs ++ x ∷ [] → length xs < count → Passed due from (map line xs) (dues (count - length xs)) left
    → ((more : ℕ) → Passed (Item more) left (line x ∷ []) (dues more) rest)
    → Passed due from (map line new) (dues (count - length new)) rest
item_passed dues Item line k due from left rest count xs new x is few p q =
    let many : length new ≡ length xs + 1 = ap length is ∙ length-append xs (x ∷ []) in
    let here : dues (count - length xs) ≡ Item (count - (length xs + 1)) = ap dues (one_less count (length xs) few) ∙ k.more (count - (length xs + 1)) in
    let before : Passed due from (map line xs) (Item (count - (length xs + 1))) left = subst (λ (d : Due). Passed due from (map line xs) d left) here p in
    let all = passed_more before (q (count - (length xs + 1))) in
    subst (λ n. Passed due from (map line new) (dues (count - n)) rest) (sym many)
    (subst (λ ls. Passed due from ls (dues (count - (length xs + 1))) rest) (sym (ap (map line) is ∙ map_more line xs x)) all)

pub item_fault : {X : Type 0} (dues Item : ℕ → Due) (line : X → List ℕ) (k : DueAfter dues Item) (due start : Due) (begun from left : Unread) (count : ℕ) (head : List (List ℕ)) (xs : List X) (fault : CertFault)
    → length xs < count → Passed start begun head due from → Passed due from (map line xs) (dues (count - length xs)) left
    → ((more : ℕ) → FaultFrom (Item more) left fault) → FaultFrom start begun fault
item_fault dues Item line k due start begun from left count head xs fault few h p f =
    let here : dues (count - length xs) ≡ Item (count - (length xs + 1)) = ap dues (one_less count (length xs) few) ∙ k.more (count - (length xs + 1)) in
    let before : Passed due from (map line xs) (Item (count - (length xs + 1))) left = subst (λ (d : Due). Passed due from (map line xs) d left) here p in
    fault_more h fault (fault_more before fault (f (count - (length xs + 1))))
