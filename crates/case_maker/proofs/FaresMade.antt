-- The line of a made case's filing: the rules, and such fares.
use Rattle.std.proofs.Common.{◌≡◌, ◌≢◌, ◌≤◌, ◌<◌, ◌+◌, ◌*◌, ◌/◌, ◌%◌, ◌∙◌, ℕ, zero, suc, List, [], ◌∷◌, ◌++◌, length, slice_index, codes, append_assoc, append-nil, length-append, refl, sym, ap, ap₂, subst, arith, inl, inr}
use Rattle.std.proofs.lemmas.Grind.{flat_map-append}
use Rattle.std.proofs.Math.Nat.{suc-mul}
use Rattle.case_maker.specs.Drawing.{Making, drawing, each_below, said, ◌before◌}
use Rattle.case_maker.specs.Filing.{fare_action as put_action, filing, free_fare, hub_fares, rules, short_fare, way_fare}
use Rattle.case_maker.specs.Names.{away, home, hub, numbered_basis}
use Rattle.fare_filing.specs.Compact.{fare_action}
use Rattle.fare_filing.specs.Text.{kind_text}
use Rattle.fare_law.specs.declared.fares.Fare.{Fare}
use Rattle.fare_law.specs.declared.fares.FareKind.{FareKind}
use Rattle.fare_law.specs.declared.fares.FareKind.TheVariants.{O, R, S}
use Rattle.fare_law.specs.Lists.{Each}
use Rattle.fare_law.specs.Names.{IsCharacter}
use Rattle.law_lemmas.proofs.EachOne.{each_append}
use Rattle.case_maker.specs.Filings.{HasFares, IsFilingLine, IsMadeFare, rules_text}
use Rattle.case_maker.specs.Lines.{lined}
use Rattle.case_maker.specs.Sections.{mx}
use Rattle.case_maker.proofs.LegsNamed.{away_name, home_name, hub_name}
use Rattle.case_maker.proofs.RowsRead.{IsName}
use Rattle.case_maker.proofs.Drawn.{Always, drawn_always, then_always}

-- ---- fares one after another

no_fares : HasFares 0 []
no_fares = record { fares = []; each = tt; few = omega arith; text_is = refl }

fares_joined : (m n : ℕ) (s t : List ℕ) → HasFares m s → HasFares n t → HasFares (m + n) (s ++ t)
fares_joined m n s t h k = record {
  fares = h.fares ++ k.fares;
  each = each_append IsMadeFare h.fares k.fares h.each k.each;
  few = omega (arith, h.few, k.few, length-append h.fares k.fares);
  text_is = ap₂ (λ a b. a ++ b) h.text_is k.text_is ∙ sym (flat_map-append (λ (fare : Fare). 44 ∷ fare_action fare []) h.fares k.fares);
}

then_fares : (m n : ℕ) (one other : Making) → Always (HasFares m) one → Always (HasFares n) other → Always (HasFares (m + n)) (one before other)
then_fares m n one other = then_always (HasFares m) (HasFares n) (HasFares (m + n)) one other (fares_joined m n)

each_fares : (n : ℕ) (make : ℕ → Making) (count : ℕ) → ((i : ℕ) → i < count → Always (HasFares n) (make i)) → Always (HasFares (count * n)) (each_below count make)
unfolding each_below
each_fares n make zero each x = subst (λ k. HasFares k []) {x = 0} {y = 0 * n} (omega arith) no_fares
each_fares n make (suc count) each x =
    let both = then_fares (count * n) n (each_below count make) (make count) (each_fares n make count (λ i h. each i (omega (arith, h)))) (each count (omega arith)) x in
    subst (λ k. HasFares k ((each_below count make before make count) x).text) (sym (suc-mul count n)) both

-- ---- one fare

abbrev fare_of : List ℕ → List ℕ → List ℕ → ℕ → FareKind → ℕ → ℕ → Fare
fare_of from to basis class kind amount rule = record { key = record { carrier = mx; from = record { 0 = from }; to = record { 0 = to }; basis = record { 0 = basis } }; class = class; kind = kind; amount = amount; rule = rule }

-- the action of a made fare of these names, this letter of its class and this one of its kind
abbrev put_of : List ℕ → List ℕ → List ℕ → ℕ → ℕ → ℕ → ℕ → List ℕ
put_of from to basis letter mark amount rule = put_action (record { from = from; to = to; basis = basis; class = letter; kind = mark; amount = amount; rule = rule })

-- the action of a made fare is that of the fare
put_is : (from to basis : List ℕ) (class letter : ℕ) (kind : FareKind) (mark amount rule : ℕ) → letter ≡ 65 + class → mark ∷ [] ≡ kind_text kind
    → put_of from to basis letter mark amount rule ≡ 44 ∷ fare_action (fare_of from to basis class kind amount rule) []
put_is from to basis class letter kind mark amount rule e f = by kind f
  where
    same : (other : ℕ) → put_of from to basis letter other amount rule ≡ put_of from to basis (65 + class) other amount rule
    same other = ap (λ c. put_of from to basis c other amount rule) e

    first_of : (m n : ℕ) → m ∷ [] ≡ n ∷ [] → m ≡ n
    first_of m n h = cc

    marked : (n : ℕ) → mark ∷ [] ≡ n ∷ [] → put_of from to basis letter mark amount rule ≡ put_of from to basis (65 + class) n amount rule
    marked n h = ap (λ m. put_of from to basis letter m amount rule) (first_of mark n h) ∙ same n

    by : (k : FareKind) → mark ∷ [] ≡ kind_text k → put_of from to basis letter mark amount rule ≡ 44 ∷ fare_action (fare_of from to basis class k amount rule) []
    by O h = marked 79 h
    by R h = marked 82 h
    by S h = marked 83 h

-- a basis of four characters
pub record IsShortBasis (basis : List ℕ) : Type 0 where
  pub four : length basis ≡ 4
  pub characters : Each IsCharacter basis

-- names of a fare
pub record AreNames (from to basis : List ℕ) : Type 0 where
  pub from_is : IsName from
  pub to_is : IsName to
  pub basis_is : IsShortBasis basis
  pub apart : from ≢ to

half_even : (half : ℕ) → 2 * half % 2 ≡ 0
half_even half = omega arith

fare_made : (from to basis : List ℕ) (class : ℕ) (kind : FareKind) (amount rule : ℕ) → AreNames from to basis → class ≤ 25 → amount % 2 ≡ 0 → amount ≤ 1000000 → rule ≤ 4
    → IsMadeFare (fare_of from to basis class kind amount rule)
fare_made from to basis class kind amount rule h c even low small = record {
  within = record {
    key = record {
      carrier = (refl, (inr (omega arith, omega arith), (inr (omega arith, omega arith), tt)));
      from = (h.from_is.three, h.from_is.capitals);
      to = (h.to_is.three, h.to_is.capitals);
      basis = (omega (arith, h.basis_is.four), omega (arith, h.basis_is.four), h.basis_is.characters);
    };
    class = c;
    amount = omega (arith, low);
    rule = omega (arith, small);
  };
  carrier = refl;
  apart = λ e. h.apart (ap (λ p. p.0) e);
  even = even;
  rule = small;
}

one_fare : (fare : Fare) (text : List ℕ) → IsMadeFare fare → text ≡ 44 ∷ fare_action fare [] → HasFares 1 text
one_fare fare text h e = record { fares = fare ∷ []; each = (h, tt); few = omega arith; text_is = e ∙ sym (append-nil (44 ∷ fare_action fare [])) }

-- ---- the fares of a made case

abbrev class_at : ℕ → ℕ
class_at zero = 24
class_at (suc zero) = 12
class_at (suc (suc n)) = 16

class_is : (k : ℕ) → k < 3 → slice_index (codes "YMQ") k ≡ 65 + class_at k
class_is zero h = refl
class_is (suc zero) h = refl
class_is (suc (suc zero)) h = refl
class_is (suc (suc (suc n))) h = absurd (omega (arith, h))

class_small : (k : ℕ) → class_at k ≤ 25
class_small zero = omega arith
class_small (suc zero) = omega arith
class_small (suc (suc n)) = omega arith

abbrev kind_at : ℕ → FareKind
kind_at zero = O
kind_at (suc zero) = R
kind_at (suc (suc n)) = S

kind_is : (k : ℕ) → k < 3 → slice_index (codes "ORS") k ∷ [] ≡ kind_text (kind_at k)
kind_is zero h = refl
kind_is (suc zero) h = refl
kind_is (suc (suc zero)) h = refl
kind_is (suc (suc (suc n))) h = absurd (omega (arith, h))

pub home_away : home ≢ away
home_away e = omega (arith, ap (λ xs. slice_index xs 0) e)

pub home_hub : (i : ℕ) → home ≢ hub i
home_hub i e = omega (arith, ap (λ xs. slice_index xs 0) e)

hub_away : (i : ℕ) → hub i ≢ away
hub_away i e = omega (arith, ap (λ xs. slice_index xs 0) e)

digit : (d : ℕ) → d ≤ 9 → IsCharacter (48 + d)
digit d h = inl (omega arith, omega (arith, h))

basis_name : (j : ℕ) → j < 1000 → IsShortBasis (numbered_basis j)
basis_name j h = record { four = refl; characters = (inr (omega arith, omega arith), (digit (j / 100) (omega (arith, h)), (digit (j / 10 % 10) (omega arith), (digit (j % 10) (omega arith), tt)))) }

zero_basis : (c : ℕ) → 65 ≤ c → c ≤ 90 → IsShortBasis (c ∷ 48 ∷ 48 ∷ 48 ∷ [])
zero_basis c low high = record { four = refl; characters = (inr (low, high), (digit 0 (omega arith), (digit 0 (omega arith), (digit 0 (omega arith), tt)))) }

abbrev filed : ℕ → ℕ → ℕ → ℕ → ℕ → Making
filed j class kind amount rule = said (put_of home away (numbered_basis j) (slice_index (codes "YMQ") class) (slice_index (codes "ORS") kind) (10000 + 2 * amount) rule)

way_fares : (j : ℕ) → j < 1000 → Always (HasFares 1) (way_fare j)
way_fares j low =
    drawn_always (HasFares 1) 3 (λ class. drawing 3 (λ kind. drawing 20000 (λ amount. drawing 5 (filed j class kind amount)))) (omega arith) (λ class few.
    drawn_always (HasFares 1) 3 (λ kind. drawing 20000 (λ amount. drawing 5 (filed j class kind amount))) (omega arith) (λ kind some.
    drawn_always (HasFares 1) 20000 (λ amount. drawing 5 (filed j class kind amount)) (omega arith) (λ amount least.
    drawn_always (HasFares 1) 5 (filed j class kind amount) (omega arith) (λ rule small x.
    one_fare (fare_of home away (numbered_basis j) (class_at class) (kind_at kind) (10000 + 2 * amount) rule) _
    (fare_made home away (numbered_basis j) (class_at class) (kind_at kind) (10000 + 2 * amount) rule (record { from_is = home_name; to_is = away_name; basis_is = basis_name j low; apart = home_away }) (class_small class) (omega arith) (omega (arith, least)) (omega (arith, small)))
    (put_is home away (numbered_basis j) (class_at class) (slice_index (codes "YMQ") class) (kind_at kind) (slice_index (codes "ORS") kind) (10000 + 2 * amount) rule (class_is class few) (kind_is kind some))))))

free_fares : (from to basis : List ℕ) (amount : ℕ) → AreNames from to basis → amount % 2 ≡ 0 → amount ≤ 1000000 → Always (HasFares 1) (free_fare from to basis amount)
free_fares from to basis amount h even low x =
    one_fare (fare_of from to basis 24 O amount 0) _ (fare_made from to basis 24 O amount 0 h (omega arith) even low (omega arith)) (put_is from to basis 24 89 O 79 amount 0 refl refl)

short_fares : (from to : List ℕ) → AreNames from to (codes "V000") → Always (HasFares 1) (short_fare from to)
short_fares from to h = drawn_always (HasFares 1) 4000 (λ amount. free_fare from to (codes "V000") (4000 + 2 * amount)) (omega arith) (λ amount low. free_fares from to (codes "V000") (4000 + 2 * amount) h (omega arith) (omega (arith, low)))

hub_has_fares : (i : ℕ) → i < 100 → Always (HasFares 2) (hub_fares i)
hub_has_fares i h =
    then_fares 1 1 (short_fare home (hub i)) (short_fare (hub i) away)
    (short_fares home (hub i) (record { from_is = home_name; to_is = hub_name i h; basis_is = zero_basis 86 (omega arith) (omega arith); apart = home_hub i }))
    (short_fares (hub i) away (record { from_is = hub_name i h; to_is = away_name; basis_is = zero_basis 86 (omega arith) (omega arith); apart = hub_away i }))

-- ---- the line

abbrev hubs_filed : ℕ → Making
hubs_filed size = each_below size hub_fares before said (codes "]}\n")

abbrev ways_filed : ℕ → Making
ways_filed size = each_below (2 * size) way_fare before free_fare away home (codes "Z000") 30000 before hubs_filed size

-- fares, and after them the end of the line
abbrev Ending : ℕ → List ℕ → Type 0
Ending n t = (fares : List ℕ) × HasFares n fares × (t ≡ fares ++ codes "]}\n")

ending : (m n : ℕ) (s t : List ℕ) → HasFares m s → Ending n t → Ending (m + n) (s ++ t)
ending m n s t h (fares, has, is) = (s ++ fares, fares_joined m n s fares h has, ap (λ u. s ++ u) is ∙ sym (append_assoc s fares (codes "]}\n")))

then_ending : (m n : ℕ) (one other : Making) → Always (HasFares m) one → Always (Ending n) other → Always (Ending (m + n)) (one before other)
then_ending m n one other = then_always (HasFares m) (Ending n) (Ending (m + n)) one other (ending m n)

ended : Always (Ending 0) (said (codes "]}\n"))
ended x = ([], no_fares, refl)

fares_filed : (size : ℕ) → size ≤ 100 → Always (Ending (2 * size * 1 + (1 + (size * 2 + 0)))) (ways_filed size)
fares_filed size small =
    then_ending (2 * size * 1) (1 + (size * 2 + 0)) (each_below (2 * size) way_fare) (free_fare away home (codes "Z000") 30000 before hubs_filed size) (each_fares 1 way_fare (2 * size) (λ j h. way_fares j (omega (arith, h, small))))
    (then_ending 1 (size * 2 + 0) (free_fare away home (codes "Z000") 30000) (hubs_filed size)
    (free_fares away home (codes "Z000") 30000 (record { from_is = away_name; to_is = home_name; basis_is = zero_basis 90 (omega arith) (omega arith); apart = λ e. home_away (sym e) }) (omega arith) (omega arith))
    (then_ending (size * 2) 0 (each_below size hub_fares) (said (codes "]}\n")) (each_fares 2 hub_fares size (λ i h. hub_has_fares i (omega (arith, h, small)))) ended))

-- The section of a filing: its header and its line.
pub record IsFiled (size : ℕ) (text : List ℕ) : Type 0 where
  pub line : List ℕ
  pub is : IsFilingLine size line
  pub text_is : text ≡ lined (codes "#filings" ∷ line ∷ [])

filed_line : (size : ℕ) (s t u : List ℕ) → s ≡ codes "#filings\n{\"actions\":[" → t ≡ rules_text → Ending (2 * size * 1 + (1 + (size * 2 + 0))) u → IsFiled size (s ++ (t ++ u))
filed_line size s t u e f (fares, has, is) =
    let few : 2 * size * 1 + (1 + (size * 2 + 0)) ≡ 4 * size + 1 = omega arith in
    let front = codes "{\"actions\":[" in
    record {
      line = front ++ (rules_text ++ (fares ++ codes "]}"));
      is = record { text = fares; has = subst (λ n. HasFares n fares) few has; line_is = refl };
      text_is =
          ap (λ x. x ++ (t ++ u)) e ∙ ap (λ x. codes "#filings\n{\"actions\":[" ++ (x ++ u)) f
          ∙ ap (λ x. codes "#filings\n{\"actions\":[" ++ (rules_text ++ x)) (is ∙ sym (append_assoc fares (codes "]}") (10 ∷ [])))
          ∙ ap (λ x. codes "#filings\n{\"actions\":[" ++ x) (sym (append_assoc rules_text (fares ++ codes "]}") (10 ∷ [])))
          ∙ ap (λ x. codes "#filings\n" ++ x) (sym (append-nil (front ++ ((rules_text ++ (fares ++ codes "]}")) ++ 10 ∷ []))));
    }

-- the rules, and after them the fares
record After (size : ℕ) (v : List ℕ) : Type 0 where
  first : List ℕ
  later : List ℕ
  parts : v ≡ first ++ later
  rules_are : first ≡ rules_text
  ends : Ending (2 * size * 1 + (1 + (size * 2 + 0))) later

pub filing_section : (size : ℕ) → size ≤ 100 → Always (IsFiled size) (filing size)
filing_section size small =
    then_always (λ t. t ≡ codes "#filings\n{\"actions\":[") (After size) (IsFiled size) (said (codes "#filings\n{\"actions\":[")) (rules before ways_filed size) (λ s t e h. joined s t e h) (λ x. refl)
    (then_always (λ t. t ≡ rules_text) (Ending (2 * size * 1 + (1 + (size * 2 + 0)))) (After size) rules (ways_filed size) (λ s t e h. record { first = s; later = t; parts = refl; rules_are = e; ends = h }) (λ x. refl) (fares_filed size small))
  where
    joined : (s v : List ℕ) → s ≡ codes "#filings\n{\"actions\":[" → After size v → IsFiled size (s ++ v)
    joined s v e a = subst (λ w. IsFiled size (s ++ w)) (sym a.parts) (filed_line size s a.first a.later e a.rules_are a.ends)
