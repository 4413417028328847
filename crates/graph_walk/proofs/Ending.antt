-- What a walk from the root has found, that it is more than the budget, and how large prices get. This file is given on to the crates above.
use Rattle.std.proofs.Common.{◌≡◌, ◌≢◌, ◌⊎◌, ◌∙◌, ℕ, suc, ◌+◌, ◌*◌, ◌≤◌, ◌<◌, get_or, List, [], ◌∷◌, ◌++◌, length, Option, Some, None, IfSome, refl, sym, subst, inl, inr, ⊎_elim, arith}
use Rattle.fare_law.specs.Lists.{HasMany, AllDifferent, Each, IsIn}
use Rattle.graph_walk.specs.Walks.{AreLeast, AreReached, Reached, Costs, IsShort, LeastBy, states}
use Rattle.graph_walk.specs.Walks.Reached.{here, further}
use Rattle.graph_walk.specs.Walks.Costs.{over, goes}
use Rattle.graph_walk.specs.declared.outcome.Outcome.{Outcome}
use Rattle.graph_walk.specs.declared.faults.WalkFault.{WalkFault}
use Rattle.graph_walk.specs.declared.faults.WalkFault.TheVariants.{TooLarge, Mem}
use Rattle.graph_walk.specs.Steps.{AreOutcomes, LeadToLive, outcome_of, outcomes_of, ExceedsIf, lesser, Good, Walked}
use Rattle.graph_walk.proofs.RowFacts.{row_in, states_length, outcome_in}
use Rattle.graph_walk.proofs.Going.{Going, sooner, follows, goes_on}
use Rattle.law_lemmas.proofs.EachOne.{each_from, each_member}
use Rattle.law_lemmas.proofs.Members.{in_list}
use Rattle.law_lemmas.proofs.Options.{none_some, some_same}

-- from the empty rows all is new
all_new : {X : Type 0} (L : X → Option X → ℕ → Type 0) (Known Known' : X → Type 0) (root : X) (rows : List (X × Option ℕ)) → Walked L Known Known' root [] rows
    → (y : X) → IsIn y (states rows) → Reached L root y × Good L Known' rows y
all_new L Known Known' root rows w y i = ⊎_elim (λ n. absurd n) (λ p. p) (w.new y i)

has_reached : {X : Type 0} (L : X → Option X → ℕ → Type 0) (Known : X → Type 0) (root : X) (rows : List (X × Option ℕ)) → IsIn root (states rows)
    → ((y : X) → IsIn y (states rows) → Good L Known rows y) → (y : X) → Reached L root y → IsIn y (states rows)
has_reached L Known root rows first all _ here = first
has_reached L Known root rows first all _ (further x y p r l) = (all x (has_reached L Known root rows first all x r)).closed y p l

pub are_reached : {X : Type 0} (L : X → Option X → ℕ → Type 0) (Known Known' : X → Type 0) (root : X) (rows : List (X × Option ℕ)) → Walked L Known Known' root [] rows → Good L Known' rows root
    → AreReached L root (states rows)
are_reached L Known Known' root rows w g = record {
  once = w.once;
  are = λ x. (λ i. (all_new L Known Known' root rows w x i).0, has_reached L Known' root rows g.has (λ y i. (all_new L Known Known' root rows w y i).1) x);
}

pub are_least : {X : Type 0} (L : X → Option X → ℕ → Type 0) (Known Known' : X → Type 0) (root : X) (rows : List (X × Option ℕ)) → Walked L Known Known' root [] rows → AreLeast L rows
are_least L Known Known' root rows w = each_from (λ row. LeastBy (Costs L (Some row.0)) row.1) rows (λ row i. (all_new L Known Known' root rows w row.0 (row_in row.0 row.1 rows i)).1.least row.1 i)

pub are_known : {X : Type 0} (L : X → Option X → ℕ → Type 0) (Known Known' : X → Type 0) (root : X) (rows : List (X × Option ℕ)) → Walked L Known Known' root [] rows → Each Known' (states rows)
are_known L Known Known' root rows w = each_from Known' (states rows) (λ y i. (all_new L Known Known' root rows w y i).1.known)

-- no room for one more
pub too_many : {X : Type 0} (L : X → Option X → ℕ → Type 0) (x : X) (rows : List (X × Option ℕ)) (budget : ℕ) → AllDifferent (states rows) → (IsIn x (states rows) → ⊥) → length rows ≡ budget
    → HasMany (suc budget) (λ y. IsIn y (states rows) ⊎ Reached L x y)
too_many L x rows budget once none full = let n = states_length rows in (
  x ∷ states rows,
  omega (arith, n, full),
  (each_from (λ y. x ≢ y) (states rows) (λ y i e. none (subst (λ z. IsIn z (states rows)) (sym e) i)), once),
  (inr here, each_from _ (states rows) (λ y i. inl i)),
)

pub exceeds_as : {X : Type 0} (P Q : X → Type 0) (budget : ℕ) → ((x : X) → P x → Q x) → HasMany (suc budget) P → HasMany (suc budget) Q
exceeds_as P Q budget f e = (e.0, e.1, e.2, each_from Q e.0 (λ x i. f x (each_member P x e.0 e.3 i)))

-- what is left of a list of what is reached from a state
pub short_after : {X : Type 0} (L : X → Option X → ℕ → Type 0) (level : X → ℕ) (x y : X) (price : ℕ) → L x (Some y) price → IsShort L level x → IsShort L level y
short_after L level x y price l s = record {
  raises = λ a b p r m. s.raises a b p (sooner L x y price l a r) m;
  few = λ a r. s.few a (sooner L x y price l a r);
  low = λ a n p r m. s.low a n p (sooner L x y price l a r) m;
}

abbrev LowFrom : {X : Type 0} → (X → Option X → ℕ → Type 0) → (X → ℕ) → Option X → ℕ → Type 0
LowFrom L level None price = ◌≡◌ {A = ℕ} price 0
LowFrom L level (Some x) price = IsShort L level x → price + 4294967296 * level x ≤ 81604378624

low_goes : {X : Type 0} (L : X → Option X → ℕ → Type 0) (level : X → ℕ) (x : X) (next : Option X) (move rest price : ℕ) → L x next move → price ≡ move + rest → LowFrom L level next rest → LowFrom L level (Some x) price
low_goes L level x None move rest price l e low s = let m = s.low x None move here l in let f = s.few x here in omega (arith, m, f, e, low)
low_goes L level x (Some y) move rest price l e low s =
    let m = s.low x (Some y) move here l in let up = s.raises x y move here l in let r = low (short_after L level x y move l s) in omega (arith, m, up, r, e)

low_from : {X : Type 0} (L : X → Option X → ℕ → Type 0) (level : X → ℕ) (at : Option X) (price : ℕ) → Costs L at price → LowFrom L level at price
low_from L level _ price (over _ e) = e
low_from L level _ price (goes x next move rest _ l c e) = low_goes L level x next move rest price l e (low_from L level next rest c)

pub low_costs : {X : Type 0} (L : X → Option X → ℕ → Type 0) (level : X → ℕ) (x : X) (price : ℕ) → IsShort L level x → Costs L (Some x) price → price ≤ 81604378624
low_costs L level x price s c = let h = low_from L level (Some x) price c s in omega (arith, h)

pub exceeds_if : {X : Type 0} (P Q : X → Type 0) (budget : ℕ) (fault : WalkFault) → ((x : X) → P x → Q x) → ExceedsIf P budget fault → ExceedsIf Q budget fault
exceeds_if P Q budget TooLarge f e = exceeds_as P Q budget f e
exceeds_if P Q budget Mem f e = tt

-- what a walk that went too far from an outcome has found is found from the state
pub from_here : {X : Type 0} (L : X → Option X → ℕ → Type 0) (K0 K1 : X → Type 0) (x next : X) (price : ℕ) (rows0 rows1 : List (X × Option ℕ)) (done : List (Outcome X)) (least : Option ℕ)
    → L x (Some next) price → Going L K0 K1 x rows0 rows1 done least → (y : X) → IsIn y (states rows1) ⊎ Reached L next y → IsIn y (states rows0) ⊎ Reached L x y
from_here L K0 K1 x next price rows0 rows1 done least l g y h = ⊎_elim
    (λ i. ⊎_elim (λ a. inl a) (λ b. ⊎_elim (λ e. inr (subst (λ z. Reached L x z) (sym e) here)) (λ p. inr p.0) b) (g.new y i))
    (λ r. inr (sooner L x next price l y r)) h

-- prices fit
pub low_rest : {X : Type 0} (L : X → Option X → ℕ → Type 0) (level : X → ℕ) (x : X) (next : Option X) (price : ℕ) (rest : Option ℕ) → IsShort L level x → L x next price → LeastBy (Costs L next) rest
    → IfSome rest (λ r. price + r < 18446744073709551616)
low_rest L level x next price None s l c = tt
low_rest L level x next price (Some r) s l c = let h = low_costs L level x (price + r) s (goes x next price r (price + r) l c.0 refl) in omega (arith, h)

-- an outcome is a move
pub move_of : {K X : Type 0} (L : X → Option X → ℕ → Type 0) (state : K → X) (x : X) (os items : List (Outcome K)) (i : ℕ) (o : Outcome K) → AreOutcomes L x (outcomes_of state items) → os ≡ items → i < length os → o ≡ get_or os i o
    → L x (outcome_of state o).next o.price
move_of L state x os items i o a same h is =
    let one : IsIn o items = subst (λ l. IsIn o l) same (subst (λ z. IsIn z os) (sym is) (in_list os i o h)) in
    each_member (λ z. L x z.next z.price) (outcome_of state o) (outcomes_of state items) a.attained (outcome_in state o items one)

-- and leads to a live key
pub live_of : {K : Type 0} (live : K → Type 0) (os items : List (Outcome K)) (i : ℕ) (o : Outcome K) (next : K) → LeadToLive live items → os ≡ items → i < length os → o ≡ get_or os i o → o.next ≡ Some next → live next
live_of live os items i o next all same h is e =
    let one : IsIn o items = subst (λ l. IsIn o l) same (subst (λ z. IsIn z os) (sym is) (in_list os i o h)) in
    subst (λ n. IfSome n live) e (each_member (λ z. IfSome z.next live) o items all one)

pub least_over : {X : Type 0} (L : X → Option X → ℕ → Type 0) (next : Option X) (rest : Option ℕ) → next ≡ None → rest ≡ Some 0 → LeastBy (Costs L next) rest
least_over L next rest e z = subst (λ n. LeastBy (Costs L n) rest) (sym e) (subst (λ r. LeastBy (Costs L None) r) (sym z) (over 0 refl, λ p c. omega arith))

-- one turn
pub turn_over : {X S : Type 0} (L : X → Option X → ℕ → Type 0) (K : S → X → Type 0) (s0 s1 s2 : S) (x : X) (rows0 rows1 rows2 : List (X × Option ℕ)) (done : List (Outcome X)) (o : Outcome X) (least rest : Option ℕ)
    → s2 ≡ s1 → rows2 ≡ rows1 → rest ≡ Some 0 → o.next ≡ None → Going L (K s0) (K s1) x rows0 rows1 done least → Going L (K s0) (K s2) x rows0 rows2 (done ++ o ∷ []) (lesser least rest o.price)
turn_over L K s0 s1 s2 x rows0 rows1 rows2 done o least rest es er ez en g =
    let g2 = subst (λ s. Going L (K s0) (K s) x rows0 rows2 done least) (sym es) (subst (λ rs. Going L (K s0) (K s1) x rows0 rs done least) (sym er) g) in
    follows L (K s0) (K s2) x rows0 rows2 done o least rest g2 (λ y e. absurd (none_some y (sym en ∙ e))) (least_over L o.next rest en ez)

pub turn_on : {X S : Type 0} (L : X → Option X → ℕ → Type 0) (K : S → X → Type 0) (s0 s1 s2 s3 : S) (x next : X) (rows0 rows1 rows2 rows3 : List (X × Option ℕ)) (done : List (Outcome X)) (o : Outcome X) (least rest rest3 : Option ℕ)
    → s2 ≡ s3 → rows2 ≡ rows3 → rest ≡ rest3 → o.next ≡ Some next → L x o.next o.price → ((y : X) → K s1 y → K s3 y) → Walked L (K s1) (K s3) next rows1 rows3 → Good L (K s3) rows3 next → LeastBy (Costs L (Some next)) rest3
    → Going L (K s0) (K s1) x rows0 rows1 done least → Going L (K s0) (K s2) x rows0 rows2 (done ++ o ∷ []) (lesser least rest o.price)
turn_on L K s0 s1 s2 s3 x next rows0 rows1 rows2 rows3 done o least rest rest3 es er ez en l stays w here_good c g =
    let g3 = goes_on L (K s0) (K s1) (K s3) x next o.price rows0 rows1 rows3 done least stays (subst (λ n. L x n o.price) en l) g w in
    let g2 = subst (λ s. Going L (K s0) (K s) x rows0 rows2 done least) (sym es) (subst (λ rs. Going L (K s0) (K s3) x rows0 rs done least) (sym er) g3) in
    follows L (K s0) (K s2) x rows0 rows2 done o least rest g2
    (λ y e. subst (λ rs. IsIn y (states rs)) (sym er) (subst (λ z. IsIn z (states rows3)) (some_same next y (sym en ∙ e)) here_good.has))
    (subst (λ n. LeastBy (Costs L n) rest) (sym en) (subst (λ r. LeastBy (Costs L (Some next)) r) (sym ez) c))
