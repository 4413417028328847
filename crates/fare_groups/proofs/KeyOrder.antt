-- Keys in order, and groups by their keys: for `keys_of` and `place_of`.
use Rattle.std.proofs.Common.{◌≡◌, ◌≢◌, ◌⊎◌, ℕ, zero, suc, ◌+◌, ◌≤◌, ◌<◌, Bool, true, false, Decides, List, [], ◌∷◌, length, map, get_or, slice_get, Some, refl, sym, ap, subst, ◌∙◌, inl, inr, arith}
use Rattle.std.specs.Cmp.{IsEquivalence, IsTotalOrder}
use Rattle.std.specs.Cmp.Lexicographic.{bytes_decides, slice_cmp}
use Rattle.std.specs.List.{AllByRecursion, Contains, dedup}
use Rattle.std.specs.List.Sorted.{IsNonDecreasingBy, IsPermutation, IsSorted, IsSortedBy, IsStrictlySortedBy}
use Rattle.std.specs.Ordering.{MatchOrdering, eq_by_cmp, is_eq, is_lt, nat_cmp, ordering_index, ordering_reverse, ordering_then}
use Rattle.std.specs.declared.cmp.Ordering.{Ordering}
use Rattle.std.specs.declared.cmp.Ordering.TheVariants.{Less as Lower, Equal, Greater}
use Rattle.std.proofs.lemmas.Bool.{cases_lt}
use Rattle.std.proofs.lemmas.Bool.Decides.{Decides-and, Decides-eqb, Decides-like, same_from_decides}
use Rattle.std.proofs.lemmas.Cmp.{eq_by_cmp_equiv, nat_cmp_total, nat_list_cmp_total, on_total, ranked, then_total, tied_itself}
use Rattle.std.proofs.lemmas.List.Kept.{Contains-dedup, Contains-from_dedup, IsStrictlySortedBy-dedup}
use Rattle.std.proofs.lemmas.List.Sorted.{IsPermutation-sym, searchable_from_sorted}
use Rattle.fare_groups.specs.contracts.group.GroupKeyPartialEq.TheImpl as group_key
use Rattle.fare_groups.specs.declared.group.FareGroup.{FareGroup}
use Rattle.fare_groups.specs.declared.group.GroupKey.{GroupKey}
use Rattle.fare_groups.specs.Grouping.{AreInOrder, AreKeys, HasKeyAt, KeyBefore, key_order, kind_number}
use Rattle.fare_groups.specs.Groups.{group_of}
use Rattle.fare_groups.proofs.Reordered.{in_mapped, in_reordered}
use Rattle.fare_law.specs.contracts.fares.FareKindPartialEq.TheImpl as kind
use Rattle.fare_law.specs.declared.fares.FareKind.{FareKind}
use Rattle.fare_law.specs.declared.fares.FareKind.TheVariants.{O, R, S}
use Rattle.fare_law.specs.declared.sheets.SheetRow.{SheetRow}
use Rattle.fare_law.specs.Lists.{AllDifferent, Each, EachPair, IsIn, Less}
use Rattle.law_lemmas.proofs.EachOne.{each_from}
use Rattle.law_lemmas.proofs.Lists.{got_is, got_read, got_within}
use Rattle.law_lemmas.proofs.Members.{in_got, in_list}
use Rattle.law_lemmas.proofs.Names.{carrier_whole}
use Rattle.law_lemmas.proofs.Words.{words_told}

pub key_total : IsTotalOrder key_order
key_total = then_total (on_total (λ (k : GroupKey). k.carrier.0) nat_list_cmp_total) (then_total (on_total (λ (k : GroupKey). k.number) nat_cmp_total) (on_total (λ (k : GroupKey). kind_number k.kind) nat_cmp_total))

-- ---- keys that compare as equal are one
then_tied : (o p : Ordering) → ordering_then o p ≡ Equal → (o ≡ Equal) × (p ≡ Equal)
then_tied Lower p e = absurd (cc)
then_tied Equal p e = (refl, e)
then_tied Greater p e = absurd (cc)

words_one : (v w : List ℕ) → slice_cmp nat_cmp v w ≡ Equal → v ≡ w
words_one v w e = subst (λ o. MatchOrdering o (Less v w) (v ≡ w) (Less w v)) e (words_told v w)

numbers_one : (m n : ℕ) → nat_cmp m n ≡ Equal → m ≡ n
numbers_one m n e = subst (λ o. MatchOrdering o (m < n) (m ≡ n) (n < m)) e (ranked m n (nat_cmp m n) refl)

kinds_one : (j k : FareKind) → kind_number j ≡ kind_number k → j ≡ k
kinds_one O O e = refl
kinds_one R R e = refl
kinds_one S S e = refl
kinds_one O R e = absurd (omega (arith, e))
kinds_one O S e = absurd (omega (arith, e))
kinds_one R O e = absurd (omega (arith, e))
kinds_one R S e = absurd (omega (arith, e))
kinds_one S O e = absurd (omega (arith, e))
kinds_one S R e = absurd (omega (arith, e))

key_whole : (j k : GroupKey) → j.carrier ≡ k.carrier → j.number ≡ k.number → j.kind ≡ k.kind → j ≡ k
key_whole j k c n d = λ i. record { carrier = c i; number = n i; kind = d i }

pub key_one : (j k : GroupKey) → key_order j k ≡ Equal → j ≡ k
key_one j k e =
    let a = then_tied _ _ e in
    let b = then_tied _ _ a.1 in
    key_whole j k (carrier_whole _ _ (words_one _ _ a.0)) (numbers_one _ _ b.0) (kinds_one _ _ (numbers_one _ _ b.1))

pub one_key : (j k : GroupKey) → j ≡ k → key_order j k ≡ Equal
one_key j k e = subst (λ x. key_order j x ≡ Equal) e (tied_itself key_total j)

pub keys_told : (j k : GroupKey) → Decides (is_eq (key_order j k)) (j ≡ k)
keys_told j k = (λ t. key_one j k (tied (key_order j k) t), λ e. ap is_eq (one_key j k e))
  where
    tied : (o : Ordering) → is_eq o ≡ true → o ≡ Equal
    tied Lower t = absurd (cc)
    tied Equal t = refl
    tied Greater t = absurd (cc)

kinds_tell : (j k : FareKind) → Decides (kind.ghosts.eq j k) (j ≡ k)
kinds_tell O O = (λ _. refl, λ _. refl)
kinds_tell R R = (λ _. refl, λ _. refl)
kinds_tell S S = (λ _. refl, λ _. refl)
kinds_tell O R = (λ h. absurd (cc), λ h. absurd (cc))
kinds_tell O S = (λ h. absurd (cc), λ h. absurd (cc))
kinds_tell R O = (λ h. absurd (cc), λ h. absurd (cc))
kinds_tell R S = (λ h. absurd (cc), λ h. absurd (cc))
kinds_tell S O = (λ h. absurd (cc), λ h. absurd (cc))
kinds_tell S R = (λ h. absurd (cc), λ h. absurd (cc))

-- the derived test is the comparison's
pub keys_compared : (j k : GroupKey) → group_key.ghosts.eq j k ≡ eq_by_cmp key_order j k
keys_compared j k = same_from_decides (group_key.ghosts.eq j k) (is_eq (key_order j k)) tells (keys_told j k)
  where
    tells : Decides (group_key.ghosts.eq j k) (j ≡ k)
    tells =
        Decides-like _ (λ e. key_whole j k (carrier_whole _ _ e.0) e.1.0 e.1.1) (λ e. (ap (λ x. x.carrier.0) e, (ap (λ x. x.number) e, ap (λ x. x.kind) e)))
        (Decides-and _ _ (bytes_decides j.carrier.0 k.carrier.0) (Decides-and _ _ (Decides-eqb j.number k.number) (kinds_tell j.kind k.kind)))

-- ---- keys in order, each once
before_differs : (j k : GroupKey) → KeyBefore j k → j ≢ k
before_differs j k h e = clash (sym (one_key j k e) ∙ h)
  where
    clash : Equal ≡ Lower → ⊥
    clash e = cc

pairs_from : (keys : List GroupKey) → IsStrictlySortedBy key_order keys → EachPair KeyBefore keys
unfolding IsStrictlySortedBy
pairs_from [] h = tt
pairs_from (j ∷ []) h = tt
pairs_from (j ∷ k ∷ keys) h = (h.0.0, pairs_from (k ∷ keys) h.1)

differ_each : (j : GroupKey) (keys : List GroupKey) → AllByRecursion (λ k. key_order j k ≡ Lower) keys → Each (λ k. j ≢ k) keys
differ_each j [] h = tt
differ_each j (k ∷ keys) h = (before_differs j k h.0, differ_each j keys h.1)

differ_from_order : (keys : List GroupKey) → IsStrictlySortedBy key_order keys → AllDifferent keys
unfolding IsStrictlySortedBy
differ_from_order [] h = tt
differ_from_order (j ∷ keys) h = (differ_each j keys h.0, differ_from_order keys h.1)

in_contains : {X : Type 0} (xs : List X) (x : X) → IsIn x xs → Contains xs x
in_contains [] x i = absurd i
in_contains (y ∷ ys) x (inl e) = (0, omega arith, sym e)
in_contains (y ∷ ys) x (inr i) = let r = in_contains ys x i in (suc r.0, omega (arith, r.1), r.2)

contains_in : {X : Type 0} (xs : List X) (x : X) → Contains xs x → IsIn x xs
contains_in xs x (k, lt, e) = subst (λ y. IsIn y xs) e (in_list xs k x lt)

module _ (E : GroupKey → GroupKey → Bool) (same : (j k : GroupKey) → E j k ≡ eq_by_cmp key_order j k) (rows : List SheetRow) (all sorted : List GroupKey) (of : all ≡ map group_of rows) (order : IsPermutation all sorted) (up : IsSorted key_order sorted) where
  strictly : IsStrictlySortedBy key_order (dedup E sorted)
  strictly = IsStrictlySortedBy-dedup key_total same sorted up

  ties : E ≡ eq_by_cmp key_order
  ties = λ i j k. same j k i

  equivalence : IsEquivalence E
  equivalence = subst IsEquivalence (sym ties) (eq_by_cmp_equiv key_total)

  pub keys_are : (keys : List GroupKey) → keys ≡ dedup E sorted → AreKeys rows keys
  keys_are keys is = subst (AreKeys rows) (sym is) (record {
    in_order = pairs_from (dedup E sorted) strictly;
    apart = differ_from_order (dedup E sorted) strictly;
    each = each_from (λ key. IsIn key (map group_of rows)) (dedup E sorted) (λ key i. subst (IsIn key) of (in_reordered sorted all key (IsPermutation-sym all sorted order) (contains_in sorted key (Contains-from_dedup E sorted key (in_contains (dedup E sorted) key i)))));
    all = λ row i. contains_in (dedup E sorted) (group_of row) (Contains-dedup equivalence (λ j k t. (keys_told j k).0 (sym (same j k) ∙ t)) sorted (group_of row) (in_contains sorted (group_of row) (in_reordered all sorted (group_of row) order (subst (IsIn (group_of row)) (sym of) (in_mapped group_of rows row i)))));
  })

-- ---- groups by their keys
reversed : (o p : Ordering) → o ≡ ordering_reverse p → p ≡ Lower → is_lt o ≡ false
reversed o Lower e l = ap is_lt e
reversed o Equal e l = absurd (cc)
reversed o Greater e l = absurd (cc)

sorted_groups : (groups : List FareGroup) → AreInOrder groups → IsSortedBy (λ (g h : FareGroup). is_lt (key_order g.key h.key)) groups
sorted_groups [] h k d low lt = absurd (omega (arith, lt))
sorted_groups (g ∷ []) h k d low lt = absurd (omega (arith, lt))
sorted_groups (g ∷ x ∷ groups) h zero d low lt = reversed _ _ (key_total.antisymm x.key g.key) h.0
sorted_groups (g ∷ x ∷ groups) h (suc k) d low lt =
    let e : suc (k + 1) ≡ suc k + 1 = omega arith in
    subst (λ n. is_lt (key_order (get_or (g ∷ x ∷ groups) n d).key (get_or (x ∷ groups) k d).key) ≡ false) e (sorted_groups (x ∷ groups) h.1 k d (omega arith) (omega (arith, lt)))

pub groups_rise : (key : GroupKey) (groups : List FareGroup) → AreInOrder groups → IsNonDecreasingBy (λ g. ordering_index (key_order g.key key)) groups
groups_rise key groups h = searchable_from_sorted key_total (λ (g : FareGroup). g.key) groups key (sorted_groups groups h)

pub key_at : (key : GroupKey) (groups : List FareGroup) (at : ℕ) → at < length groups → ((d : FareGroup) → key_order (get_or groups at d).key key ≡ Equal) → HasKeyAt key groups at
key_at key groups at lt h = (get_or groups at none, got_read groups at none lt, key_one _ _ (h none))
  where
    none : FareGroup
    none = record { key = key; fares = []; rungs = [] }

-- groups whose keys compare as lower, and then as greater
pub no_key : (key : GroupKey) (groups : List FareGroup) (at : ℕ)
    → ((k : ℕ) (d : FareGroup) → 0 ≤ k → k < at → key_order (get_or groups k d).key key ≡ Lower)
    → ((k : ℕ) (d : FareGroup) → at ≤ k → k < length groups → key_order (get_or groups k d).key key ≡ Greater)
    → Each (λ g. g.key ≢ key) groups
no_key key groups at low high = each_from (λ g. g.key ≢ key) groups (λ g i e. let n = in_got groups g i in other g n.0 n.1 e (cases_lt n.0 at))
  where
    lower : Equal ≡ Lower → ⊥
    lower e = cc

    greater : Equal ≡ Greater → ⊥
    greater e = cc

    tied : (g : FareGroup) (n : ℕ) → slice_get groups n ≡ Some g → g.key ≡ key → key_order (get_or groups n g).key key ≡ Equal
    tied g n got e = one_key _ _ (ap (λ (x : FareGroup). x.key) (got_is groups n g g got) ∙ e)

    other : (g : FareGroup) (n : ℕ) → slice_get groups n ≡ Some g → g.key ≡ key → (n < at) ⊎ (at ≤ n) → ⊥
    other g n got e (inl l) = lower (sym (tied g n got e) ∙ low n g (omega arith) l)
    other g n got e (inr l) = greater (sym (tied g n got e) ∙ high n g l (got_within groups n g got))
