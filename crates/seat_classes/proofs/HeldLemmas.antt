-- Rows that are held: what a map tells of them, and how many they are.
use Rattle.std.proofs.Common.{◌≡◌, ◌≢◌, ◌⊎◌, ◌≤◌, ◌<◌, ℕ, Bool, true, false, cond, List, [], ◌∷◌, length, Option, Some, None, IsSome, is_some, refl, ap, sym, subst, ◌∙◌, inl, inr, arith}
use Rattle.std.specs.BTreeMap.{is_at}
use Rattle.std.specs.List.{AllByRecursion, IsDistinct, list_any}
use Rattle.std.specs.List.Sorted.{IsStrictlySortedBy}
use Rattle.std.specs.Map.{keys_of, lookup}
use Rattle.std.specs.declared.cmp.Ordering.TheVariants.{Less as Lower}
use Rattle.std.proofs.lemmas.Map.Entries.{length-keys_of}
use Rattle.std.proofs.lemmas.Map.Keys.{IsDistinct-cons}
use Rattle.std.proofs.lemmas.Map.Steps.{length-le_from_keys}
use Rattle.std.proofs.lemmas.Bool.{both_ways, false_from_ne_true, or_cases}
use Rattle.seat_classes.specs.contracts.row_name.RowNameOrd.TheImpl as name
use Rattle.fare_law.specs.declared.filings.SeatKey.{SeatKey}
use Rattle.fare_law.specs.Book.{same_seat_key}
use Rattle.fare_law.specs.Lists.{HasMany, AllDifferent, Each, IsIn}
use Rattle.seat_classes.specs.Held.{Changes, Counts, HasNoRoom, HasRow, seats_at}
use Rattle.fare_law.specs.declared.limits.TheConstants.{MOST_SEAT_ROWS}
use Rattle.seat_classes.proofs.SeatKeys.{keys_compared, lower_differs, same_equivalence, same_flips}
use Rattle.law_lemmas.proofs.EachOne.{each_from, member_holds}
use Rattle.law_lemmas.proofs.Names.{same_seats_tell}
use Rattle.law_lemmas.proofs.Options.{none_told}

-- what a map finds is what its entries have
pub found_is : (held : List (SeatKey × List ℕ)) (key : SeatKey) → lookup (is_at (name.ghosts.cmp key)) held ≡ seats_at held key
found_is held key = ap (λ (e : SeatKey → SeatKey → Bool). lookup (e key) held) keys_compared

-- a change that a map tells is one of its rows
pub changes_from : (old new : List (SeatKey × List ℕ)) (key : SeatKey) (seats : Option (List ℕ))
    → ((q : SeatKey) → lookup (is_at (name.ghosts.cmp q)) new ≡ cond (is_at (name.ghosts.cmp key) q) seats (lookup (is_at (name.ghosts.cmp q)) old)) → Changes old new key seats
changes_from old new key seats u other =
    subst (λ (e : SeatKey → SeatKey → Bool). (q : SeatKey) → lookup (e q) new ≡ cond (e key q) seats (lookup (e q) old)) keys_compared u other
    ∙ ap (λ b. cond b seats (seats_at old other)) (same_flips key other)

pub no_row_told : (held : List (SeatKey × List ℕ)) (key : SeatKey) → is_some (lookup (is_at (name.ghosts.cmp key)) held) ≡ false → seats_at held key ≡ None
no_row_told held key e = sym (found_is held key) ∙ none_told _ e

pub row_told : (held : List (SeatKey × List ℕ)) (key : SeatKey) → is_some (lookup (is_at (name.ghosts.cmp key)) held) ≡ true → seats_at held key ≡ None → ⊥
row_told held key e n = clash (sym (ap is_some (found_is held key ∙ n)) ∙ e)
  where
    clash : false ≡ true → ⊥
    clash h = cc

-- ---- keys that are all different, by their order, by equality and by the law's test
apart_each : (x : SeatKey) (xs : List SeatKey) → AllByRecursion (λ y. name.ghosts.cmp x y ≡ Lower) xs → Each (λ y. x ≢ y) xs
apart_each x [] a = tt
apart_each x (y ∷ ys) a = (lower_differs x y a.0, apart_each x ys a.1)

different_from : (keys : List SeatKey) → IsStrictlySortedBy name.ghosts.cmp keys → AllDifferent keys
unfolding IsStrictlySortedBy
different_from [] d = tt
different_from (x ∷ xs) d = (apart_each x xs d.0, different_from xs d.1)

each_apart : (x : SeatKey) (xs : List SeatKey) → Each (λ y. x ≢ y) xs → AllByRecursion (λ y. same_seat_key x y ≡ false) xs
each_apart x [] a = tt
each_apart x (y ∷ ys) a = (false_from_ne_true _ (λ t. a.0 ((same_seats_tell x y).0 t)), each_apart x ys a.1)

none_distinct : IsDistinct same_seat_key []
unfolding IsDistinct
none_distinct = tt

distinct_from : (keys : List SeatKey) → AllDifferent keys → IsDistinct same_seat_key keys
distinct_from [] d = none_distinct
distinct_from (x ∷ xs) d = IsDistinct-cons same_seat_key x xs (each_apart x xs d.0) (distinct_from xs d.1)

-- ---- how many rows are held
key_has_row : (held : List (SeatKey × List ℕ)) (key : SeatKey) → IsIn key (keys_of held) → HasRow held key
key_has_row [] key i = absurd i
key_has_row (e ∷ es) key i = by (λ r. key_has_row es key r) (same_seat_key key e.0) refl
  where
    by : (IsIn key (keys_of es) → HasRow es key) → (b : Bool) → same_seat_key key e.0 ≡ b → IsSome (cond b (Some e.1) (seats_at es key))
    by rec true t = refl
    by rec false f = elim i [
      | inl s ↦ absurd (both_ways _ f ((same_seats_tell key e.0).1 s))
      | inr r ↦ rec r
    ]

any_in : (key : SeatKey) (keys : List SeatKey) → list_any (same_seat_key key) keys ≡ true → IsIn key keys
any_in key [] h = absurd (cc)
any_in key (x ∷ xs) h = elim (or_cases _ _ h) [
  | inl t ↦ inl ((same_seats_tell key x).0 t)
  | inr r ↦ inr (any_in key xs r)
]

most_rows : (held : List (SeatKey × List ℕ)) (m : ℕ) → HasMany m (HasRow held) → m ≤ length held
most_rows held m (keys, l, d, e) =
    subst (λ n. n ≤ length held) l
    (length-le_from_keys same_equivalence keys held (distinct_from keys d) (λ q a. member_holds (HasRow held) q keys (any_in q keys a) e))

module _ (held : List (SeatKey × List ℕ)) (ordered : IsStrictlySortedBy name.ghosts.cmp (keys_of held)) where
  pub all_rows : HasMany (length held) (HasRow held)
  all_rows = (
    keys_of held,
    length-keys_of held,
    different_from (keys_of held) ordered,
    each_from (HasRow held) (keys_of held) (key_has_row held),
  )

  pub counts_all : Counts held (length held)
  counts_all = record { many = all_rows; most = most_rows held }

pub no_room : (held : List (SeatKey × List ℕ)) (key : SeatKey) → IsStrictlySortedBy name.ghosts.cmp (keys_of held) → length held ≡ MOST_SEAT_ROWS → is_some (lookup (is_at (name.ghosts.cmp key)) held) ≡ false → HasNoRoom held key
no_room held key ordered full absent = (no_row_told held key absent, subst (λ n. HasMany n (HasRow held)) full (all_rows held ordered))

pub room : (held : List (SeatKey × List ℕ)) (key : SeatKey) → (length held < MOST_SEAT_ROWS) ⊎ (is_some (lookup (is_at (name.ghosts.cmp key)) held) ≡ true) → HasNoRoom held key → ⊥
room held key (inl few) h = omega (arith, few, most_rows held MOST_SEAT_ROWS h.1)
room held key (inr known) h = row_told held key known h.0
