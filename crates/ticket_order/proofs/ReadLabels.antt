-- The labels that are read off the moves of a ticket are its own.
use Rattle.std.proofs.Common.{◌≡◌, ℕ, suc, ◌+◌, ◌-◌, ◌≤◌, ◌<◌, ◌&&◌, ◌||◌, ◌==◌, Bool, true, false, cond, eqb, nat_le, not, ◌↔◌, List, [], ◌∷◌, ◌++◌, length, set, take, drop, get_or, count_by, Option, Some, None, refl, sym, ap, ap₂, ◌∙◌, subst, inl, inr, arith, append_assoc, append-nil, get_or-set_same, get_or-set_other}
use Rattle.std.proofs.lemmas.Bool.{cases_eq, ne_eqb}
use Rattle.std.proofs.lemmas.Bool.Decides.{nat_tests}
use Rattle.std.proofs.lemmas.List.{take_rest}
use Rattle.fare_law.specs.declared.moves.Move.{Move}
use Rattle.fare_law.specs.declared.moves.Role.TheVariants.{Alone, Opens, GoesOn, Closes}
use Rattle.fare_law.specs.Lawful.{Numbered, comes_in}
use Rattle.fare_law.specs.Moves.{role_of, labels_below, slot_number}
use Rattle.fare_law.specs.declared.limits.TheConstants.{MOST_COMPONENTS}
use Rattle.ticket_order.specs.Tickets.{AreLabels, begins, stays_open}
use Rattle.ticket_order.specs.declared.numbering.TheConstants.{LABELS}
use Rattle.ticket_order.proofs.OpenLabels.{ones, count_open}
use Rattle.ticket_order.proofs.TicketMoves.{rest_is}
use Rattle.law_lemmas.proofs.Lists.{front_at, rest_at}

begins_told : (a b : Bool) → begins (cond a (cond b GoesOn Closes) (cond b Opens Alone)) ≡ not a
begins_told true true = refl
begins_told true false = refl
begins_told false true = refl
begins_told false false = refl

stays_told : (a b : Bool) → stays_open (cond a (cond b GoesOn Closes) (cond b Opens Alone)) ≡ b
stays_told true true = refl
stays_told true false = refl
stays_told false true = refl
stays_told false false = refl

or_none : (a : Bool) → a || false ≡ a
or_none true = refl
or_none false = refl

or_assoc : (a b c : Bool) → a || (b || c) ≡ (a || b) || c
or_assoc true b c = refl
or_assoc false b c = refl

comes_push : (u l : ℕ) (ls : List ℕ) → comes_in u (ls ++ l ∷ []) ≡ comes_in u ls || (u == l)
comes_push u l [] = or_none (u == l)
comes_push u l (x ∷ ls) = ap (λ b. (u == x) || b) (comes_push u l ls) ∙ or_assoc (u == x) (comes_in u ls) (u == l)

-- what is known after the labels before, where those after are still to come
pub record Reads (before after : List ℕ) (ms : List Move) (count : ℕ) (opened : List Bool) : Type 0 where
  pub numbered : Numbered count after
  pub seen : (u : ℕ) → comes_in u before ≡ (nat_le 1 u && nat_le u count)
  pub tells : (u : ℕ) → u < LABELS → get_or opened u false ≡ (comes_in u before && comes_in u after)
  pub right : AreLabels before after ms

pub same_is : (n : ℕ) → eqb n n ≡ true
same_is n = grind (arith, nat_tests)

and_true : (a b : Bool) → a ≡ true → a && b ≡ b
and_true true b e = refl
and_true false b e = absurd (cc)

reads_step : (before rest : List ℕ) (l : ℕ) (m : Move) (ms : List Move) (count new : ℕ) (opened : List Bool) → Reads before (l ∷ rest) (m ∷ ms) count opened → l < LABELS → length opened ≡ LABELS
    → Numbered new rest → ((u : ℕ) → (comes_in u before || (u == l)) ≡ (nat_le 1 u && nat_le u new)) → Reads (before ++ l ∷ []) rest ms new (set opened l (stays_open m.role))
reads_step before rest l m ms count new opened r small long n s = record {
  numbered = n;
  seen = λ u. comes_push u l before ∙ s u;
  tells = λ u lt. elim (cases_eq u l) [ inl e ↦ here u e | inr ne ↦ there u lt ne ];
  right = r.right.2;
}
  where
    flag : stays_open m.role ≡ comes_in l rest
    flag = ap stays_open r.right.0 ∙ stays_told (comes_in l before) (comes_in l rest)

    last : comes_in l (before ++ l ∷ []) ≡ true
    last = comes_push l l before ∙ ap (λ b. comes_in l before || b) (same_is l) ∙ always (comes_in l before)
      where
        always : (b : Bool) → b || true ≡ true
        always true = refl
        always false = refl

    here : (u : ℕ) → u ≡ l → get_or (set opened l (stays_open m.role)) u false ≡ (comes_in u (before ++ l ∷ []) && comes_in u rest)
    here u e =
        subst (λ z. get_or (set opened l (stays_open m.role)) z false ≡ (comes_in z (before ++ l ∷ []) && comes_in z rest)) (sym e)
        (get_or-set_same opened l (stays_open m.role) false (subst (λ n. l < n) (sym long) small) ∙ flag ∙ sym (and_true (comes_in l (before ++ l ∷ [])) (comes_in l rest) last))

    there : (u : ℕ) → u < LABELS → (u ≡ l → ⊥) → get_or (set opened l (stays_open m.role)) u false ≡ (comes_in u (before ++ l ∷ []) && comes_in u rest)
    there u lt ne =
        let f : (u == l) ≡ false = ne_eqb u l ne in
        get_or-set_other opened l u (stays_open m.role) false ne ∙ r.tells u lt ∙ ap (λ b. comes_in u before && (b || comes_in u rest)) f
        ∙ ap (λ b. b && comes_in u rest) (sym (comes_push u l before ∙ ap (λ b. comes_in u before || b) f ∙ or_none (comes_in u before)))

seen_more : (u count : ℕ) → ((nat_le 1 u && nat_le u count) || (u == suc count)) ≡ (nat_le 1 u && nat_le u (suc count))
seen_more u count = grind (arith, nat_tests)

seen_again : (u l count : ℕ) → 1 ≤ l → l ≤ count → ((nat_le 1 u && nat_le u count) || (u == l)) ≡ (nat_le 1 u && nat_le u count)
seen_again u l count low high = grind (arith, nat_tests)

-- the state before a move, with the label that comes
pub record Turn (before rest : List ℕ) (l : ℕ) (m : Move) (ms : List Move) (count : ℕ) (opened : List Bool) : Type 0 where
  pub begin : begins m.role ≡ true → (l ≡ suc count) × (l < LABELS → Reads (before ++ l ∷ []) rest ms (suc count) (set opened l (stays_open m.role)))
  pub go_on : begins m.role ≡ false → (l < LABELS) × (get_or opened l false ≡ true) × (ones (take l opened) ≡ m.slot) × Reads (before ++ l ∷ []) rest ms count (set opened l (stays_open m.role))

range_true : (l count : ℕ) → (nat_le 1 l && nat_le l count) ≡ true → (1 ≤ l) × (l ≤ count)
range_true l count e = grind (arith, nat_tests)

range_holds : (l count : ℕ) → 1 ≤ l → l ≤ count → (nat_le 1 l && nat_le l count) ≡ true
range_holds l count a b = grind (arith, nat_tests)

pub turn : (before rest : List ℕ) (l : ℕ) (m : Move) (ms : List Move) (count : ℕ) (opened : List Bool) → Reads before (l ∷ rest) (m ∷ ms) count opened → count < LABELS → length opened ≡ LABELS → Turn before rest l m ms count opened
turn before rest l m ms count opened r few long = record { begin = begin r.numbered; go_on = go_on r.numbered }
  where
    told : begins m.role ≡ not (comes_in l before)
    told = ap begins r.right.0 ∙ begins_told (comes_in l before) (comes_in l rest)

    begin : Numbered count (l ∷ rest) → begins m.role ≡ true → (l ≡ suc count) × (l < LABELS → Reads (before ++ l ∷ []) rest ms (suc count) (set opened l (stays_open m.role)))
    begin (inl h) e = let c = r.seen l ∙ range_holds l count h.0 h.1 in absurd (both (sym e ∙ told ∙ ap not c))
      where
        both : true ≡ false → ⊥
        both q = cc
    begin (inr h) e = (
      h.0,
      λ small. reads_step before rest l m ms count (suc count) opened r small long h.1
          (λ u. ap₂ (λ a b. a || (u == b)) (r.seen u) h.0 ∙ seen_more u count),
    )

    go_on : Numbered count (l ∷ rest) → begins m.role ≡ false → (l < LABELS) × (get_or opened l false ≡ true) × (ones (take l opened) ≡ m.slot) × Reads (before ++ l ∷ []) rest ms count (set opened l (stays_open m.role))
    go_on (inr h) e = let c : (nat_le 1 l && nat_le l count) ≡ false = beyond h.0 in absurd (both (sym e ∙ told ∙ ap not (r.seen l ∙ c)))
      where
        both : false ≡ true → ⊥
        both q = cc

        beyond : l ≡ suc count → (nat_le 1 l && nat_le l count) ≡ false
        beyond e = grind (arith, nat_tests)
    go_on (inl h) e = (omega arith, set_here, slot_is, reads_step before rest l m ms count count opened r (omega arith) long h.2 (λ u. ap (λ a. a || (u == l)) (r.seen u) ∙ seen_again u l count h.0 h.1))
      where
        comes : comes_in l before ≡ true
        comes = r.seen l ∙ range_holds l count h.0 h.1

        set_here : get_or opened l false ≡ true
        set_here = r.tells l (omega arith) ∙ ap₂ (λ a b. a && (b || comes_in l rest)) comes (same_is l)

        none_zero : get_or opened 0 false ≡ false
        none_zero = r.tells 0 (omega arith) ∙ ap (λ a. a && comes_in 0 (l ∷ rest)) (r.seen 0)

        below : (u : ℕ) → 1 ≤ u → u ≤ l - 1 → get_or opened u false ≡ (comes_in u before && comes_in u rest)
        below u low high =
            let ne : u ≡ l → ⊥ = λ q. omega arith in
            r.tells u (omega arith) ∙ ap (λ b. comes_in u before && (b || comes_in u rest)) (ne_eqb u l ne)

        count_is : (k : ℕ) → l ≡ suc k → ones (take l opened) ≡ count_by (λ u. comes_in u before && comes_in u rest) (labels_below l)
        count_is k q = subst (λ z. ones (take z opened) ≡ count_by (λ u. comes_in u before && comes_in u rest) (labels_below z)) (sym q)
            (count_open opened (λ u. comes_in u before && comes_in u rest) k none_zero (λ u a b. below u a (omega arith)) (omega arith))

        slot_is : ones (take l opened) ≡ m.slot
        slot_is = count_is (l - 1) (omega arith) ∙ sym (r.right.1 ∙ ap (λ b. cond b (count_by (λ u. comes_in u before && comes_in u rest) (labels_below l)) 0) comes)

next_read : (ls before after : List ℕ) (m : Move) (ms : List Move) (count : ℕ) (opened : List Bool) → ls ≡ before ++ after → Reads before after (m ∷ ms) count opened → count < LABELS → length opened ≡ LABELS
    → (l : ℕ) × (rest : List ℕ) × (ls ≡ (before ++ l ∷ []) ++ rest) × Turn before rest l m ms count opened
next_read ls before [] m ms count opened e r few long = absurd r.right
next_read ls before (l ∷ rest) m ms count opened e r few long = (l, rest, e ∙ sym (append_assoc before (l ∷ []) rest), turn before rest l m ms count opened r few long)

-- what the labels that are read so far say of a ticket's labels
abbrev pub Read : List Move → List ℕ → List Move → ℕ → List Bool → Type 0
Read moves labels ms count opened = (ls : List ℕ) → Numbered 0 ls → AreLabels [] ls moves → (after : List ℕ) × (ls ≡ labels ++ after) × Reads labels after ms count opened

pub read_none : (moves : List Move) (opened : List Bool) → ((u : ℕ) → get_or opened u false ≡ false) → Read moves [] moves 0 opened
read_none moves opened h ls n a = (ls, refl, record { numbered = n; seen = λ u. none u; tells = λ u lt. h u; right = a })
  where
    none : (u : ℕ) → false ≡ (nat_le 1 u && nat_le u 0)
    none u = grind (arith, nat_tests)

pub read_begin : (moves : List Move) (labels : List ℕ) (m : Move) (ms : List Move) (count : ℕ) (opened : List Bool) → Read moves labels (m ∷ ms) count opened → count < MOST_COMPONENTS → length opened ≡ LABELS → begins m.role ≡ true
    → Read moves (labels ++ (count + 1) ∷ []) ms (count + 1) (set opened (count + 1) (stays_open m.role))
read_begin moves labels m ms count opened h few long b ls n a =
    let k = h ls n a in
    let t = next_read ls labels k.0 m ms count opened k.1 k.2 (omega arith) long in
    let r = t.3.begin b in
    let same : t.0 ≡ count + 1 = next t.0 r.0 in (
      t.1,
      t.2 ∙ ap (λ l. (labels ++ l ∷ []) ++ t.1) same,
      subst (λ new. Reads (labels ++ (count + 1) ∷ []) t.1 ms new (set opened (count + 1) (stays_open m.role))) more
          (subst (λ l. Reads (labels ++ l ∷ []) t.1 ms (suc count) (set opened l (stays_open m.role))) same (r.1 (small t.0 r.0))),
    )
  where
    more : suc count ≡ count + 1
    more = omega arith

    next : (l : ℕ) → l ≡ suc count → l ≡ count + 1
    next l e = omega arith

    small : (l : ℕ) → l ≡ suc count → l < LABELS
    small l e = omega arith

-- the label in the slot, which a call found
abbrev pub Found : List Bool → ℕ → Option ℕ → Type 0
Found opened slot found = (l : ℕ) → get_or opened l false ≡ true → ones (take l opened) ≡ slot → found ≡ Some l

pub read_go_on : (moves : List Move) (labels : List ℕ) (m : Move) (ms : List Move) (count : ℕ) (opened : List Bool) (label : ℕ) → Read moves labels (m ∷ ms) count opened → count < LABELS → length opened ≡ LABELS → begins m.role ≡ false
    → Found opened m.slot (Some label) → Read moves (labels ++ label ∷ []) ms count (set opened label (stays_open m.role))
read_go_on moves labels m ms count opened label h few long b found ls n a =
    let k = h ls n a in
    let t = next_read ls labels k.0 m ms count opened k.1 k.2 few long in
    let r = t.3.go_on b in
    let same : t.0 ≡ label = back t.0 (found t.0 r.1 r.2) in (
      t.1,
      t.2 ∙ ap (λ l. (labels ++ l ∷ []) ++ t.1) same,
      subst (λ l. Reads (labels ++ l ∷ []) t.1 ms count (set opened l (stays_open m.role))) same r.3,
    )
  where
    back : (l : ℕ) → Some label ≡ Some l → l ≡ label
    back l e = cc

pub read_lost : (moves : List Move) (labels : List ℕ) (m : Move) (ms : List Move) (count : ℕ) (opened : List Bool) → Read moves labels (m ∷ ms) count opened → count < LABELS → length opened ≡ LABELS → begins m.role ≡ false
    → Found opened m.slot None → (ls : List ℕ) → Numbered 0 ls → AreLabels [] ls moves → ⊥
read_lost moves labels m ms count opened h few long b found ls n a =
    let k = h ls n a in
    let t = next_read ls labels k.0 m ms count opened k.1 k.2 few long in
    let r = t.3.go_on b in
    none t.0 (found t.0 r.1 r.2)
  where
    none : (l : ℕ) → None ≡ Some l → ⊥
    none l e = cc

pub read_all : (moves : List Move) (labels : List ℕ) (count : ℕ) (opened : List Bool) → Read moves labels [] count opened → (ls : List ℕ) → Numbered 0 ls → AreLabels [] ls moves → ls ≡ labels
read_all moves labels count opened h ls n a = let k = h ls n a in ended k.0 k.1 k.2.right
  where
    ended : (after : List ℕ) → ls ≡ labels ++ after → AreLabels labels after [] → ls ≡ labels
    ended [] e r = e ∙ append-nil labels
    ended (l ∷ after) e r = absurd r

pub read_same : (moves : List Move) (labels more : List ℕ) (ms : List Move) (count next : ℕ) (opened after : List Bool) → Read moves labels ms count opened → labels ≡ more → count ≡ next → opened ≡ after → Read moves more ms next after
read_same moves labels more ms count next opened after h a b d = subst (λ x. Read moves x ms next after) a (subst (λ x. Read moves labels ms x after) b (subst (λ x. Read moves labels ms count x) d h))

pub labels_long : (before ls : List ℕ) (ms : List Move) → AreLabels before ls ms → length ls ≡ length ms
labels_long before [] [] h = refl
labels_long before [] (m ∷ ms) h = absurd h
labels_long before (l ∷ ls) [] h = absurd h
labels_long before (l ∷ ls) (m ∷ ms) h = ap suc (labels_long (before ++ l ∷ []) ls ms h.2)

-- what is asked of the labels from a place on
abbrev pub RightFrom : ℕ → List ℕ → List Move → Type 0
RightFrom i ls ms = AreLabels (take i ls) (drop i ls) (drop i ms)

-- what is asked of the label at a place
abbrev pub RightAt : ℕ → Move → List ℕ → Type 0
RightAt i m ls = (m.role ≡ role_of (take i ls) (get_or ls i 0) (drop (i + 1) ls)) × (m.slot ≡ slot_number (take i ls) (get_or ls i 0) (drop (i + 1) ls))

module _ (ls : List ℕ) (ms : List Move) (i : ℕ) (m : Move) (low : i < length ls) (high : i < length ms) (is : m ≡ get_or ms i m) where
  pub right_next : RightFrom i ls ms → RightAt i m ls × RightFrom (i + 1) ls ms
  right_next h =
      let k = subst (λ x. AreLabels (take i ls) x (drop i ms)) (rest_at ls i 0 low) h in
      let r = subst (λ x. AreLabels (take i ls) (get_or ls i 0 ∷ drop (i + 1) ls) x) (rest_is ms i m high is) k in
      ((r.0, r.1), subst (λ x. AreLabels x (drop (i + 1) ls) (drop (i + 1) ms)) (sym (front_at ls i 0 low)) r.2)

  pub right_before : RightAt i m ls → RightFrom (i + 1) ls ms → RightFrom i ls ms
  right_before a h =
      let r : AreLabels (take i ls) (get_or ls i 0 ∷ drop (i + 1) ls) (m ∷ drop (i + 1) ms) = (a.0, a.1, subst (λ x. AreLabels x (drop (i + 1) ls) (drop (i + 1) ms)) (front_at ls i 0 low) h) in
      let k = subst (λ x. AreLabels (take i ls) (get_or ls i 0 ∷ drop (i + 1) ls) x) (sym (rest_is ms i m high is)) r in
      subst (λ x. AreLabels (take i ls) x (drop i ms)) (sym (rest_at ls i 0 low)) k

  -- the test at a place reads the labels after it as a slice
  abbrev pub Tested : Bool → Type 0
  Tested b =
      let after = take (length ls - (i + 1)) (drop (i + 1) ls) in
      (b ≡ true) ↔ ((m.role ≡ role_of (take i ls) (get_or ls i 0) after) × (m.slot ≡ slot_number (take i ls) (get_or ls i 0) after))

  pub tested : (b : Bool) → Tested b → (b ≡ true) ↔ RightAt i m ls
  tested b h = subst (λ after. (b ≡ true) ↔ ((m.role ≡ role_of (take i ls) (get_or ls i 0) after) × (m.slot ≡ slot_number (take i ls) (get_or ls i 0) after))) (take_rest ls (i + 1)) h
