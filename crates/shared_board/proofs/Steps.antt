-- Each step of a board keeps its rule.
use Rattle.std.proofs.Common.{◌≡◌, ◌≢◌, ◌∙◌, ℕ, ◌+◌, ◌-◌, ◌<◌, List, [], ◌∷◌, ◌++◌, length, set, slice_index, subst, sym, ap, refl, Option, Some, None, IfSome, ⊎_elim, arith}
use Rattle.std.proofs.lemmas.List.{get_or-set_same, get_or-set_other, set-get_or, length-map, length-set}
use mathlib.Core.Option.{Option as Place, none, some}
use mathlib.Core.Logic.{dite}
use native.Mathlib.Decide.{ℕ_discrete}
use lib.ListN.{get_elem?}
use Rattle.atomic_table.specs.Table.{Allows, Joins, Me, Splits, State, keeps, gives, opening, step, takes}
use Rattle.atomic_table.proofs.Lists.{at_set, at_snoc, set_again, set_else, set_here, some_there}
use Rattle.shared_board.specs.Standing.{AreApart, Found, IsHolder, IsHome, IsNumber, Puts, Stands, emptied, free, holding}
use Rattle.shared_board.specs.declared.mark.Mark.{Mark}

-- a word other than this slot's is as before
word_else : (words : List ℕ) (slot other n : ℕ) → other ≢ slot → slice_index (set words (slot + 1) n) (other + 1) ≡ slice_index words (other + 1)
word_else words slot other n ne = get_or-set_other words (slot + 1) (other + 1) n 0 (λ e. ne (omega (arith, e)))

word_here : (words : List ℕ) (slot n : ℕ) → slot + 1 < length words → slice_index (set words (slot + 1) n) (slot + 1) ≡ n
word_here words slot n h = get_or-set_same words (slot + 1) n 0 h

-- every view that there is names the number
abbrev AllKnow : ℕ → List (Option Mark) → Type 0
AllKnow number views = (seat : ℕ) (view : Option Mark) → get_elem? views seat ≡ some view → IfSome view (λ m. m.number ≡ number)

know_set : (number : ℕ) (views : List (Option Mark)) (seat : ℕ) (view : Option Mark) → AllKnow number views → IfSome view (λ m. m.number ≡ number) → AllKnow number (set views seat view)
know_set number views seat view all own other found at =
    ⊎_elim (λ e. subst (λ (v : Option Mark). IfSome v (λ m. m.number ≡ number)) e.1 own) (λ e. all other found e.1) (at_set views seat other view found at)

know_more : (number : ℕ) (views : List (Option Mark)) (view : Option Mark) → AllKnow number views → IfSome view (λ m. m.number ≡ number) → AllKnow number (views ++ view ∷ [])
know_more number views view all own other found at =
    ⊎_elim (λ e. all other found e) (λ e. subst (λ (v : Option Mark). IfSome v (λ m. m.number ≡ number)) e own) (at_snoc views view found other at)

-- who holds a slot where one view was set: its seat by that view, or a seat that held it before
record HeldBySet (views : List (Option Mark)) (seat : ℕ) (view : Option Mark) (one slot : ℕ) : Type 0 where
  same : one ≡ seat
  mark : Mark
  shown : view ≡ Some mark
  holds : mark.held ≡ Some slot

set_held : (C : Type 0) (views : List (Option Mark)) (seat : ℕ) (view : Option Mark) (one slot : ℕ) → IsHolder (set views seat view) one slot
    → (HeldBySet views seat view one slot → C) → (one ≢ seat → IsHolder views one slot → C) → C
set_held C views seat view one slot h by other =
    ⊎_elim (λ e. by (record { same = e.0; mark = h.mark; shown = e.1; holds = h.holds })) (λ e. other e.0 (record { mark = h.mark; shown = e.1; holds = h.holds })) (at_set views seat one view (Some h.mark) h.shown)

-- a view that shows no slot is of no holder
abbrev ShowsNone : Option Mark → Type 0
ShowsNone view = IfSome view (λ m. m.held ≡ None)

none_held : (C : Type 0) (view : Option Mark) (m : Mark) (slot : ℕ) → ShowsNone view → view ≡ Some m → m.held ≡ Some slot → C
none_held C None m slot clear e h = absurd (cc)
none_held C (Some k) m slot clear e h = let same : k ≡ m = cc in absurd (cc)

emptied_shows : (view : Option Mark) → ShowsNone (emptied view)
emptied_shows None = tt
emptied_shows (Some m) = refl

emptied_knows : (number : ℕ) (view : Option Mark) → IfSome view (λ m. m.number ≡ number) → IfSome (emptied view) (λ m. m.number ≡ number)
emptied_knows number None h = tt
emptied_knows number (Some m) h = h

-- where a view that shows no slot is set, whoever holds a slot held it before
free_held : (views : List (Option Mark)) (seat : ℕ) (view : Option Mark) (one slot : ℕ) → ShowsNone view → IsHolder (set views seat view) one slot → IsHolder views one slot
free_held views seat view one slot clear h =
    set_held (IsHolder views one slot) views seat view one slot h (λ e. none_held (IsHolder views one slot) view e.mark slot clear e.shown e.holds) (λ ne k. k)

more_held : (views : List (Option Mark)) (view : Option Mark) (one slot : ℕ) → ShowsNone view → IsHolder (views ++ view ∷ []) one slot → IsHolder views one slot
more_held views view one slot clear h =
    ⊎_elim (λ e. record { mark = h.mark; shown = e; holds = h.holds }) (λ e. none_held (IsHolder views one slot) view h.mark slot clear e h.holds) (at_snoc views view (Some h.mark) one h.shown)

one_held : (number : ℕ) (one slot : ℕ) → IsHolder (Some (free number) ∷ []) one slot → ⊥
one_held number one slot h = none_at [] (more_held [] (Some (free number)) one slot refl h)
  where
    none_at : (views : List (Option Mark)) → IsHolder [] one slot → ⊥
    none_at views k = absurd (let e = k.shown in cc)

-- the slot that a view shows
shown_slot : (m : Mark) (slot t : ℕ) (k : Mark) → Some (holding m (Some slot)) ≡ Some k → k.held ≡ Some t → t ≡ slot
shown_slot m slot t k e h = let same : holding m (Some slot) ≡ k = cc in let held : Some slot ≡ k.held = ap (λ (x : Mark). x.held) same in cc

module _ {S : Type 0} where
  -- no slot that a seat shows is where it lies
  abbrev AreOut : List (Place S) → List (Option Mark) → Type 0
  AreOut homes views = (seat slot : ℕ) → IsHolder views seat slot → IsHome homes slot → ⊥

  -- a word of a slot changes, and its slot with it, and a view; the others are as they were
  changed : (number : ℕ) (s : State S (Option Mark)) (slot n : ℕ) (now : Place S) (views : List (Option Mark)) → Stands number s → slot < length s.homes
      → AllKnow number views → AreOut (set s.homes slot now) views → AreApart views → (n ≡ 0 → (value : S) × (now ≡ some value))
      → Stands number (record { words = set s.words (slot + 1) n; homes = set s.homes slot now; views = views })
  changed number s slot n now views h within know out apart here = record {
    sizes = length-set s.words (slot + 1) n ∙ (h.sizes ∙ ap (λ (k : ℕ). k + 1) (sym (length-set s.homes slot now)));
    number_is = get_or-set_other s.words (slot + 1) 0 n 0 (λ e. omega (arith, e)) ∙ h.number_is;
    views = know;
    homes = λ other few empty. dite (ℕ_discrete other slot) (λ e.
        let at : slice_index (set s.words (slot + 1) n) (slot + 1) ≡ 0 = subst (λ (k : ℕ). slice_index (set s.words (slot + 1) n) (k + 1) ≡ 0) e empty in
        let zero : n ≡ 0 = sym (word_here s.words slot n (omega (arith, h.sizes, within))) ∙ at in
        let value = here zero in record {
          value = value.0;
          there = subst (λ (k : ℕ). get_elem? (set s.homes slot now) k ≡ some (some value.0)) (sym e) (set_here s.homes slot now within ∙ ap some value.1);
        }) (λ ne.
        let few' : other < length s.homes = subst (λ (k : ℕ). other < k) (length-set s.homes slot now) few in
        let home = h.homes other few' (sym (word_else s.words slot other n ne) ∙ empty) in record {
          value = home.value;
          there = set_else s.homes slot other now ne ∙ home.there;
        });
    out = out;
    apart = apart;
  }

  -- only a word of a slot changes, and not to 0
  marked : (number : ℕ) (s : State S (Option Mark)) (slot n : ℕ) (views : List (Option Mark)) → Stands number s → slot < length s.homes → views ≡ s.views → n ≢ 0
      → Stands number (record { words = set s.words (slot + 1) n; homes = s.homes; views = views })
  marked number s slot n views h within same ne0 = record {
    sizes = length-set s.words (slot + 1) n ∙ h.sizes;
    number_is = get_or-set_other s.words (slot + 1) 0 n 0 (λ e. omega (arith, e)) ∙ h.number_is;
    views = rw same h.views;
    homes = λ other few empty. dite (ℕ_discrete other slot) (λ e.
        let at : slice_index (set s.words (slot + 1) n) (slot + 1) ≡ 0 = subst (λ (k : ℕ). slice_index (set s.words (slot + 1) n) (k + 1) ≡ 0) e empty in
        absurd (ne0 (sym (word_here s.words slot n (omega (arith, h.sizes, within))) ∙ at))) (λ ne.
        h.homes other few (sym (word_else s.words slot other n ne) ∙ empty));
    out = rw same h.out;
    apart = rw same h.apart;
  }

  pub opens : (number : ℕ) (words : List ℕ) (slots : List S) → length words ≡ length slots + 1 → slice_index words 0 ≡ number → Stands number (opening words slots (Some (free number)))
  opens number words slots sizes is = record {
    sizes = sizes ∙ ap (λ (k : ℕ). k + 1) (sym (length-map slots some));
    number_is = is;
    views = know_more number [] (Some (free number)) (λ seat view none. absurd cc) refl;
    homes = λ slot few empty.
        let here = some_there slots slot (subst (λ (k : ℕ). slot < k) (length-map slots some) few) in record { value = here.0; there = here.1 };
    out = λ seat slot k home. one_held number seat slot k;
    apart = λ one other slot k l. absurd (one_held number one slot k);
  }

  -- a slot that was emptied is no home, and another that is one was one before
  no_home : (homes : List (Place S)) (slot : ℕ) → slot < length homes → IsHome (set homes slot none) slot → ⊥
  no_home homes slot within h = absurd (let e = sym (set_here homes slot none within) ∙ h.there in cc)

  home_else : (homes : List (Place S)) (slot other : ℕ) (now : Place S) → other ≢ slot → IsHome (set homes slot now) other → IsHome homes other
  home_else homes slot other now ne h = record { value = h.value; there = sym (set_else homes slot other now ne) ∙ h.there }

  -- what the seats show once one of them has taken a slot that was where it lies
  taken_out : (number : ℕ) (s : State S (Option Mark)) (id slot : ℕ) (m : Mark) → Stands number s → slot < length s.homes → IsHome s.homes slot
      → AreOut (set s.homes slot none) (set s.views id (Some (holding m (Some slot))))
  taken_out number s id slot m h few home seat t held there =
      set_held ⊥ s.views id (Some (holding m (Some slot))) seat t held
      (λ e. let same : t ≡ slot = shown_slot m slot t e.mark e.shown e.holds in no_home s.homes slot few (subst (IsHome (set s.homes slot none)) same there))
      (λ ne k. dite (ℕ_discrete t slot) (λ e. h.out seat t k (subst (IsHome s.homes) (sym e) home)) (λ apart. h.out seat t k (home_else s.homes slot t none apart there)))

  taken_apart : (number : ℕ) (s : State S (Option Mark)) (id slot : ℕ) (m : Mark) → Stands number s → IsHome s.homes slot → AreApart (set s.views id (Some (holding m (Some slot))))
  taken_apart number s id slot m h home one other t k l =
      let view = Some (holding m (Some slot)) in
      set_held (one ≡ other) s.views id view one t k
      (λ e. set_held (one ≡ other) s.views id view other t l (λ f. e.same ∙ sym f.same)
      (λ ne f. absurd (h.out other t f (subst (IsHome s.homes) (sym (shown_slot m slot t e.mark e.shown e.holds)) home))))
      (λ ne e. set_held (one ≡ other) s.views id view other t l (λ f. absurd (h.out one t e (subst (IsHome s.homes) (sym (shown_slot m slot t f.mark f.shown f.holds)) home)))
      (λ nf f. h.apart one other t e f))

  pub takes_it : (number slots id slot : ℕ) (m : Mark) (me : Me S (Option Mark)) → me.0 ≡ Some m → slot < slots → Allows (Stands number) slots id me (slot + 1) (λ _. 1) (Found (step slots (slot + 1) 1 0 none) me)
  takes_it number slots id slot m me is within s h count at small =
      let few : slot < length s.homes = rw count within in
      dite (ℕ_discrete (slice_index s.words (slot + 1)) 0)
      (λ e. let home = h.homes slot few e in let same : slot ≡ (slot + 1) - 1 = omega arith in
      let knows : m.number ≡ number = h.views id (Some m) (at ∙ ap some is) in (
        Some (holding m (Some slot)),
        takes slot home.value,
        home.there,
        changed number s slot 1 none _ h few (know_set number s.views id (Some (holding m (Some slot))) h.views knows) (taken_out number s id slot m h few home) (taken_apart number s id slot m h home) (λ bad. absurd (omega (arith, bad))),
        record {
          some = λ _. record {
            value = home.value;
            view = subst (λ (v : Option Mark). IfSome v (λ k. Some (holding m (Some slot)) ≡ Some (holding k (Some ((slot + 1) - 1))))) (sym is) (ap (λ (k : ℕ). Some (holding m (Some k))) same);
            slots = ap (λ (k : ℕ). (k, home.value) ∷ me.1) same;
          };
          none = λ ne. absurd (ne e);
        },
      ))
      (λ ne. (
        me.0,
        keeps,
        tt,
        marked number s slot 1 _ h few (set_again s.views id me.0 at) (λ bad. omega (arith, bad)),
        record { some = λ e. absurd (ne e); none = λ _. refl },
      ))

  pub gives_it : (number slots id slot : ℕ) (m : Mark) (me : Me S (Option Mark)) (value : S) (left : List (ℕ × S)) → me.0 ≡ Some m → m.held ≡ Some slot → me.1 ≡ (slot, value) ∷ left → slot < slots
      → Allows (Stands number) slots id me (slot + 1) (λ _. 0) (λ _. Puts (step slots (slot + 1) 0 0 none) me 0)
  gives_it number slots id slot m me value left shows held is within s h count at small =
      let few : slot < length s.homes = rw count within in
      let own : IsHolder s.views id slot = record { mark = m; shown = at ∙ ap some shows; holds = held } in
      let view = emptied me.0 in
      let clear = emptied_shows me.0 in (
        view,
        gives,
        tt,
        rw is (changed number s slot 0 (some value) (set s.views id view) h few (know_set number s.views id view h.views (emptied_knows number me.0 (h.views id me.0 at)))
            (λ seat t k there. set_held ⊥ s.views id view seat t k (λ e. none_held ⊥ view e.mark t clear e.shown e.holds)
            (λ ne l. dite (ℕ_discrete t slot) (λ e. absurd (ne (h.apart seat id slot (subst (IsHolder s.views seat) e l) own))) (λ other. h.out seat t l (home_else s.homes slot t (some value) other there))))
            (λ one other t k l. h.apart one other t (free_held s.views id view one t clear k) (free_held s.views id view other t clear l))
            (λ _. (value, refl))),
        refl,
      )

  pub reads_it : (number slots id : ℕ) (me : Me S (Option Mark)) → Allows (Stands number) slots id me 0 (λ n. n) (IsNumber (step slots 0 0 0 none) me)
  reads_it number slots id me s h count at small = (
    me.0,
    keeps,
    tt,
    rw (set-get_or s.words 0 0, set_again s.views id me.0 at) h,
    (refl, known me.0 (h.views id me.0 at)),
  )
    where
      known : (view : Option Mark) → IfSome view (λ m. m.number ≡ number) → IfSome view (λ m. slice_index s.words 0 ≡ m.number)
      known None e = e
      known (Some m) e = h.number_is ∙ sym e

  pub splits_it : (number id : ℕ) (view : Option Mark) → Splits {S = S} (Stands number) id view view (emptied view)
  splits_it number id view s h at =
      let same = set_again s.views id view at in
      let before : (one slot : ℕ) → IsHolder (set s.views id view ++ emptied view ∷ []) one slot → IsHolder s.views one slot =
      λ one slot k. subst (λ (vs : List (Option Mark)). IsHolder vs one slot) same (more_held (set s.views id view) (emptied view) one slot (emptied_shows view) k) in record {
        sizes = h.sizes;
        number_is = h.number_is;
        views = know_more number (set s.views id view) (emptied view) (know_set number s.views id view h.views (h.views id view at)) (emptied_knows number view (h.views id view at));
        homes = h.homes;
        out = λ seat slot k. h.out seat slot (before seat slot k);
        apart = λ one other slot k l. h.apart one other slot (before one slot k) (before other slot l);
      }

  pub joins_it : (number id other : ℕ) (view past : Option Mark) → Joins {S = S} (Stands number) id view other past view None
  joins_it number id other view past s h at apart found =
      let same = set_again s.views id view at in
      let before : (one slot : ℕ) → IsHolder (set (set s.views id view) other None) one slot → IsHolder s.views one slot =
      λ one slot k. subst (λ (vs : List (Option Mark)). IsHolder vs one slot) same (free_held (set s.views id view) other None one slot tt k) in record {
        sizes = h.sizes;
        number_is = h.number_is;
        views = know_set number (set s.views id view) other None (know_set number s.views id view h.views (h.views id view at)) tt;
        homes = h.homes;
        out = λ seat slot k. h.out seat slot (before seat slot k);
        apart = λ one two slot k l. h.apart one two slot (before one slot k) (before two slot l);
      }
