-- What an open book keeps, from one filing to the next.
use Rattle.std.proofs.Common.{◌≡◌, List, [], ◌∷◌, ◌++◌, map, append-nil, Global, refl, sym, ap, subst, ◌∙◌}
use Rattle.std.specs.Arc.{arc_value}
use Rattle.std.specs.List.{AllZip}
use Rattle.std.specs.declared.sync.Arc.{Arc}
use Rattle.std.proofs.lemmas.List.{map-append}
use Rattle.fare_law.specs.declared.filings.Filing.{Filing}
use Rattle.fare_law.specs.Book.{Book, Timetable, actions, live_fare, live_rule, live_seats}
use Rattle.fare_law.specs.Faults.{filed}
use Rattle.fare_book.specs.Drafts.{Drafts, FaresKept, Keeping, drafted_seats}
use Rattle.fare_book.specs.Keeping.{Keeps}
use Rattle.fare_book.specs.Opened.{KeepsDraft}
use Rattle.fare_book.specs.declared.draft.Draft.{Draft}
use Rattle.fare_book.proofs.Following.{filed_actions, same_fares, same_rules, same_seats}
use Rattle.fare_book.proofs.Versions.{book_drafts}

each_same : {X : Type 0} (R : X → X → Type 0) → ((x : X) → R x x) → (xs : List X) → AllZip R xs xs
each_same R same [] = tt
each_same R same (x ∷ xs) = (same x, each_same R same xs)

-- what a book keeps, the draft that it becomes keeps
pub opened : (b : Book) (d : Draft) → Keeps b d.sheets.entries d.rules.entries d.uses.entries d.fare_count d.rule_count (drafted_seats d) → d.tables.entries ≡ [] → d.changed.keys ≡ [] → KeepsDraft b d
opened b d k untouched unchanged =
    let parts = book_drafts b d.sheets.entries d.sheets.entries d.rules.entries d.rules.entries d.uses.entries d.uses.entries d.fare_count d.rule_count (drafted_seats d) (drafted_seats d)
    k (each_same _ (λ p. (refl, refl)) d.sheets.entries) (each_same _ (λ p. (refl, refl)) d.rules.entries) refl refl in
    record {
      history = k.history;
      drafts = record {
        fares_kept = subst (λ ch. FaresKept (live_fare b) (live_rule b) ch d.sheets.entries d.tables.entries d.fare_count d.uses.entries) (sym unchanged)
            (subst (λ ts. FaresKept (live_fare b) (live_rule b) [] d.sheets.entries ts d.fare_count d.uses.entries) (sym untouched) parts.0);
        rules_kept = parts.1;
        seats_kept = parts.2;
        stand = k.counted.stand;
      };
    }

-- a filing of no action leaves what was live
pub nothing_filed : (b : Book) (d : Draft) → Drafts (filed b []) d → Drafts b d
nothing_filed b d k =
    let same : actions (filed b []) ≡ actions b = filed_actions b [] ∙ append-nil (actions b) in
    subst (λ f. Keeping f (live_rule b) (live_seats b) d) (same_fares b (filed b []) refl same)
    (subst (λ r. Keeping (live_fare (filed b [])) r (live_seats b) d) (same_rules b (filed b []) refl same)
    (subst (λ s. Keeping (live_fare (filed b [])) (live_rule (filed b [])) s d) (same_seats b (filed b []) refl same) k))

-- what a book shows after an entry is pushed
pub entered : (b : Book) (timetable : Arc Timetable Global) (old new : List (Arc Filing Global)) (filing : Arc Filing Global) → record { timetable = arc_value timetable; entries = map arc_value old } ≡ b → new ≡ old ++ filing ∷ []
    → ◌≡◌ {A = Book} (record { timetable = arc_value timetable; entries = map arc_value new }) (record { timetable = b.timetable; entries = b.entries ++ arc_value filing ∷ [] })
entered b timetable old new filing view pushed =
    let times : arc_value timetable ≡ b.timetable = ap (λ (v : Book). v.timetable) view in
    let all : map arc_value new ≡ b.entries ++ arc_value filing ∷ [] = ap (map arc_value) pushed ∙ map-append arc_value old (filing ∷ []) ∙ ap (λ (v : Book). v.entries ++ arc_value filing ∷ []) view in
    λ i. record { timetable = times i; entries = all i }

-- what a book of the same entries shows
pub copied : (b : Book) (timetable new_timetable : Arc Timetable Global) (entries new_entries slice : List (Arc Filing Global)) → record { timetable = arc_value timetable; entries = map arc_value entries } ≡ b → arc_value new_timetable ≡ arc_value timetable → slice ≡ entries → map arc_value new_entries ≡ map arc_value slice
    → ◌≡◌ {A = Book} (record { timetable = arc_value new_timetable; entries = map arc_value new_entries }) b
copied b timetable new_timetable entries new_entries slice view t s e =
    let times : arc_value new_timetable ≡ b.timetable = t ∙ ap (λ (v : Book). v.timetable) view in
    let all : map arc_value new_entries ≡ b.entries = e ∙ ap (map arc_value) s ∙ ap (λ (v : Book). v.entries) view in
    λ i. record { timetable = times i; entries = all i }
