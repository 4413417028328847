-- The rows of a sheet are the live fares of its market.
use Rattle.std.proofs.Common.{◌≡◌, Option, Some, None, refl, sym, ap, ◌∙◌, Bor}
use Rattle.std.specs.Option.{MatchOption}
use Rattle.fare_law.specs.declared.fares.Fare.{Fare}
use Rattle.fare_law.specs.declared.fares.FareKey.{FareKey}
use Rattle.fare_law.specs.declared.rules.Rule.{Rule}
use Rattle.fare_law.specs.declared.sheets.SheetRow.{SheetRow}
use Rattle.fare_law.specs.Book.{Book, live_fare, live_rule}
use Rattle.fare_law.specs.Lists.{Each, IsIn}
use Rattle.fare_law.specs.Sheets.{IsLiveRow, Sheet, SheetOf}
use Rattle.fare_book.specs.Keeping.{RulesStand}
use Rattle.fare_book.specs.Rows.{HasName}
use Rattle.fare_book.proofs.Counting.{in_each}
use Rattle.fare_book.proofs.LastActions.{live_key}
use Rattle.law_lemmas.proofs.Options.{some_of}

key_whole : (a b : FareKey) → a.carrier ≡ b.carrier → a.from ≡ b.from → a.to ≡ b.to → a.basis ≡ b.basis → a ≡ b
key_whole a b c f t s = λ i. record { carrier = c i; from = f i; to = t i; basis = s i }

-- the row of a live fare
pub row_live : (b : Book) (key : FareKey) (fare : Fare) → RulesStand b → live_fare b key ≡ Some fare → (rule : Rule) × IsLiveRow b key.from key.to (record { fare = fare; rule = rule })
row_live b key fare stand l =
    let is : key ≡ fare.key = live_key b key fare l in
    let rule = some_of (live_rule b fare.key.carrier fare.rule) (stand key fare l) in
    (rule.0, record { filed_from = ap (λ k. k.from) (sym is); filed_to = ap (λ k. k.to) (sym is); fare = ap (live_fare b) (sym is) ∙ l; rule = rule.1 })

abbrev pub FareTold : Book → FareKey → Option (Bor SheetRow) → Type 0
FareTold b key r = MatchOption r (live_fare b key ≡ None) (λ row. (live_fare b key ≡ Some row.now.fare) × (live_rule b key.carrier row.now.fare.rule ≡ Some row.now.rule))

pub fare_found : (b : Book) (key : FareKey) (s : Sheet) (r : Option (Bor SheetRow)) → SheetOf b key.from key.to s → RulesStand b
    → MatchOption r (Each (λ row. HasName key row → ⊥) s.rows) (λ row. IsIn row.now s.rows × HasName key row.now) → FareTold b key r
fare_found b key s None is stand m = by (live_fare b key) refl
  where
    by : (o : Option Fare) → live_fare b key ≡ o → live_fare b key ≡ None
    by None e = e
    by (Some fare) e =
        let row = row_live b key fare stand e in
        let same : key ≡ fare.key = live_key b key fare e in
        absurd (in_each (λ row. HasName key row → ⊥) (record { fare = fare; rule = row.0 }) s.rows ((is.live (record { fare = fare; rule = row.0 })).1 row.1) m (ap (λ k. k.carrier) (sym same), ap (λ k. k.basis) (sym same)))
fare_found b key s (Some r) is stand m =
    let live : IsLiveRow b key.from key.to r.now = (is.live r.now).0 m.0 in
    let same : r.now.fare.key ≡ key = key_whole r.now.fare.key key m.1.0 live.filed_from live.filed_to m.1.1 in
    (ap (live_fare b) (sym same) ∙ live.fare, ap (λ k. live_rule b k.carrier r.now.fare.rule) (sym same) ∙ live.rule)
