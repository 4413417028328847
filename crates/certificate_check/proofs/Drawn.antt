-- The least moves of residuals that were drawn: under the bounds of rows, and still those when steps are asked for more.
use Rattle.std.proofs.Common.{◌≡◌, ◌∙◌, ℕ, ◌≤◌, Bool, List, [], ◌∷◌, ◌++◌, length, map, slice_get, Option, Some, None, sym, ap, subst}
use Rattle.certificate.specs.declared.parts.CertRow.{CertRow}
use Rattle.certificate_check.specs.declared.drawings.Drawing.{Drawing}
use Rattle.certificate_check.specs.Drawings.{AreDrawings, AreDrawn, BoundIn, HasDrawing, IsDrawing, IsEnough}
use Rattle.certificate_check.specs.Tables.{IsLater}
use Rattle.certificate_check.proofs.LeastDepartures.{BoundsAre}
use Rattle.certificate_check.proofs.RowTables.{one_row}
use Rattle.fare_law.specs.declared.requests.Request.{Request}
use Rattle.fare_law.specs.Book.{Book}
use Rattle.fare_law.specs.Lists.{AllDifferent}
use Rattle.graph_walk.specs.Steps.{TellsStates}
use Rattle.residual_keys.specs.Residuals.{State}
use Rattle.residual_table.specs.declared.key.ResidualKey.{ResidualKey}
use Rattle.search_steps.specs.declared.least.LeastMove.{LeastMove}
use Rattle.search_steps.specs.declared.steps.SearchSteps.{SearchSteps}
use Rattle.search_steps.specs.Keys.{live, state}
use Rattle.search_steps.specs.LeastMoves.{AreLeastMoves, Counts, RestIs, least_as}
use Rattle.law_lemmas.proofs.EachOne.{each_got, each_more, each_weaker}
use Rattle.law_lemmas.proofs.Lists.{got_last}
use Rattle.law_lemmas.proofs.Options.{some_same}

counts_as : (b : Book) (q : Request) (Bound Known : State → ℕ → Type 0) → ((x : State) (n : ℕ) → Bound x n → Known x n) → (x : State) (m : LeastMove State) → Counts b q Bound x m → Counts b q Known x m
counts_as b q Bound Known f x m c = record { move = c.move; rest = c.rest; bound = by m.next c.bound; total = c.total }
  where
    by : (next : Option State) → RestIs Bound next c.rest → RestIs Known next c.rest
    by None h = h
    by (Some y) h = f y c.rest h

-- moves that are the least under bounds which are those of the rows
pub drawn_under : (b : Book) (q : Request) (rows : List CertRow) (Bound : State → ℕ → Type 0) → BoundsAre rows Bound → (left : ResidualKey → State) (x : State) (wanted : ℕ) (ms : List (LeastMove ResidualKey))
    → AreLeastMoves b q Bound x wanted (map (least_as left) ms) → AreDrawn b q rows x wanted ms
drawn_under b q rows Bound bounds left x wanted ms k = record {
  left = left;
  least = record {
    ascending = k.ascending;
    each = each_weaker (Counts b q Bound x) (Counts b q (BoundIn rows) x) (λ m c. counts_as b q Bound (BoundIn rows) (λ y n. (bounds y n).0) x m c) (map (least_as left) ms) k.each;
    few = k.few;
    rest = λ m c out. k.rest m (counts_as b q (BoundIn rows) Bound (λ y n. (bounds y n).1) x m c) out;
  };
}

-- the bounds of rows are those of rows, and of each residual one
pub rows_are : (rows : List CertRow) → BoundsAre rows (BoundIn rows)
rows_are rows x rest = (λ h. h, λ h. h)

pub one_in : (rows : List CertRow) → AllDifferent (map (λ row. row.residual) rows) → (x : State) (m n : ℕ) → BoundIn rows x m → BoundIn rows x n → m ≡ n
one_in rows differ x m n (r, i, e, f) (s, j, g, h) = some_same m n (sym f ∙ ap (λ z. z.bound) (one_row rows differ r s i j (e ∙ sym g)) ∙ h)

-- drawings stay what they are
pub drawings_still : (s t : SearchSteps) (rows : List CertRow) → IsLater s t → (ds : List Drawing) → AreDrawings s rows ds → AreDrawings t rows ds
drawings_still s t rows later ds h = each_weaker (IsDrawing s rows) (IsDrawing t rows) still ds h
  where
    still : (d : Drawing) → IsDrawing s rows d → IsDrawing t rows d
    still d k =
        let kept = later.keeps d.key k.live in record {
          live = kept.0;
          drawn =
              subst (λ z. AreDrawn z t.case.request.now rows (state t d.key) d.wanted d.moves) (sym later.case.book) (subst (λ z. AreDrawn s.case.book.now z rows (state t d.key) d.wanted d.moves) (sym later.case.request)
              (subst (λ z. AreDrawn s.case.book.now s.case.request.now rows z d.wanted d.moves) (sym kept.1) k.drawn));
        }

-- what stands at a place that has the key
pub drawing_known : (s : SearchSteps) (rows : List CertRow) (same : ResidualKey → ResidualKey → Bool) → TellsStates (live s) (state s) same → (key : ResidualKey) → live s key → (wanted : ℕ) (ds : List Drawing) (place : ℕ) → AreDrawings s rows ds
    → IsEnough same key wanted ds place → HasDrawing s.case.book.now s.case.request.now rows (state s key) wanted ds place
drawing_known s rows same tells key alive wanted ds place are is =
    let d = each_got (IsDrawing s rows) ds place is.drawing are is.stands in record {
      drawing = is.drawing;
      stands = is.stands;
      enough = is.enough;
      drawn = subst (λ z. AreDrawn s.case.book.now s.case.request.now rows z is.drawing.wanted is.drawing.moves) (sym ((tells key is.drawing.key alive d.live).0 is.same)) d.drawn;
    }

-- one more at the end
pub drawings_more : (s t : SearchSteps) (rows : List CertRow) → IsLater s t → (old new : List Drawing) (d : Drawing) → new ≡ old ++ d ∷ [] → AreDrawings s rows old → live s d.key → AreDrawn s.case.book.now s.case.request.now rows (state s d.key) d.wanted d.moves → AreDrawings t rows new
drawings_more s t rows later old new d is are alive drawn = drawings_still s t rows later new (subst (AreDrawings s rows) (sym is) (each_more (IsDrawing s rows) old d are (record { live = alive; drawn = drawn })))

pub drawing_last : (b : Book) (q : Request) (rows : List CertRow) (x : State) (wanted : ℕ) (old new : List Drawing) (d : Drawing) (place : ℕ) → new ≡ old ++ d ∷ [] → place ≡ length old → wanted ≤ d.wanted → AreDrawn b q rows x d.wanted d.moves → HasDrawing b q rows x wanted new place
drawing_last b q rows x wanted old new d place is at enough drawn = record { drawing = d; stands = ap (λ ds. slice_get ds place) is ∙ ap (slice_get (old ++ d ∷ [])) at ∙ got_last old d; enough = enough; drawn = drawn }
