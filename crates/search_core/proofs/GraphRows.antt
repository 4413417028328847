-- The rows of a certificate and the nodes of a graph.
use Rattle.std.proofs.Common.{◌≡◌, ℕ, zero, suc, ◌+◌, ◌≤◌, List, [], ◌∷◌, ◌++◌, length, map, take, slice_get, take-suc, refl, sym, ap, subst, ◌∙◌, Option, Some, option_map, arith}
use Rattle.std.proofs.lemmas.List.{map-append}
use Rattle.std.proofs.lemmas.Option.{get_or_from_slice_get, slice_get_within}
use Rattle.certificate.specs.CertOf.{RowsAre}
use Rattle.certificate.specs.declared.numbered.NumberedRow.{NumberedRow}
use Rattle.certificate.specs.declared.parts.CertRow.{CertRow}
use Rattle.certificate.specs.NumberedRows as Numbered
use Rattle.fare_law.specs.declared.requests.Request.{Request}
use Rattle.fare_law.specs.Book.{Book}
use Rattle.fare_law.specs.Lists.{Each}
use Rattle.graph_walk.specs.Steps.{AreLive, rows_of}
use Rattle.graph_walk.specs.Walks.{states}
use Rattle.pricing_graph.specs.Graphs.{IsGraph}
use Rattle.residual_keys.specs.ResidualOrder.{StateBefore}
use Rattle.residual_keys.specs.Residuals.{State}
use Rattle.residual_keys.specs.Searches.{AreNeeded, Least}
use Rattle.residual_table.specs.declared.key.ResidualKey.{ResidualKey}
use Rattle.residual_table.specs.Keys.{Tables, residual_at}
use Rattle.search_core.specs.Answers.{node_of}

node_at : {K : Type 0} (state : K → State) (entries : List (K × Option ℕ)) (i : ℕ) (row : CertRow)
    → option_map (λ x. x.0) (slice_get (rows_of state entries) i) ≡ Some row.residual → option_map (λ x. x.1) (slice_get entries i) ≡ Some row.bound
    → slice_get (rows_of state entries) i ≡ Some (node_of row)
node_at state [] i row a b = absurd (cc)
node_at state (e ∷ es) zero row a b =
    let x : state e.0 ≡ row.residual = cc in
    let y : e.1 ≡ row.bound = cc in
    λ i. Some (x i, y i)
node_at state (e ∷ es) (suc i) row a b = node_at state es i row a b

take_next : {X : Type 0} (xs : List X) (i : ℕ) (x : X) → slice_get xs i ≡ Some x → take (suc i) xs ≡ take i xs ++ x ∷ []
take_next xs i x e = take-suc xs i x (slice_get_within xs i x e) ∙ ap (λ z. take i xs ++ z ∷ []) (get_or_from_slice_get xs i x x e)

rows_next : {K : Type 0} (state : K → State) (entries : List (K × Option ℕ)) (i : ℕ) (rows rows' : List CertRow) (row : CertRow)
    → map node_of rows ≡ take i (rows_of state entries) → option_map (λ x. x.0) (slice_get (rows_of state entries) i) ≡ Some row.residual
    → option_map (λ x. x.1) (slice_get entries i) ≡ Some row.bound → rows' ≡ rows ++ row ∷ [] → map node_of rows' ≡ take (i + 1) (rows_of state entries)
rows_next state entries i rows rows' row h a b e =
    let next : suc i ≡ i + 1 = omega arith in
    ap (map node_of) e ∙ (map-append node_of rows (row ∷ []) ∙ (ap (λ z. z ++ node_of row ∷ []) h ∙ (sym (take_next (rows_of state entries) i (node_of row) (node_at state entries i row a b)) ∙ ap (λ (n : ℕ). take n (rows_of state entries)) next)))

take_rows : {K : Type 0} (state : K → State) (entries : List (K × Option ℕ)) (n : ℕ) → length entries ≤ n → take n (rows_of state entries) ≡ rows_of state entries
take_rows state [] zero h = refl
take_rows state [] (suc n) h = refl
take_rows state (e ∷ es) zero h = absurd (omega (arith, h))
take_rows state (e ∷ es) (suc n) h = ap (λ z. (state e.0, e.1) ∷ z) (take_rows state es n (omega (arith, h)))

-- the key at a place, as the residual that it stands for
state_at : {K : Type 0} (state : K → State) (entries : List (K × Option ℕ)) (i : ℕ) (k : K) → option_map (λ x. x.0) (slice_get entries i) ≡ Some k → option_map (λ x. x.0) (slice_get (rows_of state entries) i) ≡ Some (state k)
state_at state [] i k h = absurd (cc)
state_at state (e ∷ es) zero k h = let s : e.0 ≡ k = cc in ap (λ z. Some (state z)) s
state_at state (e ∷ es) (suc i) k h = state_at state es i k h

pub live_at : {K : Type 0} (live : K → Type 0) (entries : List (K × Option ℕ)) (i : ℕ) (k : K) → option_map (λ x. x.0) (slice_get entries i) ≡ Some k → AreLive live entries → live k
live_at live [] i k h l = absurd (cc)
live_at live (e ∷ es) zero k h l = subst live (let s : e.0 ≡ k = cc in s) l.0
live_at live (e ∷ es) (suc i) k h l = live_at live es i k h l.1

-- one more row by numbers
pub numbered_next : (t : Tables) (entries : List (ResidualKey × Option ℕ)) (i : ℕ) (ns ns' : List NumberedRow) (n : NumberedRow) (k : ResidualKey) (bound : Option ℕ)
    → map node_of (Numbered.rows_of t ns) ≡ take i (rows_of (residual_at t) entries) → option_map (λ x. x.0) (slice_get entries i) ≡ Some k → option_map (λ x. x.1) (slice_get entries i) ≡ Some bound
    → Numbered.key_of n ≡ k → Numbered.bound_of n ≡ bound → ns' ≡ ns ++ n ∷ [] → map node_of (Numbered.rows_of t ns') ≡ take (i + 1) (rows_of (residual_at t) entries)
numbered_next t entries i ns ns' n k bound h a b p q e =
    rows_next (residual_at t) entries i (Numbered.rows_of t ns) (Numbered.rows_of t ns') (Numbered.row_of t n) h
    (state_at (residual_at t) entries i (Numbered.key_of n) (a ∙ ap (λ z. Some z) (sym p))) (b ∙ ap (λ z. Some z) (sym q)) (ap (Numbered.rows_of t) e ∙ map-append (Numbered.row_of t) ns (n ∷ []))

pub rows_all : {K : Type 0} (state : K → State) (entries : List (K × Option ℕ)) (i : ℕ) (rows : List CertRow) → map node_of rows ≡ take i (rows_of state entries) → length entries ≤ i → map node_of rows ≡ rows_of state entries
rows_all state entries i rows h le = h ∙ take_rows state entries i le

states_of : (rows : List CertRow) → states (map node_of rows) ≡ map (λ row. row.residual) rows
states_of [] = refl
states_of (row ∷ rows) = ap (λ z. row.residual ∷ z) (states_of rows)

bounds_of : (b : Book) (q : Request) (rows : List CertRow) → Each (λ node. Least b q node.0 node.1) (map node_of rows) → Each (λ row. Least b q row.residual row.bound) rows
bounds_of b q [] h = tt
bounds_of b q (row ∷ rows) h = (h.0, bounds_of b q rows h.1)

-- The rows of a graph are those of a certificate.
pub rows_are : (b : Book) (q : Request) (rows : List CertRow) (nodes : List (State × Option ℕ)) → map node_of rows ≡ nodes → IsGraph b q nodes → RowsAre b q rows
rows_are b q rows nodes e g = record {
  need = subst (AreNeeded StateBefore b q) (ap states (sym e) ∙ states_of rows) g.needed;
  bounds = bounds_of b q rows (subst (Each (λ node. Least b q node.0 node.1)) (sym e) g.least);
}
