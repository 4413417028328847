-- The residual before the first slice is the root.
use Rattle.std.proofs.Common.{◌≡◌, ◌≤◌, List, [], ◌∷◌, length, slice_get, Some, None, refl, sym, subst, arith}
use Rattle.certificate.specs.declared.parts.CertRow.{CertRow}
use Rattle.certificate.specs.RowCheck.{IsRoot, RootIsRow}
use Rattle.certificate_check.specs.Fronts.{LeadsTo}
use Rattle.fare_law.specs.declared.requests.Request.{Request}
use Rattle.fare_law.specs.declared.requests.Slice.{Slice}
use Rattle.fare_law.specs.Book.{Book}
use Rattle.fare_law.specs.Lists.{IsIn}
use Rattle.flight_paths.specs.declared.positions.Position.{Position}
use Rattle.flight_paths.specs.Positions.{before_slice, position_before}
use Rattle.residual_keys.specs.Residuals.{State, no_part}

starts : (b : Book) (sl : List Slice) → 1 ≤ length sl → (at : Position) × (before_slice b 0 (slice_get sl 0) None ≡ Some at)
starts b [] le = absurd (omega (arith, le))
starts b (s ∷ sl) le = (position_before b 0 s None, refl)

pub root_at : (b : Book) (q : Request) (root : State) → 1 ≤ length q.slices → ((at : Position) → before_slice b 0 (slice_get q.slices 0) None ≡ Some at → root ≡ record { at = at; units = []; part = no_part }) → IsRoot b q root
root_at b q root le is = let s = starts b q.slices le in (s.0, s.1, is s.0 s.1)

-- no move leads to the root from the root, at no price
pub leads_none : (b : Book) (q : Request) (root : State) → IsRoot b q root → LeadsTo b q [] root 0
leads_none b q root is = (root, is, (refl, refl))

pub leads_root : (b c : Book) (q r : Request) (root : State) → c ≡ b → r ≡ q → 1 ≤ length q.slices → ((at : Position) → before_slice c 0 (slice_get r.slices 0) None ≡ Some at → root ≡ record { at = at; units = []; part = no_part }) → LeadsTo b q [] root 0
leads_root b c q r root eb eq le is =
    leads_none b q root (root_at b q root le
    (subst (λ (z : Request). (at : Position) → before_slice b 0 (slice_get z.slices 0) None ≡ Some at → root ≡ record { at = at; units = []; part = no_part }) eq
    (subst (λ (z : Book). (at : Position) → before_slice z 0 (slice_get r.slices 0) None ≡ Some at → root ≡ record { at = at; units = []; part = no_part }) eb is)))

-- the rows that have the root among them
pub root_row : (b : Book) (q : Request) (root : State) (rows : List CertRow) (row : CertRow) → IsRoot b q root → IsIn row rows → row.residual ≡ root → RootIsRow b q rows
root_row b q root rows row is i e = (row, i, subst (IsRoot b q) (sym e) is)
