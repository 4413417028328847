-- A filing has one fault at most in a book, and so have seat rows.
use Rattle.std.proofs.Common.{◌≡◌, ◌≢◌, ℕ, suc, eqb, cond, List, [], ◌∷◌, ◌++◌, length, map, refl, sym, ap, subst, ◌∙◌, inl, inr, arith}
use Rattle.fare_law.specs.declared.filings.Action.{Action}
use Rattle.fare_law.specs.declared.filings.BookWhy.{BookWhy}
use Rattle.fare_law.specs.declared.filings.BookWhy.TheVariants.{SamePlace, OddRound, NoRule, RuleInUse, NoFare, Limit, NoSeats}
use Rattle.fare_law.specs.declared.filings.Filing.{Filing}
use Rattle.fare_law.specs.declared.filings.SeatKey.{SeatKey}
use Rattle.fare_law.specs.declared.rows.SeatRow.{SeatRow}
use Rattle.fare_law.specs.Book.{Book, row_key}
use Rattle.fare_law.specs.Faults.{Fault, FaultOf, filed, reason_number}
use Rattle.fare_law.specs.Lists.{AllDifferent, Each, IsIn}
use Rattle.schedule_book.proofs.Rows.{splits}
use Rattle.seat_classes.specs.Given.{FirstRepeat}
use Rattle.law_lemmas.proofs.Numbers.{both_least}

-- ---- filings
reason : ℕ → BookWhy
reason n =
    cond (eqb n 1) SamePlace (cond (eqb n 2) OddRound (cond (eqb n 3) NoRule (cond (eqb n 4) RuleInUse
    (cond (eqb n 5) NoFare (cond (eqb n 6) Limit NoSeats)))))

numbered : (why : BookWhy) → reason (reason_number why) ≡ why
unfolding reason
numbered SamePlace = refl
numbered OddRound = refl
numbered NoRule = refl
numbered RuleInUse = refl
numbered NoFare = refl
numbered Limit = refl
numbered NoSeats = refl

least_one : (b : Book) (action : Action) (why other : BookWhy) → FaultOf b action why → FaultOf b action other → why ≡ other
least_one b action why other f g = sym (numbered why) ∙ ap reason (both_least _ _ (f.1 other g.0) (g.1 why f.0)) ∙ numbered other

pub one_fault : (b : Book) (filing : Filing) (at other : ℕ) (why reason : BookWhy) → Fault b filing at why → Fault b filing other reason → (at ≡ other) × (why ≡ reason)
one_fault b filing at other why reason (inl (z, w, full)) (inl (z2, w2, full2)) = (z ∙ sym z2, w ∙ sym w2)
one_fault b filing at other why reason (inl (z, w, full)) (inr (few, f)) = absurd (omega (arith, full, few))
one_fault b filing at other why reason (inr (few, f)) (inl (z, w, full)) = absurd (omega (arith, full, few))
one_fault b filing at other why reason (inr (few, (xs, x, xt, e, n, f, none))) (inr (few2, (ys, y, yt, e2, n2, f2, none2))) = elim (splits xs x xt ys y yt (sym e ∙ e2)) [
  | inl s ↦
      let here : FaultOf (filed b xs) x reason = subst (λ action. FaultOf (filed b xs) action reason) (sym s.1) (subst (λ before. FaultOf (filed b before) y reason) (sym s.0) f2) in
      (n ∙ ap (λ before. suc (length before)) s.0 ∙ sym n2, least_one (filed b xs) x why reason f here)
  | inr o ↦ elim o [
    | inl s ↦ absurd (none ys y s.0 s.1 reason f2.0)
    | inr s ↦ absurd (none2 xs x s.0 s.1 why f.0)
  ]
]

-- ---- seat rows
each_at : (P : SeatKey → Type 0) (front : List SeatRow) (row : SeatRow) (back : List SeatRow) → Each P (map row_key (front ++ row ∷ back)) → P (row_key row)
each_at P [] row back e = e.0
each_at P (r ∷ front) row back e = each_at P front row back e.1

-- a key that comes again isn't among keys that are all different
comes_again : (front : List SeatRow) (row : SeatRow) (back : List SeatRow) → AllDifferent (map row_key (front ++ row ∷ back)) → IsIn (row_key row) (map row_key front) → ⊥
comes_again [] row back d i = i
comes_again (r ∷ front) row back d (inl e) = each_at (λ key. row_key r ≢ key) front row back d.0 (sym e)
comes_again (r ∷ front) row back d (inr i) = comes_again front row back d.1 i

pub seats_right : (rows : List SeatRow) (line : ℕ) → AllDifferent (map row_key rows) → FirstRepeat rows line → ⊥
seats_right rows line d f = comes_again f.before f.row f.after (subst (λ rs. AllDifferent (map row_key rs)) f.split d) f.repeated

apart : (rows front : List SeatRow) (row : SeatRow) (back : List SeatRow) → AllDifferent (map row_key rows) → IsIn (row_key row) (map row_key front) → rows ≡ front ++ row ∷ back → ⊥
apart rows front row back d i e = comes_again front row back (subst (λ rs. AllDifferent (map row_key rs)) e d) i

pub one_repeat : (rows : List SeatRow) (line other : ℕ) → FirstRepeat rows line → FirstRepeat rows other → line ≡ other
one_repeat rows line other f g = elim (splits f.before f.row f.after g.before g.row g.after (sym f.split ∙ g.split)) [
  | inl s ↦ f.at ∙ ap (λ row. row.line) s.1 ∙ sym g.at
  | inr o ↦ elim o [
    | inl s ↦ absurd (apart f.before g.before g.row s.0 f.differ g.repeated s.1)
    | inr s ↦ absurd (apart g.before f.before f.row s.0 g.differ f.repeated s.1)
  ]
]
