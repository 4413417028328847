use Rattle.std.proofs.Common.{◌≡◌, true, false, is_some, Some, Result, Ok, Err, refl, sym, subst, ◌∙◌, inl, inr, arith, IsErrOf, IsErrAnd}
use Rattle.std.specs.BTreeMap.{is_at}
use Rattle.std.specs.Map.{lookup}
use Rattle.seat_classes.specs.contracts.row_name.RowNameOrd.TheImpl as name
use Rattle.seat_classes.specs.Held.{Changes, HasNoRoom}
use Rattle.seat_classes.specs.declared.faults.SeatPut.{SeatPut}
use Rattle.seat_classes.specs.declared.faults.SeatPut.TheVariants.{Full, Mem}
use Rattle.seat_classes.proofs.HeldLemmas.{changes_from, no_room, room}
use Rattle.seat_classes.proofs.seats.Seats.put.Goals as goal
use Rattle.seat_classes.proofs.seats.Seats.put.Goals.{else-len-eq-MOST_SEAT_ROWS-via-then-len-eq-MOST_SEAT_ROWS+else-not-contains_key, else-len-eq-MOST_SEAT_ROWS-via-else-len-eq-MOST_SEAT_ROWS}

-- want of memory is no want of room
not_full : (r : Result (Unit {0}) SeatPut) → IsErrAnd r (λ e. e ≡ Mem) → IsErrOf r Full → ⊥
not_full (Ok x) h f = h
not_full (Err e) h f = clash h f
  where
    clash : e ≡ Mem → ◌≡◌ {A = Result (Unit {0}) SeatPut} (Err e) (Err Full) → ⊥
    clash p q = cc

no_fault : ◌≡◌ {A = Result (Unit {0}) SeatPut} (Ok (tt {0})) (Err Full) → ⊥
no_fault q = cc

pub returns-then-not-contains_key-clause-full : goal.returns-then-not-contains_key-clause-full
returns-then-not-contains_key-clause-full c =
    let held = c.self.inside.rows.entries in
    let key = c.args.key.now in
    let none : HasNoRoom c.args.self.now key =
    subst (λ h. HasNoRoom h key) c.self.view_is
    (no_room held key c.len.ensures.ordered (sym c.len.ensures.len ∙ c.if-len-eq-MOST_SEAT_ROWS.true) (subst (λ k. is_some (lookup (is_at (name.ghosts.cmp k)) held) ≡ false) c.of-name.ensures (sym c.contains_key.ensures ∙ c.if-not-contains_key.true))) in
    (λ _. none, λ _. refl)

pub returns-in_err-insert-clause-full : goal.returns-in_err-insert-clause-full
returns-in_err-insert-clause-full c =
    let held = c.self.inside.rows.entries in
    let key = c.args.key.now in (
      λ full. absurd (not_full c.from_residual.result c.from_residual.ensures.1 full),
      λ none.
          let none_held : HasNoRoom held key = subst (λ h. HasNoRoom h key) (sym c.self.view_is) none in
          absurd (elim c.else-len-eq-MOST_SEAT_ROWS.branch [
            | else-len-eq-MOST_SEAT_ROWS-via-then-len-eq-MOST_SEAT_ROWS+else-not-contains_key w ↦ room held key (inr (subst (λ k. is_some (lookup (is_at (name.ghosts.cmp k)) held) ≡ true) c.of-name.ensures (sym w.contains_key.ensures ∙ w.if-not-contains_key.false))) none_held
            | else-len-eq-MOST_SEAT_ROWS-via-else-len-eq-MOST_SEAT_ROWS w ↦ room held key (inl (omega (arith, c.self.invariant, c.len.ensures.len, w.if-len-eq-MOST_SEAT_ROWS.false))) none_held
          ]),
    )

pub returns-clause-row : goal.returns-clause-row
returns-clause-row c =
    let key = c.args.key.now in
    let new = c.insert.new.self.entries in
    let seats = Some c.args.seats.now in
    subst (λ held. Changes held new key seats) c.self.view_is (subst (λ k. Changes c.self.inside.rows.entries new k seats) c.of-name.ensures (changes_from c.self.inside.rows.entries new c.of-name.result seats c.in_ok-insert.ensures.updates.0))

pub returns-clause-full : goal.returns-clause-full
returns-clause-full c =
    let held = c.self.inside.rows.entries in
    let key = c.args.key.now in (
      λ full. absurd (no_fault full),
      λ none.
          let none_held : HasNoRoom held key = subst (λ h. HasNoRoom h key) (sym c.self.view_is) none in
          absurd (elim c.else-len-eq-MOST_SEAT_ROWS.branch [
            | else-len-eq-MOST_SEAT_ROWS-via-then-len-eq-MOST_SEAT_ROWS+else-not-contains_key w ↦ room held key (inr (subst (λ k. is_some (lookup (is_at (name.ghosts.cmp k)) held) ≡ true) c.of-name.ensures (sym w.contains_key.ensures ∙ w.if-not-contains_key.false))) none_held
            | else-len-eq-MOST_SEAT_ROWS-via-else-len-eq-MOST_SEAT_ROWS w ↦ room held key (inl (omega (arith, c.self.invariant, c.len.ensures.len, w.if-len-eq-MOST_SEAT_ROWS.false))) none_held
          ]),
    )
