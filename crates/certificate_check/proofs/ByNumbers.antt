-- Rows by numbers: their entries, what is live of them, their order by ranks, and the first that is wrong.
use Rattle.std.proofs.Common.{◌≡◌, ◌↔◌, ◌∙◌, ℕ, zero, suc, ◌+◌, ◌<◌, false, List, [], ◌∷◌, length, map, take, drop, get_or, slice_get, Some, option_map, refl, sym, ap, subst, arith}
use Rattle.std.proofs.lemmas.List.{map-append}
use Rattle.certificate.specs.declared.numbered.NumberedRow.{NumberedRow}
use Rattle.certificate.specs.declared.parts.CertRow.{CertRow}
use Rattle.certificate.specs.InOrder.{AllRight, FirstWrong, IfLast}
use Rattle.certificate.specs.NumberedRows as Numbered
use Rattle.certificate.specs.NumberedRows.{bound_of, key_of}
use Rattle.certificate_check.specs.Tables.{HasRows, entries_of, row_as}
use Rattle.certificate_check.proofs.EachSoFar.{got_again}
use Rattle.certificate_check.proofs.FromFront.{all_push, split_at, take_length}
use Rattle.certificate_check.proofs.RowTables.{Entry}
use Rattle.open_unit.specs.declared.marks.CarrierMark.TheVariants.{NotYet}
use Rattle.graph_walk.specs.Steps.{AreLive, rows_of}
use Rattle.residual_table.specs.declared.key.ResidualKey.{ResidualKey}
use Rattle.residual_table.specs.Keys.{IsLive, StandsFor, Tables, residual_at}
use Rattle.search_steps.specs.declared.steps.SearchSteps.{SearchSteps}
use Rattle.law_lemmas.proofs.Lists.{front_is, map_length}
use Rattle.residual_table.proofs.KeyFacts.{residual_is}

-- the entries of rows have the rows
entries_live : (t : Tables) (ns : List NumberedRow) → Numbered.AreLive t ns → AreLive (IsLive t) (entries_of ns)
entries_live t [] h = tt
entries_live t (n ∷ ns) h = (h.0, entries_live t ns h.1)

entries_same : (t : Tables) (ns : List NumberedRow) → rows_of (residual_at t) (entries_of ns) ≡ map row_as (Numbered.rows_of t ns)
entries_same t [] = refl
entries_same t (n ∷ ns) = ap (λ z. (residual_at t (key_of n), bound_of n) ∷ z) (entries_same t ns)

pub entries_have : (s : SearchSteps) (t : Tables) (ns : List NumberedRow) (rows : List CertRow) → s.case.numbers ≡ t → Numbered.AreLive t ns → Numbered.rows_of t ns ≡ rows → HasRows s (entries_of ns) rows
entries_have s t ns rows e l r = record {
  live = subst (λ z. AreLive (IsLive z) (entries_of ns)) (sym e) (entries_live t ns l);
  same = subst (λ z. rows_of (residual_at z) (entries_of ns) ≡ map row_as rows) (sym e) (entries_same t ns ∙ ap (map row_as) r);
}

-- what stands at a place of a list
pub got_mapped : {X Y : Type 0} (f : X → Y) (xs : List X) (i : ℕ) (x : X) → slice_get xs i ≡ Some x → slice_get (map f xs) i ≡ Some (f x)
got_mapped f [] i x e = absurd (cc)
got_mapped f (y ∷ ys) zero x e = let s : y ≡ x = cc in ap (λ z. Some (f z)) s
got_mapped f (y ∷ ys) (suc i) x e = got_mapped f ys i x e

pub key_got : (es : List Entry) (i : ℕ) (key : ResidualKey) (e : Entry) → option_map (λ entry. entry.0) (slice_get es i) ≡ Some key → (get_or es i e).0 ≡ key
key_got [] i key e h = absurd (cc)
key_got (d ∷ es) zero key e h = let s : d.0 ≡ key = cc in s
key_got (d ∷ es) (suc i) key e h = key_got es i key e h

-- the last of rows
pub last_mapped : {X Y : Type 0} (f : X → Y) (P : Y → Type 0) (xs : List X) → IfLast P (map f xs) ↔ IfLast (λ x. P (f x)) xs
last_mapped f P [] = (λ h. h, λ h. h)
last_mapped f P (x ∷ []) = (λ h. h, λ h. h)
last_mapped f P (x ∷ y ∷ ys) = last_mapped f P (y ∷ ys)

-- a live key stands for its residual
pub stands : (t : Tables) (k : ResidualKey) → IsLive t k → StandsFor t k (residual_at t k)
stands t k l = subst (StandsFor t k) (sym (residual_is t k l.0 l.1)) l.1

module _ {X Y : Type 0} (f : X → Y) (Right : List Y → Y → Type 0) (xs : List X) (i : ℕ) where
  -- one more is right
  pub all_mapped : (d : X) → i < length xs → AllRight Right (map f (take i xs)) → Right (map f (take i xs)) (f (get_or xs i d)) → AllRight Right (map f (take (i + 1) xs))
  all_mapped d h all r =
      let x = get_or xs i d in
      subst (AllRight Right) (sym (ap (map f) (front_is xs i x h (got_again xs i d h)) ∙ map-append f (take i xs) (x ∷ []))) (all_push Right (map f (take i xs)) (f x) all r)

  -- this is the first that is wrong
  pub wrong_mapped : (d : X) → i < length xs → AllRight Right (map f (take i xs)) → (Right (map f (take i xs)) (f (get_or xs i d)) → ⊥) → FirstWrong Right (map f xs) (i + 1)
  wrong_mapped d h all denied =
      let x = get_or xs i d in record {
        before = map f (take i xs);
        wrong = f x;
        after = map f (drop (suc i) xs);
        whole = ap (map f) (split_at xs i x h (got_again xs i d h)) ∙ map-append f (take i xs) (x ∷ drop (suc i) xs);
        counted = let l = take_length xs i (omega (arith, h)) in let m = map_length f (take i xs) in omega (arith, l, m);
        earlier = all;
        fails = denied;
      }

-- what an index past the end would give
abbrev pub no_row : NumberedRow
no_row = record { position = 0; first = 0; second = 0; part = record { units = 0; ends = 0; carrier = NotYet }; bounded = false; low = 0; high = 0 }

-- the key of an entry
pub entry_key : (ns : List NumberedRow) (i : ℕ) (key : ResidualKey) → option_map (λ n. key_of n) (slice_get ns i) ≡ Some key → option_map (λ e. e.0) (slice_get (entries_of ns) i) ≡ Some key
entry_key [] i key h = absurd (cc)
entry_key (n ∷ ns) zero key h = h
entry_key (n ∷ ns) (suc i) key h = entry_key ns i key h
